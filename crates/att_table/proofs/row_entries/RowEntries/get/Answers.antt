use Rattle.std.proofs.Common.{◌∙◌, ◌<◌, ◌≤◌, length, ap, sym, Some, arith}
use Rattle.std.specs.Prelude.{slice_get}
use Rattle.att_numbers.specs.Types.{Row}
use Rattle.att_table.proofs.Entries.{at_place, length_of}
use Rattle.att_table.proofs.row_entries.RowEntries.get.Goals as goal

pub entry_at-requires : goal.entry_at-requires
entry_at-requires c =
    omega (
      arith,
      c.requires,
      c.self.invariant.0,
      ap length c.self.view_is,
      length_of c.self.inside.handles c.self.inside.bits c.self.inside.len
          (omega (arith, c.self.told.0, c.self.invariant.0)) (omega (arith, c.self.told.1, c.self.invariant.0)),
    )

pub returns : goal.returns
returns c =
    let row = c.self.inside in
    let few : row.len ≤ length row.handles = omega (arith, c.self.told.0, c.self.invariant.0) in
    let also : row.len ≤ length row.bits = omega (arith, c.self.told.1, c.self.invariant.0) in
    let within : c.args.place < row.len = omega (arith, c.requires, ap length c.self.view_is, length_of row.handles row.bits row.len few also) in
    ap (λ (of : Row). slice_get of c.args.place) (sym c.self.view_is) ∙ at_place row.handles row.bits row.len c.args.place few also within
    ∙ ap Some (sym c.entry_at.ensures)
