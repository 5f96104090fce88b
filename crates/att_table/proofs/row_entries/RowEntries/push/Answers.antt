use Rattle.std.proofs.Common.{◌∙◌, ◌++◌, [], ◌∷◌, ◌<◌, ◌≤◌, length, ap, arith}
use Rattle.att_numbers.specs.Types.{Row}
use Rattle.att_table.proofs.Entries.{none_behind, one_more, length_of}
use Rattle.att_table.proofs.row_entries.RowEntries.push.Goals as goal

pub bounds-self-inside-self-inside : goal.bounds-self-inside-self-inside
bounds-self-inside-self-inside c =
    omega (
      arith,
      c.requires,
      ap length c.self.view_is,
      length_of c.self.inside.handles c.self.inside.bits c.self.inside.len
          (omega (arith, c.self.told.0, c.self.invariant.0)) (omega (arith, c.self.told.1, c.self.invariant.0)),
    )

pub bounds-self-inside-self-inside-2 : goal.bounds-self-inside-self-inside-2
bounds-self-inside-self-inside-2 c =
    omega (
      arith,
      c.requires,
      ap length c.self.view_is,
      length_of c.self.inside.handles c.self.inside.bits c.self.inside.len
          (omega (arith, c.self.told.0, c.self.invariant.0)) (omega (arith, c.self.told.1, c.self.invariant.0)),
    )

pub invariant_of-self : goal.invariant_of-self
invariant_of-self c =
    let row = c.self.inside in (
      omega (
        arith,
        c.requires,
        ap length c.self.view_is,
        length_of row.handles row.bits row.len (omega (arith, c.self.told.0, c.self.invariant.0))
            (omega (arith, c.self.told.1, c.self.invariant.0)),
      ),
      none_behind row.bits row.len c.args.bits c.self.invariant.1,
    )

pub returns : goal.returns
returns c =
    let row = c.self.inside in
    let few : row.len ≤ length row.handles = omega (arith, c.self.told.0, c.self.invariant.0) in
    let also : row.len ≤ length row.bits = omega (arith, c.self.told.1, c.self.invariant.0) in
    let room : row.len < 64 = omega (arith, c.requires, ap length c.self.view_is, length_of row.handles row.bits row.len few also) in
    one_more row.handles row.bits row.len c.args.handle c.args.bits (omega (arith, c.self.told.0, room)) (omega (arith, c.self.told.1, room))
    ∙ ap (λ (of : Row). of ++ (c.args.handle, c.args.bits) ∷ []) c.self.view_is
