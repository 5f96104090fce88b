use Rattle.std.proofs.Common.{◌∙◌, refl, ap, sym, arith}
use Rattle.att_numbers.specs.Types.{Row}
use Rattle.att_table.specs.ConfigRow.{bits_at}
use Rattle.att_table.proofs.Entries.{bits_of_all, bits_found, entry_missing}
use Rattle.att_table.proofs.Rows.{bits_at_missing}
use Rattle.att_table.proofs.row_entries.RowEntries.bits_at.Goals as goal

pub returns-in-Some : goal.returns-in-Some
returns-in-Some c =
    let row = c.self.inside in
    sym (bits_of_all row.handles row.bits row.len c.args.handle c.self.invariant.1 ∙ bits_found row.handles row.bits c.args.handle c.in-Some.place
    c.in-Some.ensures.found)
    ∙ ap (λ (of : Row). bits_at of c.args.handle) c.self.view_is

pub returns-in-None : goal.returns-in-None
returns-in-None c =
    let row = c.self.inside in
    sym (bits_at_missing _ c.args.handle
    (entry_missing row.handles row.bits row.len c.args.handle (omega (arith, c.self.told.1, c.self.invariant.0)) (c.in-None.ensures.missing refl)))
    ∙ ap (λ (of : Row). bits_at of c.args.handle) c.self.view_is
