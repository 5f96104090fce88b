use Rattle.std.proofs.Common.{ℕ, ◌==◌, ◌∙◌, ap, sym, arith}
use Rattle.std.specs.List.{position}
use Rattle.att_numbers.specs.Types.{Handle, Row}
use Rattle.att_table.specs.ConfigRow.{with_bits}
use Rattle.att_table.proofs.Entries.{set_found_at}
use Rattle.att_table.proofs.row_entries.RowEntries.overwrite.Goals as goal

pub returns-in-Some-clause-written : goal.returns-in-Some-clause-written
returns-in-Some-clause-written c =
    let row = c.self.inside in
    let found = ap (λ (of : Row). position (λ (entry : Handle × ℕ). entry.0 == c.args.handle) of) c.self.view_is ∙ sym c.place_of.ensures ∙ c.in-Some.is in
    set_found_at row.handles row.bits row.len c.args.handle c.args.bits c.in-Some.place (omega (arith, c.self.told.0, c.self.invariant.0))
    (omega (arith, c.self.told.1, c.self.invariant.0)) found
    ∙ ap (λ (of : Row). with_bits of c.args.handle c.args.bits) c.self.view_is
