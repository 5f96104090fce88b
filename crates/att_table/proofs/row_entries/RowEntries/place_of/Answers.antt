use Rattle.std.proofs.Common.{ℕ, ◌==◌, ◌∙◌, refl, ap, sym, arith}
use Rattle.std.specs.List.{position}
use Rattle.att_numbers.specs.Types.{Handle, Row}
use Rattle.att_table.proofs.Entries.{entry_found, entry_beyond, entry_missing}
use Rattle.att_table.proofs.row_entries.RowEntries.place_of.Goals as goal

pub returns-in-Some : goal.returns-in-Some
returns-in-Some c =
    let row = c.self.inside in
    sym (entry_found row.handles row.bits row.len c.args.handle c.in-Some.place (omega (arith, c.self.told.1, c.self.invariant.0)) c.in-Some.ensures.found
    c.if-place-self.true)
    ∙ ap (λ (of : Row). position (λ (entry : Handle × ℕ). entry.0 == c.args.handle) of) c.self.view_is

pub returns-in_default : goal.returns-in_default
returns-in_default c =
    let row = c.self.inside in
    sym (entry_beyond row.handles row.bits row.len c.args.handle c.in-Some.place c.in-Some.ensures.found (omega (arith, c.if-place-self.false)))
    ∙ ap (λ (of : Row). position (λ (entry : Handle × ℕ). entry.0 == c.args.handle) of) c.self.view_is

pub returns-in_default-2 : goal.returns-in_default-2
returns-in_default-2 c =
    let row = c.self.inside in
    sym (entry_missing row.handles row.bits row.len c.args.handle (omega (arith, c.self.told.1, c.self.invariant.0)) (c.in_default.ensures.missing refl))
    ∙ ap (λ (of : Row). position (λ (entry : Handle × ℕ). entry.0 == c.args.handle) of) c.self.view_is
