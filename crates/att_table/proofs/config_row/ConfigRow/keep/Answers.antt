use Rattle.std.proofs.Common.{sym, subst, ap, ◌∙◌}
use Rattle.std.specs.List.{All}
use Rattle.att_table.specs.ConfigRow.{bits_at, kept_bits, IsEntry, HasOneEntryEach, IsRowOf}
use Rattle.att_table.proofs.Kept.{bits_of_kept, entries_of_kept, once_in_kept, row_of_kept}
use Rattle.att_table.proofs.config_row.ConfigRow.keep.Goals as goal

pub invariant_of-self : goal.invariant_of-self
invariant_of-self c =
    let old = c.args.old.now.attributes in
    let new = c.args.new.now.attributes in
    let row = c.self.inside.entries in (
      subst (All IsEntry) (sym c.retain_kept.ensures) (entries_of_kept old new row c.self.invariant.0),
      subst HasOneEntryEach (sym c.retain_kept.ensures) (once_in_kept old new row c.self.invariant.1),
    )

pub returns-clause-table : goal.returns-clause-table
returns-clause-table c =
    subst (IsRowOf c.args.new.now.attributes) (sym c.retain_kept.ensures)
    (row_of_kept c.args.old.now.attributes c.args.new.now.attributes c.self.inside.entries)

pub returns-clause-bits : goal.returns-clause-bits
returns-clause-bits c handle =
    let old = c.args.old.now.attributes in
    let new = c.args.new.now.attributes in
    let row = c.self.inside.entries in
    ap (λ row. bits_at row handle) c.retain_kept.ensures ∙ bits_of_kept old new row handle c.self.invariant.1
    ∙ ap (λ row. kept_bits old new handle (bits_at row handle)) c.self.view_is
