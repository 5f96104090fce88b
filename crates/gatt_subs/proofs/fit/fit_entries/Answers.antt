use Rattle.std.proofs.Common.{◌+◌, drop, ap, sym, subst, ◌∙◌}
use Rattle.std.specs.List.{filter}
use Rattle.att_numbers.specs.Types.{Row}
use Rattle.att_table.specs.ConfigRow.{is_supported, IsRowOf}
use Rattle.gatt_subs.specs.Fit.{with_entries}
use Rattle.gatt_subs.specs.Rows.{row_in}
use Rattle.gatt_subs.proofs.Supported.{fits_entry, passes_entry}
use Rattle.gatt_subs.proofs.fit.fit_entries.Goals as goal
use Rattle.gatt_subs.proofs.fit.fit_entries.Goals.{then-eq, else-eq}

pub loop-entry-preserved : goal.loop-entry-preserved
loop-entry-preserved c =
    let attributes = c.args.table.now.attributes in
    let entries = c.args.entries.now in
    let peer = c.args.peer.now in
    let i = c.loop-entry.entry-index in
    let step : Row → Row = λ row. with_entries row (filter (is_supported attributes) (row_in (drop (i + 1) entries) peer)) in
    elim c.if-eq.branch [
      | then-eq w ↦ record {
        fitted =
            ap step (w.row-is ∙ w.set_supported.ensures.after)
            ∙ fits_entry attributes c.loop-entry.row entries peer i _ c.loop-entry-test.true (sym c.eq.ensures ∙ w.if-eq.true)
            ∙ c.loop-entry.invariant.fitted;
        table = subst (IsRowOf attributes) (sym w.row-is) w.set_supported.ensures.table;
      }
      | else-eq w ↦ record {
        fitted =
            ap step w.row-is
            ∙ passes_entry attributes c.loop-entry.row entries peer i _ c.loop-entry-test.true (sym c.eq.ensures ∙ w.if-eq.false)
            ∙ c.loop-entry.invariant.fitted;
        table = subst (IsRowOf attributes) (sym w.row-is) c.loop-entry.invariant.table;
      }
    ]
