use Rattle.std.proofs.Common.{◌≡◌, drop}
use Rattle.std.specs.List.{filter}
use Rattle.att_table.specs.ConfigRow.{is_supported, IsRowOf}
use Rattle.gatt_subs.specs.Fit.{row_fitted, with_entries}
use Rattle.gatt_subs.specs.Rows.{row_in}
use Rattle.gatt_subs.proofs.fit.fit_entries.Given as goal

abbrev pub invariant-loop-entry : goal.invariant-loop-entry
invariant-loop-entry l = record {
  fitted : with_entries l.row (filter (is_supported l.table.attributes) (row_in (drop l.entry-index l.entries) l.peer))
      ≡ row_fitted l.table.attributes (row_in l.entries l.peer);
  table : IsRowOf l.table.attributes l.row;
}
