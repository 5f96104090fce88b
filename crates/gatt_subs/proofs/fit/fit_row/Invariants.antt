use Rattle.std.proofs.Common.{◌≡◌, drop}
use Rattle.std.specs.List.{filter}
use Rattle.att_table.specs.ConfigRow.{is_supported, IsRowOf}
use Rattle.gatt_subs.specs.Fit.{row_fitted, with_entries}
use Rattle.gatt_subs.proofs.fit.fit_row.Given as goal

abbrev pub invariant-loop-place : goal.invariant-loop-place
invariant-loop-place l = record {
  fitted : with_entries l.row (filter (is_supported l.table.attributes) (drop l.place l.other)) ≡ row_fitted l.table.attributes l.other;
  table : IsRowOf l.table.attributes l.row;
}
