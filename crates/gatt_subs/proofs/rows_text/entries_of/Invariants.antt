use Rattle.std.proofs.Common.{◌≡◌, ◌≤◌, drop}
use Rattle.arrayvec.specs.ArrayVec.{array_vec_len}
use Rattle.gatt_subs.specs.RowsText.{entries_of, entries_with}
use Rattle.gatt_subs.proofs.rows_text.entries_of.Given as goal

abbrev pub invariant-loop-place : goal.invariant-loop-place
invariant-loop-place l = record {
  entries : entries_with l.entries.items l.peer (drop l.place l.row) ≡ entries_of l.peer l.row;
  room : array_vec_len l.entries ≤ l.place;
}
