use Rattle.std.proofs.Common.{◌≡◌, ◌≤◌, length, take}
use Rattle.att_table.specs.ConfigRow.{kept_row}
use Rattle.att_table.proofs.config_row.retain_kept.Given as goal

abbrev pub invariant-loop-place : goal.invariant-loop-place
invariant-loop-place l = record {
  kept : l.kept ≡ kept_row l.old.attributes l.new.attributes (take l.place l.entries);
  room : length l.kept ≤ l.place;
}
