use Rattle.std.proofs.Common.{◌≡◌, ◌++◌, drop}
use Rattle.gatt_subs.specs.RowsText.{owed_peers}
use Rattle.gatt_subs.proofs.contents.all_owed.Given as goal

abbrev pub invariant-loop-place : goal.invariant-loop-place
invariant-loop-place l = l.owed.items ++ owed_peers (drop l.place l.peers) (drop l.place l.bonds) ≡ owed_peers l.peers l.bonds
