use Rattle.std.proofs.Common.{◌≡◌, ◌++◌, drop}
use Rattle.gatt_subs.specs.RowsText.{bond_entries}
use Rattle.gatt_subs.proofs.contents.all_entries.Given as goal

abbrev pub invariant-loop-place : goal.invariant-loop-place
invariant-loop-place l = l.entries.items ++ bond_entries (drop l.place l.peers) (drop l.place l.bonds) ≡ bond_entries l.peers l.bonds
