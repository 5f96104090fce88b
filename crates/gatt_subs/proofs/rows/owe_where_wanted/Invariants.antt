use Rattle.std.proofs.Common.{◌≡◌, ◌++◌, take, drop, map}
use Rattle.gatt_subs.specs.Changes.{with_changes_owed}
use Rattle.gatt_subs.proofs.rows.owe_where_wanted.Given as goal

abbrev pub invariant-loop-place : goal.invariant-loop-place
invariant-loop-place l =
    l.bonds.items ≡ map (with_changes_owed l.changer) (take l.place l.fn.bonds.items) ++ drop l.place l.fn.bonds.items
