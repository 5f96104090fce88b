use Rattle.std.proofs.Common.{◌≡◌, ◌++◌, take, drop, map}
use Rattle.gatt_subs.specs.Rows.{kept_bond}
use Rattle.gatt_subs.proofs.rows.keep_rows.Given as goal

abbrev pub invariant-loop-place : goal.invariant-loop-place
invariant-loop-place l =
    l.bonds.items ≡ map (kept_bond l.old.attributes l.new.attributes) (take l.place l.fn.bonds.items) ++ drop l.place l.fn.bonds.items
