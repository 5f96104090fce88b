use Rattle.std.proofs.Common.{◌≡◌, take, map}
use Rattle.gatt_subs.specs.Fit.{fitted_bond}
use Rattle.gatt_subs.proofs.rows.Rows.fitted_bonds.Given as goal

abbrev pub invariant-loop-peer : goal.invariant-loop-peer
invariant-loop-peer l = l.bonds.items ≡ map (fitted_bond l.table l.self) (take l.peer-index l.peers)
