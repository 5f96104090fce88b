use Rattle.std.proofs.Common.{◌≡◌, drop}
use Rattle.gatt_subs.specs.Fit.{peers_of, peers_with}
use Rattle.gatt_subs.proofs.fit.peers_of.Given as goal

abbrev pub invariant-loop-at : goal.invariant-loop-at
invariant-loop-at l = peers_with l.peers.items (drop l.at l.keys) ≡ peers_of l.keys
