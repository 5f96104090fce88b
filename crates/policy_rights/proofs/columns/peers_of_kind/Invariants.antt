use Rattle.std.proofs.Common.{◌≡◌, drop}
use Rattle.policy_rights.specs.Columns.{peers_of_kind, with_peers_of}
use Rattle.policy_rights.proofs.columns.peers_of_kind.Given as goal

-- with those that are left all are taken
abbrev pub invariant-loop-at : goal.invariant-loop-at
invariant-loop-at l = with_peers_of l.column l.peers.items (drop l.at l.keys) ≡ peers_of_kind l.keys l.column
