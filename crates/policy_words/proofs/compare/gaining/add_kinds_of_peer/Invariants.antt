use Rattle.std.proofs.Common.{◌≡◌, ◌++◌, drop}
use Rattle.std.specs.List.{flat_map}
use Rattle.policy_words.specs.compare.Gains.{kind_of_peer}
use Rattle.policy_words.proofs.compare.gaining.add_kinds_of_peer.Given as goal

-- what is there and what is left are all
abbrev pub invariant-loop-at : goal.invariant-loop-at
invariant-loop-at l =
    l.kinds.items ++ flat_map (kind_of_peer l.fn.peer) (drop l.at l.fn.keys)
    ≡ l.fn.kinds.items ++ flat_map (kind_of_peer l.fn.peer) l.fn.keys
