use Rattle.std.proofs.Common.{◌≡◌, ◌++◌, drop}
use Rattle.std.specs.List.{flat_map}
use Rattle.policy_words.specs.compare.Before.{one_held}
use Rattle.policy_words.proofs.compare.before.add_before.Given as goal

-- those so far and those that are left are all
abbrev pub invariant-loop-key : goal.invariant-loop-key
invariant-loop-key l =
    l.held.items ++ flat_map (one_held l.fn.others.attributes l.fn.partners) (drop l.key-index l.kinds)
    ≡ l.fn.held.items ++ flat_map (one_held l.fn.others.attributes l.fn.partners) l.kinds
