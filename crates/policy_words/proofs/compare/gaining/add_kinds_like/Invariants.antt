use Rattle.std.proofs.Common.{◌≡◌, ◌++◌, drop}
use Rattle.std.specs.List.{flat_map}
use Rattle.policy_words.specs.compare.Gains.{kind_if_same}
use Rattle.policy_words.proofs.compare.gaining.add_kinds_like.Given as goal

-- those so far and those that are left are all
abbrev pub invariant-loop-other : goal.invariant-loop-other
invariant-loop-other l =
    l.kinds.items ++ flat_map (kind_if_same l.fn.gain) (drop l.other-index l.gains)
    ≡ l.fn.kinds.items ++ flat_map (kind_if_same l.fn.gain) l.gains
