use Rattle.std.proofs.Common.{◌≡◌, ◌++◌, drop}
use Rattle.std.specs.List.{flat_map}
use Rattle.policy_words.specs.compare.Pairing.{pair_if_used}
use Rattle.policy_words.proofs.compare.pairing.add_pairs.Given as goal

-- those so far and those that are left are all
abbrev pub invariant-loop-attr : goal.invariant-loop-attr
invariant-loop-attr l =
    l.pairs.items ++ flat_map (pair_if_used l.fn.table l.fn.other) (drop l.attr-index l.attributes)
    ≡ l.fn.pairs.items ++ flat_map (pair_if_used l.fn.table l.fn.other) l.attributes
