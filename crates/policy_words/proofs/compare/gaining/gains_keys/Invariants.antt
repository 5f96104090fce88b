use Rattle.std.proofs.Common.{◌≡◌, drop}
use Rattle.std.specs.List.{list_any}
use Rattle.policy_words.specs.compare.Gains.{gains_by_key}
use Rattle.policy_words.proofs.compare.gaining.gains_keys.Given as goal

-- none of those before is one
abbrev pub invariant-loop-at : goal.invariant-loop-at
invariant-loop-at l =
    list_any (gains_by_key l.fn.others l.fn.table.attributes) l.fn.keys
    ≡ list_any (gains_by_key l.fn.others l.fn.table.attributes) (drop l.at l.fn.keys)
