use Rattle.std.proofs.Common.{◌≡◌, ◌++◌, drop}
use Rattle.std.specs.List.{flat_map}
use Rattle.policy_words.specs.compare.Gains.{one_gain}
use Rattle.policy_words.proofs.compare.gaining.add_gains.Given as goal

-- those so far and those that are left are all
abbrev pub invariant-loop-held : goal.invariant-loop-held
invariant-loop-held l =
    l.gains.items ++ flat_map (one_gain l.fn.table.attributes l.fn.handle) (drop l.held-index l.before)
    ≡ l.fn.gains.items ++ flat_map (one_gain l.fn.table.attributes l.fn.handle) l.before
