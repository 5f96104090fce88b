use Rattle.std.proofs.Common.{◌≡◌, ◌++◌, drop}
use Rattle.policy_words.specs.Columns.{named_from}
use Rattle.policy_words.proofs.columns.add_columns.Given as goal

-- what stands and what is left are all
abbrev pub invariant-loop-key : goal.invariant-loop-key
invariant-loop-key l =
    l.columns.items ++ named_from l.name (drop l.key-index l.kinds) ≡ l.fn.columns.items ++ named_from 65 l.kinds
