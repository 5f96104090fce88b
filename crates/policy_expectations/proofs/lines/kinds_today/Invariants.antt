use Rattle.std.proofs.Common.{◌≡◌, ◌++◌, drop}
use Rattle.std.specs.List.{filter}
use Rattle.policy_expectations.specs.Lines.{is_today}
use Rattle.policy_expectations.proofs.lines.kinds_today.Given as goal

-- those so far and those that are left are all
abbrev pub invariant-loop-key : goal.invariant-loop-key
invariant-loop-key l =
    l.today.items ++ filter (is_today l.columns) (drop l.key-index l.kinds)
    ≡ filter (is_today l.columns) l.kinds
