use Rattle.std.proofs.Common.{◌≡◌, ◌++◌, drop}
use Rattle.std.specs.List.{filter}
use Rattle.policy_expectations.specs.Lines.{is_on_side}
use Rattle.policy_expectations.proofs.lines.kinds_on.Given as goal

-- those so far and those that are left are all
abbrev pub invariant-loop-key : goal.invariant-loop-key
invariant-loop-key l =
    l.on.items ++ filter (is_on_side l.table.attributes l.found l.side) (drop l.key-index l.kinds)
    ≡ filter (is_on_side l.table.attributes l.found l.side) l.kinds
