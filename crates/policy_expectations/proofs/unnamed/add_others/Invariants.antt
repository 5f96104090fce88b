use Rattle.std.proofs.Common.{◌≡◌, ◌++◌, drop}
use Rattle.std.specs.List.{flat_map}
use Rattle.policy_expectations.specs.Differences.{unnamed_differences}
use Rattle.policy_expectations.proofs.unnamed.add_others.Given as goal

-- those so far and those that are left are all
abbrev pub invariant-loop-attr : goal.invariant-loop-attr
invariant-loop-attr l =
    l.differences.items ++ flat_map (unnamed_differences l.fn.table.attributes l.fn.kinds l.fn.named) (drop l.attr-index l.attributes)
    ≡ l.fn.differences.items ++ flat_map (unnamed_differences l.fn.table.attributes l.fn.kinds l.fn.named) l.attributes
