use Rattle.std.proofs.Common.{◌≡◌, ◌++◌, drop}
use Rattle.std.specs.List.{flat_map}
use Rattle.policy_expectations.specs.Differences.{attribute_differences}
use Rattle.policy_expectations.proofs.difference.add_of_attributes.Given as goal

-- those so far and those that are left are all
abbrev pub invariant-loop-attr : goal.invariant-loop-attr
invariant-loop-attr l =
    l.differences.items ++ flat_map (attribute_differences l.fn.table.attributes l.fn.kinds l.fn.expected) (drop l.attr-index l.attributes)
    ≡ l.fn.differences.items ++ flat_map (attribute_differences l.fn.table.attributes l.fn.kinds l.fn.expected) l.attributes
