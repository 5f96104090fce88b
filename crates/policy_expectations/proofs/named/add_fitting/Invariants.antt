use Rattle.std.proofs.Common.{◌≡◌, ◌++◌, drop}
use Rattle.std.specs.List.{flat_map}
use Rattle.policy_expectations.specs.Named.{fitting_value}
use Rattle.policy_expectations.proofs.named.add_fitting.Given as goal

-- those so far and those that are left are all
abbrev pub invariant-loop-attr : goal.invariant-loop-attr
invariant-loop-attr l =
    l.values.items ++ flat_map (fitting_value l.fn.table l.fn.expected) (drop l.attr-index l.attributes)
    ≡ l.fn.values.items ++ flat_map (fitting_value l.fn.table l.fn.expected) l.attributes
