use Rattle.std.proofs.Common.{◌≡◌, ◌++◌, drop}
use Rattle.std.specs.List.{flat_map}
use Rattle.policy_expectations.specs.Named.{of_type}
use Rattle.policy_expectations.proofs.named.add_all_of_type.Given as goal

-- those so far and those that are left are all
abbrev pub invariant-loop-attr : goal.invariant-loop-attr
invariant-loop-attr l =
    l.named.items ++ flat_map (of_type l.fn.kind) (drop l.attr-index l.attributes)
    ≡ l.fn.named.items ++ flat_map (of_type l.fn.kind) l.attributes
