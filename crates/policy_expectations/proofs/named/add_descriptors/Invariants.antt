use Rattle.std.proofs.Common.{◌≡◌, ◌++◌, drop}
use Rattle.std.specs.List.{flat_map}
use Rattle.policy_expectations.specs.Named.{descriptors_of}
use Rattle.policy_expectations.proofs.named.add_descriptors.Given as goal

-- those so far and those that are left are all
abbrev pub invariant-loop-value : goal.invariant-loop-value
invariant-loop-value l =
    l.named.items ++ flat_map (descriptors_of l.fn.table l.fn.kind) (drop l.value-index l.values)
    ≡ l.fn.named.items ++ flat_map (descriptors_of l.fn.table l.fn.kind) l.values
