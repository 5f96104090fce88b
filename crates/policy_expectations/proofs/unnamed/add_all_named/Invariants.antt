use Rattle.std.proofs.Common.{◌≡◌, ◌++◌, drop}
use Rattle.std.specs.List.{flat_map}
use Rattle.policy_expectations.specs.Named.{attributes_named_by}
use Rattle.policy_expectations.proofs.unnamed.add_all_named.Given as goal

-- those so far and those that are left are all
abbrev pub invariant-loop-expected : goal.invariant-loop-expected
invariant-loop-expected l =
    l.named.items ++ flat_map (attributes_named_by l.fn.table) (drop l.expected-index l.expectations)
    ≡ l.fn.named.items ++ flat_map (attributes_named_by l.fn.table) l.expectations
