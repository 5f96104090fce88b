use Rattle.std.proofs.Common.{◌≡◌, ◌++◌, drop}
use Rattle.std.specs.List.{flat_map}
use Rattle.policy_expectations.specs.Differences.{expectation_differences}
use Rattle.policy_expectations.proofs.difference.add_all.Given as goal

-- those so far and those that are left are all
abbrev pub invariant-loop-expected : goal.invariant-loop-expected
invariant-loop-expected l =
    l.differences.items ++ flat_map (expectation_differences l.fn.table l.fn.kinds) (drop l.expected-index l.expectations)
    ≡ l.fn.differences.items ++ flat_map (expectation_differences l.fn.table l.fn.kinds) l.expectations
