use Rattle.std.proofs.Common.{◌≡◌, ◌++◌, drop}
use Rattle.std.specs.List.{flat_map}
use Rattle.policy_expectations.specs.Report.{difference_text}
use Rattle.policy_expectations.proofs.report.add_differences.Given as goal

-- those so far and those that are left are all
abbrev pub invariant-loop-difference : goal.invariant-loop-difference
invariant-loop-difference l =
    l.text.items ++ flat_map (difference_text l.fn.table.attributes l.fn.kinds l.fn.columns) (drop l.difference-index l.differences)
    ≡ l.fn.text.items ++ flat_map (difference_text l.fn.table.attributes l.fn.kinds l.fn.columns) l.differences
