use Rattle.std.proofs.Common.{◌≡◌, ◌++◌, drop}
use Rattle.std.specs.List.{flat_map}
use Rattle.policy_rights.specs.Findings.{attribute_findings}
use Rattle.policy_rights.proofs.finding.add_all.Given as goal

-- what stands and what is left are all
abbrev pub invariant-loop-attr : goal.invariant-loop-attr
invariant-loop-attr l =
    l.findings.items ++ flat_map (attribute_findings l.fn.table.attributes l.fn.columns) (drop l.attr-index l.attributes)
    ≡ l.fn.findings.items ++ flat_map (attribute_findings l.fn.table.attributes l.fn.columns) l.attributes
