use Rattle.std.proofs.Common.{◌≡◌, ◌++◌, drop}
use Rattle.std.specs.List.{flat_map}
use Rattle.policy_rights.specs.Findings.{idle_key}
use Rattle.policy_rights.proofs.finding.add_idle_keys.Given as goal

-- what stands and what is left are all
abbrev pub invariant-loop-key : goal.invariant-loop-key
invariant-loop-key l =
    l.findings.items ++ flat_map (idle_key l.fn.table.attributes) (drop l.key-index l.columns)
    ≡ l.fn.findings.items ++ flat_map (idle_key l.fn.table.attributes) l.columns
