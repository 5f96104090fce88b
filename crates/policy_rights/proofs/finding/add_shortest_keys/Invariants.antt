use Rattle.std.proofs.Common.{◌≡◌, ◌++◌, drop}
use Rattle.std.specs.List.{flat_map}
use Rattle.policy_rights.specs.Findings.{shortest_key}
use Rattle.policy_rights.proofs.finding.add_shortest_keys.Given as goal

-- what stands and what is left are all
abbrev pub invariant-loop-key : goal.invariant-loop-key
invariant-loop-key l =
    l.findings.items ++ flat_map (shortest_key l.columns) (drop l.key-index l.columns)
    ≡ l.fn.findings.items ++ flat_map (shortest_key l.columns) l.columns
