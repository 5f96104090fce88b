use Rattle.std.proofs.Common.{◌≡◌, ◌++◌, drop}
use Rattle.std.specs.List.{flat_map}
use Rattle.policy_rights.specs.Findings.{address_findings}
use Rattle.policy_rights.proofs.finding.add_of_addresses.Given as goal

-- what is there and what is left are all
abbrev pub invariant-loop-at : goal.invariant-loop-at
invariant-loop-at l = l.findings.items ++ flat_map address_findings (drop l.at l.fn.keys) ≡ l.fn.findings.items ++ flat_map address_findings l.fn.keys
