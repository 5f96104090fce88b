use Rattle.std.proofs.Common.{◌≡◌, ◌++◌, drop}
use Rattle.std.specs.List.{flat_map}
use Rattle.policy_words.specs.matrix.Look.{finding_text}
use Rattle.policy_words.proofs.matrix.look.add_findings.Given as goal

-- what stands and what is left are all
abbrev pub invariant-loop-finding : goal.invariant-loop-finding
invariant-loop-finding l =
    l.text.items ++ flat_map (finding_text) (drop l.finding-index l.findings)
    ≡ l.fn.text.items ++ flat_map (finding_text) l.findings
