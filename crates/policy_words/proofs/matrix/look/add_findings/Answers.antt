use Rattle.std.proofs.Common.{refl}
use Rattle.policy_words.specs.matrix.Look.{finding_text}
use Rattle.policy_rights.proofs.Added.{all_added, one_added}
use Rattle.policy_words.proofs.matrix.look.add_findings.Goals as goal

pub loop-finding-preserved : goal.loop-finding-preserved
loop-finding-preserved c =
    one_added (finding_text) c.args.findings.now c.args.text.now.items c.loop-finding.text.items
    c.add_finding.new.text.items c.loop-finding.finding-index _ _
    c.loop-finding-test.true refl c.loop-finding.invariant c.in_ok-add_finding.ensures.ok

pub returns : goal.returns
returns c = record {
  ok =
      all_added (finding_text) c.args.findings.now c.args.text.now.items c.loop-finding.text.items
      c.loop-finding.finding-index c.loop-finding-test.false c.loop-finding.invariant;
}
