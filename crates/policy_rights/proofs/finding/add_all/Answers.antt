use Rattle.std.proofs.Common.{refl}
use Rattle.policy_rights.specs.Findings.{attribute_findings}
use Rattle.policy_rights.proofs.Added.{all_added, one_added}
use Rattle.policy_rights.proofs.finding.add_all.Goals as goal

pub loop-attr-preserved : goal.loop-attr-preserved
loop-attr-preserved c =
    one_added (attribute_findings c.args.table.now.attributes c.args.columns.now) c.args.attributes.now c.args.findings.now.items
    c.loop-attr.findings.items c.add_of_attribute.new.findings.items c.loop-attr.attr-index _ _
    c.loop-attr-test.true refl c.loop-attr.invariant c.in_ok-add_of_attribute.ensures.ok

pub returns : goal.returns
returns c = record {
  ok =
      all_added (attribute_findings c.args.table.now.attributes c.args.columns.now) c.args.attributes.now c.args.findings.now.items
      c.loop-attr.findings.items c.loop-attr.attr-index c.loop-attr-test.false c.loop-attr.invariant;
}
