use Rattle.std.proofs.Common.{refl}
use Rattle.policy_expectations.specs.Named.{fitting_value}
use Rattle.policy_rights.proofs.Added.{all_added, one_added}
use Rattle.policy_expectations.proofs.named.add_fitting.Goals as goal

pub loop-attr-preserved : goal.loop-attr-preserved
loop-attr-preserved c =
    one_added (fitting_value c.args.table.now c.args.expected.now) c.args.attributes.now c.args.values.now.items
    c.loop-attr.values.items c.add_fitting_value.new.values.items c.loop-attr.attr-index _ _
    c.loop-attr-test.true refl c.loop-attr.invariant c.in_ok-add_fitting_value.ensures.ok

pub returns : goal.returns
returns c = record {
  ok =
      all_added (fitting_value c.args.table.now c.args.expected.now) c.args.attributes.now c.args.values.now.items
      c.loop-attr.values.items c.loop-attr.attr-index c.loop-attr-test.false c.loop-attr.invariant;
}
