use Rattle.std.proofs.Common.{refl}
use Rattle.policy_expectations.specs.Differences.{unnamed_differences}
use Rattle.policy_rights.proofs.Added.{all_added, one_added}
use Rattle.policy_expectations.proofs.unnamed.add_others.Goals as goal

pub loop-attr-preserved : goal.loop-attr-preserved
loop-attr-preserved c =
    one_added (unnamed_differences c.args.table.now.attributes c.args.kinds.now c.args.named.now) c.args.attributes.now c.args.differences.now.items
    c.loop-attr.differences.items c.add_other.new.differences.items c.loop-attr.attr-index _ _
    c.loop-attr-test.true refl c.loop-attr.invariant c.in_ok-add_other.ensures.ok

pub returns : goal.returns
returns c = record {
  ok =
      all_added (unnamed_differences c.args.table.now.attributes c.args.kinds.now c.args.named.now) c.args.attributes.now c.args.differences.now.items
      c.loop-attr.differences.items c.loop-attr.attr-index c.loop-attr-test.false c.loop-attr.invariant;
}
