use Rattle.std.proofs.Common.{refl}
use Rattle.policy_expectations.specs.Report.{difference_text}
use Rattle.policy_rights.proofs.Added.{all_added, one_added}
use Rattle.policy_expectations.proofs.report.add_differences.Goals as goal

pub loop-difference-preserved : goal.loop-difference-preserved
loop-difference-preserved c =
    one_added (difference_text c.args.table.now.attributes c.args.kinds.now c.args.columns.now) c.args.differences.now c.args.text.now.items
    c.loop-difference.text.items c.add_difference.new.text.items c.loop-difference.difference-index _ _
    c.loop-difference-test.true refl c.loop-difference.invariant c.in_ok-add_difference.ensures.ok

pub returns : goal.returns
returns c = record {
  ok =
      all_added (difference_text c.args.table.now.attributes c.args.kinds.now c.args.columns.now) c.args.differences.now c.args.text.now.items
      c.loop-difference.text.items c.loop-difference.difference-index c.loop-difference-test.false c.loop-difference.invariant;
}
