use Rattle.std.proofs.Common.{refl}
use Rattle.policy_expectations.specs.Differences.{expectation_differences}
use Rattle.policy_rights.proofs.Added.{all_added, one_added}
use Rattle.policy_expectations.proofs.difference.add_all.Goals as goal

pub loop-expected-preserved : goal.loop-expected-preserved
loop-expected-preserved c =
    one_added (expectation_differences c.args.table.now c.args.kinds.now) c.args.expectations.now c.args.differences.now.items
    c.loop-expected.differences.items c.add_of_expectation.new.differences.items c.loop-expected.expected-index _ _
    c.loop-expected-test.true refl c.loop-expected.invariant c.in_ok-add_of_expectation.ensures.ok

pub returns : goal.returns
returns c = record {
  ok =
      all_added (expectation_differences c.args.table.now c.args.kinds.now) c.args.expectations.now c.args.differences.now.items
      c.loop-expected.differences.items c.loop-expected.expected-index c.loop-expected-test.false c.loop-expected.invariant;
}
