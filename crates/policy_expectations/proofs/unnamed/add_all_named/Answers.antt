use Rattle.std.proofs.Common.{refl}
use Rattle.policy_expectations.specs.Named.{attributes_named_by}
use Rattle.policy_rights.proofs.Added.{all_added, one_added}
use Rattle.policy_expectations.proofs.unnamed.add_all_named.Goals as goal

pub loop-expected-preserved : goal.loop-expected-preserved
loop-expected-preserved c =
    one_added (attributes_named_by c.args.table.now) c.args.expectations.now c.args.named.now.items
    c.loop-expected.named.items c.add_named.new.named.items c.loop-expected.expected-index _ _
    c.loop-expected-test.true refl c.loop-expected.invariant c.in_ok-add_named.ensures.ok

pub returns : goal.returns
returns c = record {
  ok =
      all_added (attributes_named_by c.args.table.now) c.args.expectations.now c.args.named.now.items
      c.loop-expected.named.items c.loop-expected.expected-index c.loop-expected-test.false c.loop-expected.invariant;
}
