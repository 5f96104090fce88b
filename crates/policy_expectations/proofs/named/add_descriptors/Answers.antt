use Rattle.std.proofs.Common.{refl}
use Rattle.policy_expectations.specs.Named.{descriptors_of}
use Rattle.policy_rights.proofs.Added.{all_added, one_added}
use Rattle.policy_expectations.proofs.named.add_descriptors.Goals as goal

pub loop-value-preserved : goal.loop-value-preserved
loop-value-preserved c =
    one_added (descriptors_of c.args.table.now c.args.kind) c.args.values.now c.args.named.now.items
    c.loop-value.named.items c.add_descriptors_of.new.named.items c.loop-value.value-index _ _
    c.loop-value-test.true refl c.loop-value.invariant c.in_ok-add_descriptors_of.ensures.ok

pub returns : goal.returns
returns c = record {
  ok =
      all_added (descriptors_of c.args.table.now c.args.kind) c.args.values.now c.args.named.now.items
      c.loop-value.named.items c.loop-value.value-index c.loop-value-test.false c.loop-value.invariant;
}
