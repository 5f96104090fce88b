use Rattle.std.proofs.Common.{refl}
use Rattle.policy_words.specs.compare.Before.{one_held}
use Rattle.policy_rights.proofs.Added.{all_added, one_added}
use Rattle.policy_words.proofs.compare.before.add_before.Goals as goal

pub loop-key-preserved : goal.loop-key-preserved
loop-key-preserved c =
    one_added (one_held c.args.others.now.attributes c.args.partners.now) c.args.kinds.now c.args.held.now.items
    c.loop-key.held.items c.add_one_held.new.held.items c.loop-key.key-index _ _
    c.loop-key-test.true refl c.loop-key.invariant c.in_ok-add_one_held.ensures.ok

pub returns : goal.returns
returns c = record {
  ok =
      all_added (one_held c.args.others.now.attributes c.args.partners.now) c.args.kinds.now c.args.held.now.items
      c.loop-key.held.items c.loop-key.key-index c.loop-key-test.false c.loop-key.invariant;
}
