use Rattle.std.proofs.Common.{refl}
use Rattle.policy_words.specs.compare.Gains.{one_gain}
use Rattle.policy_rights.proofs.Added.{all_added, one_added}
use Rattle.policy_words.proofs.compare.gaining.add_gains.Goals as goal

pub loop-held-preserved : goal.loop-held-preserved
loop-held-preserved c =
    one_added (one_gain c.args.table.now.attributes c.args.handle) c.args.before.now c.args.gains.now.items
    c.loop-held.gains.items c.add_one_gain.new.gains.items c.loop-held.held-index _ _
    c.loop-held-test.true refl c.loop-held.invariant c.in_ok-add_one_gain.ensures.ok

pub returns : goal.returns
returns c = record {
  ok =
      all_added (one_gain c.args.table.now.attributes c.args.handle) c.args.before.now c.args.gains.now.items
      c.loop-held.gains.items c.loop-held.held-index c.loop-held-test.false c.loop-held.invariant;
}
