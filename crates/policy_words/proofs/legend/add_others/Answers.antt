use Rattle.std.proofs.Common.{refl}
use Rattle.policy_words.specs.Legend.{also_text}
use Rattle.policy_rights.proofs.Added.{all_added, one_added}
use Rattle.policy_words.proofs.legend.add_others.Goals as goal

pub loop-other-preserved : goal.loop-other-preserved
loop-other-preserved c =
    one_added (also_text c.args.keys.now c.args.kinds.now c.args.peer.now c.args.name) c.args.columns.now c.args.text.now.items c.loop-other.text.items
    c.add_other.new.text.items c.loop-other.other-index _ _
    c.loop-other-test.true refl c.loop-other.invariant c.in_ok-add_other.ensures.ok

pub returns : goal.returns
returns c = record {
  ok =
      all_added (also_text c.args.keys.now c.args.kinds.now c.args.peer.now c.args.name) c.args.columns.now c.args.text.now.items c.loop-other.text.items
      c.loop-other.other-index c.loop-other-test.false c.loop-other.invariant;
}
