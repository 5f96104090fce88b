use Rattle.std.proofs.Common.{refl}
use Rattle.policy_words.specs.compare.Gains.{kind_if_same}
use Rattle.policy_rights.proofs.Added.{all_added, one_added}
use Rattle.policy_words.proofs.compare.gaining.add_kinds_like.Goals as goal

pub loop-other-preserved : goal.loop-other-preserved
loop-other-preserved c =
    one_added (kind_if_same c.args.gain.now) c.args.gains.now c.args.kinds.now.items
    c.loop-other.kinds.items c.add_if_same.new.kinds.items c.loop-other.other-index _ _
    c.loop-other-test.true refl c.loop-other.invariant c.in_ok-add_if_same.ensures.ok

pub returns : goal.returns
returns c = record {
  ok =
      all_added (kind_if_same c.args.gain.now) c.args.gains.now c.args.kinds.now.items
      c.loop-other.kinds.items c.loop-other.other-index c.loop-other-test.false c.loop-other.invariant;
}
