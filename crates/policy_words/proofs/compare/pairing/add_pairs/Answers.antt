use Rattle.std.proofs.Common.{refl}
use Rattle.policy_words.specs.compare.Pairing.{pair_if_used}
use Rattle.policy_rights.proofs.Added.{all_added, one_added}
use Rattle.policy_words.proofs.compare.pairing.add_pairs.Goals as goal

pub loop-attr-preserved : goal.loop-attr-preserved
loop-attr-preserved c =
    one_added (pair_if_used c.args.table.now c.args.other.now) c.args.attributes.now c.args.pairs.now.items
    c.loop-attr.pairs.items c.add_pair.new.pairs.items c.loop-attr.attr-index _ _
    c.loop-attr-test.true refl c.loop-attr.invariant c.in_ok-add_pair.ensures.ok

pub returns : goal.returns
returns c = record {
  ok =
      all_added (pair_if_used c.args.table.now c.args.other.now) c.args.attributes.now c.args.pairs.now.items
      c.loop-attr.pairs.items c.loop-attr.attr-index c.loop-attr-test.false c.loop-attr.invariant;
}
