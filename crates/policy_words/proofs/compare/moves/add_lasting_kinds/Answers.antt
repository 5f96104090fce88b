use Rattle.std.proofs.Common.{refl}
use Rattle.policy_words.specs.compare.Lines.{kind_if_lasting}
use Rattle.policy_rights.proofs.Added.{all_added, one_added}
use Rattle.policy_words.proofs.compare.moves.add_lasting_kinds.Goals as goal

pub loop-key-preserved : goal.loop-key-preserved
loop-key-preserved c =
    one_added (kind_if_lasting c.args.table.now.attributes c.args.other.now.attributes c.args.handle) c.args.kinds.now c.args.lasting.now.items
    c.loop-key.lasting.items c.add_if_kind_lasts.new.lasting.items c.loop-key.key-index _ _
    c.loop-key-test.true refl c.loop-key.invariant c.in_ok-add_if_kind_lasts.ensures.ok

pub returns : goal.returns
returns c = record {
  ok =
      all_added (kind_if_lasting c.args.table.now.attributes c.args.other.now.attributes c.args.handle) c.args.kinds.now c.args.lasting.now.items
      c.loop-key.lasting.items c.loop-key.key-index c.loop-key-test.false c.loop-key.invariant;
}
