use Rattle.std.proofs.Common.{refl}
use Rattle.policy_words.specs.compare.Lines.{letter_text}
use Rattle.policy_rights.proofs.Added.{all_added, one_added}
use Rattle.policy_words.proofs.compare.lines.add_each_letter.Goals as goal

pub loop-column-preserved : goal.loop-column-preserved
loop-column-preserved c =
    one_added (letter_text c.args.kinds.now) c.args.columns.now c.args.text.now.items
    c.loop-column.text.items c.add_letter.new.text.items c.loop-column.column-index _ _
    c.loop-column-test.true refl c.loop-column.invariant c.in_ok-add_letter.ensures.ok

pub returns : goal.returns
returns c = record {
  ok =
      all_added (letter_text c.args.kinds.now) c.args.columns.now c.args.text.now.items
      c.loop-column.text.items c.loop-column.column-index c.loop-column-test.false c.loop-column.invariant;
}
