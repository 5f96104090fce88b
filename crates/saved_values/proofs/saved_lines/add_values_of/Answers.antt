use Rattle.std.proofs.Common.{refl}
use Rattle.saved_values.proofs.Writing.{all_added, all_typed, one_added, one_typed}
use Rattle.saved_values.proofs.saved_lines.add_values_of.Goals as goal

pub loop-attr-preserved : goal.loop-attr-preserved
loop-attr-preserved c = record {
  lines =
      one_added c.args.saves c.args.table.now c.args.initial.now c.args.attributes.now c.args.text.now.items c.loop-attr.text.items c.add_saved.new.text.items
      c.loop-attr.attr-index _ _ c.loop-attr-test.true refl c.loop-attr.invariant.lines c.in_ok-add_saved.ensures.ok;
  typed =
      one_typed c.args.saves c.args.table.now c.args.initial.now c.args.attributes.now c.loop-attr.attr-index _ _ c.loop-attr-test.true refl
      c.loop-attr.invariant.typed c.add_saved.ensures.typed;
}

pub returns : goal.returns
returns c = record {
  ok =
      all_added c.args.saves c.args.table.now c.args.initial.now c.args.attributes.now c.args.text.now.items c.loop-attr.text.items c.loop-attr.attr-index
      c.loop-attr-test.false c.loop-attr.invariant.lines;
  typed =
      all_typed c.args.saves c.args.table.now c.args.initial.now c.args.attributes.now c.loop-attr.attr-index c.loop-attr-test.false
      c.loop-attr.invariant.typed;
}
