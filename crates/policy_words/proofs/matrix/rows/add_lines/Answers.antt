use Rattle.std.proofs.Common.{refl}
use Rattle.policy_words.specs.matrix.Rows.{matrix_line}
use Rattle.policy_rights.proofs.Added.{all_added, one_added}
use Rattle.policy_words.proofs.matrix.rows.add_lines.Goals as goal

pub loop-attr-preserved : goal.loop-attr-preserved
loop-attr-preserved c =
    one_added (matrix_line c.args.layout c.args.table.now c.args.columns.now) c.args.attributes.now c.args.text.now.items c.loop-attr.text.items
    c.add_line.new.text.items c.loop-attr.attr-index _ _
    c.loop-attr-test.true refl c.loop-attr.invariant c.in_ok-add_line.ensures.ok

pub returns : goal.returns
returns c = record {
  ok =
      all_added (matrix_line c.args.layout c.args.table.now c.args.columns.now) c.args.attributes.now c.args.text.now.items c.loop-attr.text.items
      c.loop-attr.attr-index c.loop-attr-test.false c.loop-attr.invariant;
}
