use Rattle.std.proofs.Common.{refl}
use Rattle.text_words.specs.Cells.{right}
use Rattle.policy_words.specs.Cell.{cell_text}
use Rattle.policy_words.specs.declared.columns.Column.{Column}
use Rattle.policy_rights.proofs.Added.{all_added, one_added}
use Rattle.policy_words.proofs.matrix.rows.add_cells.Goals as goal

pub loop-column-preserved : goal.loop-column-preserved
loop-column-preserved c =
    one_added (λ (column : Column). right c.args.layout.cell (cell_text c.args.table.now.attributes c.args.handle column.key)) c.args.columns.now c.args.text.now.items c.loop-column.text.items
    c.add_cell.new.text.items c.loop-column.column-index _ _
    c.loop-column-test.true refl c.loop-column.invariant c.in_ok-add_cell.ensures.ok

pub returns : goal.returns
returns c = record {
  ok =
      all_added (λ (column : Column). right c.args.layout.cell (cell_text c.args.table.now.attributes c.args.handle column.key)) c.args.columns.now c.args.text.now.items c.loop-column.text.items
      c.loop-column.column-index c.loop-column-test.false c.loop-column.invariant;
}
