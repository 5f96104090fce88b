use Rattle.std.proofs.Common.{refl}
use Rattle.playground.specs.Fields.{cell_data}
use Rattle.policy_rights.proofs.Added.{all_added, one_added}
use Rattle.playground.proofs.fields.add_cells.Goals as goal

pub loop-column-preserved : goal.loop-column-preserved
loop-column-preserved c =
    one_added (cell_data c.args.table.now c.args.attr.now) c.args.columns.now c.args.text.now.items
    c.loop-column.text.items c.add_cell.new.text.items c.loop-column.column-index _ _
    c.loop-column-test.true refl c.loop-column.invariant c.in_ok-add_cell.ensures.ok

pub returns : goal.returns
returns c = record {
  ok =
      all_added (cell_data c.args.table.now c.args.attr.now) c.args.columns.now c.args.text.now.items
      c.loop-column.text.items c.loop-column.column-index c.loop-column-test.false c.loop-column.invariant;
}
