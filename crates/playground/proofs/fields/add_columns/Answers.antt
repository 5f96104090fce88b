use Rattle.std.proofs.Common.{refl}
use Rattle.playground.specs.Fields.{column_data}
use Rattle.policy_rights.proofs.Added.{all_added, one_added}
use Rattle.playground.proofs.fields.add_columns.Goals as goal

pub loop-column-preserved : goal.loop-column-preserved
loop-column-preserved c =
    one_added (column_data c.args.keys.now) c.args.columns.now c.args.text.now.items
    c.loop-column.text.items c.add_column.new.text.items c.loop-column.column-index _ _
    c.loop-column-test.true refl c.loop-column.invariant c.in_ok-add_column.ensures.ok

pub returns : goal.returns
returns c = record {
  ok =
      all_added (column_data c.args.keys.now) c.args.columns.now c.args.text.now.items
      c.loop-column.text.items c.loop-column.column-index c.loop-column-test.false c.loop-column.invariant;
}
