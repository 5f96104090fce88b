use Rattle.std.proofs.Common.{refl}
use Rattle.policy_words.specs.Columns.{kinds_of_column}
use Rattle.policy_rights.proofs.Added.{all_added, one_added}
use Rattle.policy_words.proofs.columns.add_kinds_of_columns.Goals as goal

pub loop-column-preserved : goal.loop-column-preserved
loop-column-preserved c =
    one_added (kinds_of_column c.args.table.now.attributes c.args.kinds.now) c.args.columns.now c.args.named.now.items c.loop-column.named.items
    c.add_kinds_of_column.new.named.items c.loop-column.column-index _ _
    c.loop-column-test.true refl c.loop-column.invariant c.in_ok-add_kinds_of_column.ensures.ok

pub returns : goal.returns
returns c = record {
  ok =
      all_added (kinds_of_column c.args.table.now.attributes c.args.kinds.now) c.args.columns.now c.args.named.now.items c.loop-column.named.items
      c.loop-column.column-index c.loop-column-test.false c.loop-column.invariant;
}
