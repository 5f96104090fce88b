use Rattle.std.proofs.Common.{refl}
use Rattle.policy_words.specs.Columns.{kind_if_equal}
use Rattle.policy_rights.proofs.Added.{all_added, one_added}
use Rattle.policy_words.proofs.columns.add_kinds_of_column.Goals as goal

pub loop-kind-preserved : goal.loop-kind-preserved
loop-kind-preserved c =
    one_added (kind_if_equal c.args.table.now.attributes c.args.column.now) c.args.kinds.now c.args.named.now.items c.loop-kind.named.items
    c.add_kind_if_equal.new.named.items c.loop-kind.kind-index _ _
    c.loop-kind-test.true refl c.loop-kind.invariant c.in_ok-add_kind_if_equal.ensures.ok

pub returns : goal.returns
returns c = record {
  ok =
      all_added (kind_if_equal c.args.table.now.attributes c.args.column.now) c.args.kinds.now c.args.named.now.items c.loop-kind.named.items
      c.loop-kind.kind-index c.loop-kind-test.false c.loop-kind.invariant;
}
