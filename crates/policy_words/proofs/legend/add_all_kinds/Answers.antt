use Rattle.std.proofs.Common.{refl}
use Rattle.policy_words.specs.Legend.{kind_lines}
use Rattle.policy_rights.proofs.Added.{all_added, one_added}
use Rattle.policy_words.proofs.legend.add_all_kinds.Goals as goal

pub loop-kind-preserved : goal.loop-kind-preserved
loop-kind-preserved c =
    one_added (kind_lines c.args.keys.now c.args.columns.now c.args.kinds.now) c.args.kinds.now c.args.text.now.items c.loop-kind.text.items
    c.add_kind_lines.new.text.items c.loop-kind.kind-index _ _
    c.loop-kind-test.true refl c.loop-kind.invariant c.in_ok-add_kind_lines.ensures.ok

pub returns : goal.returns
returns c = record {
  ok =
      all_added (kind_lines c.args.keys.now c.args.columns.now c.args.kinds.now) c.args.kinds.now c.args.text.now.items c.loop-kind.text.items
      c.loop-kind.kind-index c.loop-kind-test.false c.loop-kind.invariant;
}
