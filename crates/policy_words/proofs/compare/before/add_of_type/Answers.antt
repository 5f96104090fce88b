use Rattle.std.proofs.Common.{refl}
use Rattle.policy_words.specs.compare.Before.{handle_of_type}
use Rattle.policy_rights.proofs.Added.{all_added, one_added}
use Rattle.policy_words.proofs.compare.before.add_of_type.Goals as goal

pub loop-attr-preserved : goal.loop-attr-preserved
loop-attr-preserved c =
    one_added (handle_of_type c.args.kind) c.args.attributes.now c.args.handles.now.items
    c.loop-attr.handles.items c.add_if_of_type.new.handles.items c.loop-attr.attr-index _ _
    c.loop-attr-test.true refl c.loop-attr.invariant c.in_ok-add_if_of_type.ensures.ok

pub returns : goal.returns
returns c = record {
  ok =
      all_added (handle_of_type c.args.kind) c.args.attributes.now c.args.handles.now.items
      c.loop-attr.handles.items c.loop-attr.attr-index c.loop-attr-test.false c.loop-attr.invariant;
}
