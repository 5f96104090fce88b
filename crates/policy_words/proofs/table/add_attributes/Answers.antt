use Rattle.std.proofs.Common.{refl}
use Rattle.policy_words.specs.Table.{attribute_line}
use Rattle.policy_rights.proofs.Added.{all_added, one_added}
use Rattle.policy_words.proofs.table.add_attributes.Goals as goal

pub loop-attr-preserved : goal.loop-attr-preserved
loop-attr-preserved c =
    one_added (attribute_line c.args.table.now) c.args.attributes.now c.args.text.now.items c.loop-attr.text.items c.add_attribute.new.text.items
    c.loop-attr.attr-index _ _
    c.loop-attr-test.true refl c.loop-attr.invariant c.in_ok-add_attribute.ensures.ok

pub returns : goal.returns
returns c = record {
  ok =
      all_added (attribute_line c.args.table.now) c.args.attributes.now c.args.text.now.items c.loop-attr.text.items c.loop-attr.attr-index
      c.loop-attr-test.false
      c.loop-attr.invariant;
}
