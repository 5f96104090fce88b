use Rattle.std.proofs.Common.{refl}
use Rattle.policy_words.specs.may.Answer.{link_line}
use Rattle.policy_rights.proofs.Added.{all_added, one_added}
use Rattle.policy_words.proofs.may.add_lines.Goals as goal

pub loop-link-preserved : goal.loop-link-preserved
loop-link-preserved c =
    one_added (link_line c.args.table.now.attributes c.args.question.now c.args.is_known) c.args.links.now c.args.text.now.items
    c.loop-link.text.items c.add_line.new.text.items c.loop-link.link-index _ _
    c.loop-link-test.true refl c.loop-link.invariant c.in_ok-add_line.ensures.ok

pub returns : goal.returns
returns c = record {
  ok =
      all_added (link_line c.args.table.now.attributes c.args.question.now c.args.is_known) c.args.links.now c.args.text.now.items
      c.loop-link.text.items c.loop-link.link-index c.loop-link-test.false c.loop-link.invariant;
}
