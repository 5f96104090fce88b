use Rattle.std.proofs.Common.{[], refl}
use Rattle.policy_words.specs.compare.Lines.{dropped_line}
use Rattle.policy_rights.proofs.Added.{all_added, one_added}
use Rattle.policy_words.proofs.compare.moves.dropped_lines.Goals as goal

pub loop-attr-preserved : goal.loop-attr-preserved
loop-attr-preserved c =
    one_added (dropped_line c.args.table.now.attributes c.args.other.now.attributes) c.args.attributes.now []
    c.loop-attr.lines.items c.add_dropped_line.new.text.items c.loop-attr.attr-index _ _
    c.loop-attr-test.true refl c.loop-attr.invariant c.in_ok-add_dropped_line.ensures.ok

pub returns : goal.returns
returns c =
    all_added (dropped_line c.args.table.now.attributes c.args.other.now.attributes) c.args.attributes.now []
    c.loop-attr.lines.items c.loop-attr.attr-index c.loop-attr-test.false c.loop-attr.invariant
