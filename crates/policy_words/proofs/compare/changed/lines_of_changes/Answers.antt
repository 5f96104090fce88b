use Rattle.std.proofs.Common.{[], refl}
use Rattle.policy_words.specs.compare.Changed.{changed_lines}
use Rattle.policy_rights.proofs.Added.{all_added, one_added}
use Rattle.policy_words.proofs.compare.changed.lines_of_changes.Goals as goal

pub loop-pair-preserved : goal.loop-pair-preserved
loop-pair-preserved c =
    one_added (changed_lines c.args.table.now c.args.other.now c.args.pairs.now c.args.others.now) c.args.pairs.now []
    c.loop-pair.lines.items c.add_changed_lines.new.text.items c.loop-pair.pair-index _ _
    c.loop-pair-test.true refl c.loop-pair.invariant c.in_ok-add_changed_lines.ensures.ok

pub returns : goal.returns
returns c =
    all_added (changed_lines c.args.table.now c.args.other.now c.args.pairs.now c.args.others.now) c.args.pairs.now []
    c.loop-pair.lines.items c.loop-pair.pair-index c.loop-pair-test.false c.loop-pair.invariant
