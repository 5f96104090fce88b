use Rattle.std.proofs.Common.{[], refl}
use Rattle.policy_words.specs.compare.Lines.{moved_line}
use Rattle.policy_rights.proofs.Added.{all_added, one_added}
use Rattle.policy_words.proofs.compare.moves.moved_lines.Goals as goal

pub loop-pair-preserved : goal.loop-pair-preserved
loop-pair-preserved c =
    one_added (moved_line c.args.pairs.now c.args.others.now) c.args.pairs.now []
    c.loop-pair.lines.items c.add_moved_line.new.text.items c.loop-pair.pair-index _ _
    c.loop-pair-test.true refl c.loop-pair.invariant c.in_ok-add_moved_line.ensures.ok

pub returns : goal.returns
returns c =
    all_added (moved_line c.args.pairs.now c.args.others.now) c.args.pairs.now []
    c.loop-pair.lines.items c.loop-pair.pair-index c.loop-pair-test.false c.loop-pair.invariant
