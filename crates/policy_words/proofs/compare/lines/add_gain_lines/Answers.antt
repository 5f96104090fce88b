use Rattle.std.proofs.Common.{refl}
use Rattle.policy_words.specs.compare.Lines.{gain_line}
use Rattle.policy_rights.proofs.Added.{all_added, one_added}
use Rattle.policy_words.proofs.compare.lines.add_gain_lines.Goals as goal

pub loop-gain-preserved : goal.loop-gain-preserved
loop-gain-preserved c =
    one_added (gain_line c.args.attr.now c.args.columns.now c.args.gains.now) c.args.gains.now c.args.text.now.items
    c.loop-gain.text.items c.add_gain_line.new.text.items c.loop-gain.gain-index _ _
    c.loop-gain-test.true refl c.loop-gain.invariant c.in_ok-add_gain_line.ensures.ok

pub returns : goal.returns
returns c = record {
  ok =
      all_added (gain_line c.args.attr.now c.args.columns.now c.args.gains.now) c.args.gains.now c.args.text.now.items
      c.loop-gain.text.items c.loop-gain.gain-index c.loop-gain-test.false c.loop-gain.invariant;
}
