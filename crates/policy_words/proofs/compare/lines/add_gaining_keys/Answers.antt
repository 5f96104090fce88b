use Rattle.std.proofs.Common.{◌<◌, length, arith}
use Rattle.policy_words.specs.compare.Lines.{gaining_key_line}
use Rattle.policy_rights.proofs.Added.{next_added}
use Rattle.policy_words.proofs.compare.lines.add_gaining_keys.Goals as goal

pub loop-at-preserved : goal.loop-at-preserved
loop-at-preserved c =
    let keys = c.args.keys.now in
    let at = c.loop-at.at in
    let within : at < length keys = omega (arith, c.count-at-end.ensures.count, c.loop-at-test.true) in
    next_added (gaining_key_line c.args.others.now c.args.table.now.attributes) keys c.args.text.now.items c.loop-at.text.items
    c.add_gaining_key.new.text.items at within c.loop-at.invariant c.in_ok-add_gaining_key.ensures.ok
