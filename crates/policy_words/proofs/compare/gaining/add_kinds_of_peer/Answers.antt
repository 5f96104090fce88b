use Rattle.std.proofs.Common.{◌<◌, length, arith}
use Rattle.policy_words.specs.compare.Gains.{kind_of_peer}
use Rattle.policy_rights.proofs.Added.{next_added}
use Rattle.policy_words.proofs.compare.gaining.add_kinds_of_peer.Goals as goal

pub loop-at-preserved : goal.loop-at-preserved
loop-at-preserved c =
    let keys = c.args.keys.now in
    let at = c.loop-at.at in
    let within : at < length keys = omega (arith, c.count-at-end.ensures.count, c.loop-at-test.true) in
    next_added (kind_of_peer c.args.peer.now) keys c.args.kinds.now.items c.loop-at.kinds.items
    c.add_kind_of_peer.new.kinds.items at within c.loop-at.invariant c.in_ok-add_kind_of_peer.ensures.ok
