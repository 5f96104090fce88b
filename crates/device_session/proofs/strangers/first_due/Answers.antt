use Rattle.std.proofs.Common.{sym, ◌∙◌}
use Rattle.device_session.proofs.Due.{first_later}
use Rattle.device_session.proofs.strangers.first_due.Goals as goal

pub loop-stranger-preserved : goal.loop-stranger-preserved
loop-stranger-preserved c =
    c.loop-stranger.invariant
    ∙ first_later c.args.limits.now c.args.now c.args.known.now c.loop-stranger.stranger-index _ c.loop-stranger-test.true
    (sym c.is_due.ensures ∙ c.if-is_due.false)
