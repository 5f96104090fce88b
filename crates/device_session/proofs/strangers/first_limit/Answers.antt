use Rattle.std.proofs.Common.{◌+◌, drop, ap, sym, ◌∙◌, map}
use Rattle.std.specs.Prelude.{fold}
use Rattle.device_session.specs.Strangers.{due_of, sooner_of}
use Rattle.device_session.proofs.Due.{limit_later}
use Rattle.device_session.proofs.strangers.first_limit.Goals as goal

pub loop-stranger-preserved : goal.loop-stranger-preserved
loop-stranger-preserved c =
    ap (λ first. fold sooner_of first (map (due_of c.args.limits.now) (drop (c.loop-stranger.stranger-index + 1) c.args.known.now)))
    (c.sooner-first.ensures ∙ ap (sooner_of c.loop-stranger.first) c.due.ensures)
    ∙ sym (limit_later c.args.limits.now c.loop-stranger.first c.args.known.now c.loop-stranger.stranger-index _ c.loop-stranger-test.true)
    ∙ c.loop-stranger.invariant
