use Rattle.std.proofs.Common.{refl, ◌∙◌}
use Rattle.device_host.proofs.Reminders.{none_told, then_told}
use Rattle.device_host.proofs.telling.tell_missed.Goals as goal

pub loop-handle-init : goal.loop-handle-init
loop-handle-init g c = (none_told _ _ _ refl, refl, refl, refl, refl, refl)

pub loop-handle-preserved : goal.loop-handle-preserved
loop-handle-preserved g c = (
  then_told _ _ _ _ c.loop-handle.invariant.0 c.tell_next_missed.ensures.missed,
  c.tell_next_missed.ensures.pending ∙ c.loop-handle.invariant.1,
  c.tell_next_missed.ensures.updated ∙ c.loop-handle.invariant.2,
  c.tell_next_missed.ensures.names ∙ c.loop-handle.invariant.3,
  c.tell_next_missed.ensures.asking ∙ c.loop-handle.invariant.4,
  c.tell_next_missed.ensures.controller ∙ c.loop-handle.invariant.5,
)

pub returns-then-not-tell_next_missed-clause-missed : goal.returns-then-not-tell_next_missed-clause-missed
returns-then-not-tell_next_missed-clause-missed g c = then_told _ _ _ _ c.loop-handle.invariant.0 c.tell_next_missed.ensures.missed
