use Rattle.std.proofs.Common.{◌≡◌}
use Rattle.std.specs.Prelude.{fold}
use Rattle.mio.specs.Events.{items}
use Rattle.device_io.specs.Poller.{ready_of, with_event}
use Rattle.device_io.proofs.poller.ready_after.Given as goal

-- The events that are left lead to what all of them lead to.
abbrev pub invariant-loop-event : goal.invariant-loop-event
invariant-loop-event l = fold with_event l.ready l.event-iterator.rest.now ≡ ready_of (items l.fn.events)
