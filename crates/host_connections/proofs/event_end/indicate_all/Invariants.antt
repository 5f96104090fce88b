use Rattle.host_connections.specs.Places.{CoversHeard}
use Rattle.std.specs.Prelude.{[]}
use Rattle.host_connections.specs.Slots.{slot_heard}
use Rattle.host_connections.proofs.OneByOne.{IsSoFar}
use Rattle.host_connections.proofs.event_end.indicate_all.Given as goal

abbrev pub invariant-loop-place : goal.invariant-loop-place
invariant-loop-place l =
    IsSoFar (slot_heard l.moment.table.now l.moment.now l.moment.rows.now []) l.fn.heard.waiting.bits l.left.bits l.fn.slots l.slots
    × CoversHeard l.slots l.heard

abbrev pub decreases-loop-place : goal.decreases-loop-place
decreases-loop-place l = l.left.bits
