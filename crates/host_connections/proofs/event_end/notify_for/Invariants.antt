use Rattle.host_connections.specs.OfTable.{AreOfTable}
use Rattle.host_connections.specs.Places.{CoversHeard}
use Rattle.host_connections.specs.Slots.{slot_notified}
use Rattle.host_connections.proofs.OneByOne.{IsSoFar}
use Rattle.host_connections.proofs.event_end.notify_for.Given as goal

abbrev pub invariant-loop-place : goal.invariant-loop-place
invariant-loop-place l =
    IsSoFar (slot_notified l.moment.table.now l.moment.now l.moment.rows.now l.handle) l.fn.whom.bits l.left.bits l.fn.slots l.slots
    × (CoversHeard l.slots l.heard × AreOfTable l.moment.table.now.attributes l.moment.rows.now l.slots)

abbrev pub decreases-loop-place : goal.decreases-loop-place
decreases-loop-place l = l.left.bits
