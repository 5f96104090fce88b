use Rattle.std.proofs.Common.{◌≡◌, [], ◌∷◌, ◌++◌}
use Rattle.host_connections.proofs.Skipping.{skips_in}
use Rattle.host_connections.specs.Places.{CoversHeard}
use Rattle.host_connections.specs.Skips.{skips_among, slot_skips}
use Rattle.host_connections.specs.Slots.{slot_notified_alone}
use Rattle.host_connections.proofs.OneByOne.{IsSoFar}
use Rattle.host_connections.proofs.event_end.notify_alone.Given as goal

abbrev pub invariant-loop-place : goal.invariant-loop-place
invariant-loop-place l =
    IsSoFar (slot_notified_alone l.moment.table.now l.moment.now l.moment.rows.now l.handle) l.fn.whom.bits l.left.bits l.fn.slots l.slots
    × CoversHeard l.slots l.heard
    × (l.skipped.items ++ skips_in (λ place slot. slot_skips l.moment.table.now l.moment.now l.moment.rows.now (l.handle ∷ []) slot) l.left.bits l.fn.slots
    ≡ skips_among l.moment.table.now l.moment.now l.moment.rows.now l.fn.whom.bits (l.handle ∷ []) l.fn.slots)

abbrev pub decreases-loop-place : goal.decreases-loop-place
decreases-loop-place l = l.left.bits
