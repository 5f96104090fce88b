use Rattle.std.proofs.Common.{◌≡◌, ◌++◌}
use Rattle.host_connections.proofs.Skipping.{skips_in}
use Rattle.host_connections.specs.Skips.{all_skipped, slot_skips}
use Rattle.host_connections.specs.Slots.{handles_for}
use Rattle.host_connections.proofs.skipped.note_all_skips.Given as goal

abbrev pub invariant-loop-place : goal.invariant-loop-place
invariant-loop-place l =
    l.skipped.items
    ++ skips_in (λ place slot. slot_skips l.moment.table.now l.moment.now l.moment.rows.now (handles_for l.own l.here l.handles place) slot) l.left.bits l.slots
    ≡ all_skipped l.moment.table.now l.moment.now l.moment.rows.now l.own l.here l.handles l.slots

abbrev pub decreases-loop-place : goal.decreases-loop-place
decreases-loop-place l = l.left.bits
