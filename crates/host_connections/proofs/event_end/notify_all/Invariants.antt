use Rattle.std.proofs.Common.{◌≡◌, length, drop}
use Rattle.host_connections.specs.OfTable.{AreOfTable, AreOfTableIfAny}
use Rattle.host_connections.specs.Places.{CoversHeard}
use Rattle.host_connections.specs.Slots.{all_notified_in_turn}
use Rattle.host_connections.proofs.event_end.notify_all.Given as goal

-- what is still to be notified leads to the same
abbrev pub invariant-loop-handle : goal.invariant-loop-handle
invariant-loop-handle l =
    (all_notified_in_turn l.moment.table.now l.moment.now l.moment.rows.now l.whom.bits (drop l.handle-index l.handles) l.slots
    ≡ all_notified_in_turn l.moment.table.now l.moment.now l.moment.rows.now l.whom.bits l.fn.handles l.fn.slots)
    × (CoversHeard l.slots l.heard
    × ((length l.slots ≡ length l.fn.slots)
    × ((AreOfTable l.moment.table.now.attributes l.moment.rows.now l.fn.slots → AreOfTable l.moment.table.now.attributes l.moment.rows.now l.slots)
    × AreOfTableIfAny l.handles l.moment.table.now.attributes l.moment.rows.now l.slots)))
