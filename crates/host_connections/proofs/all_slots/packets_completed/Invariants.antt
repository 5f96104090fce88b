use Rattle.std.proofs.Common.{◌≡◌, drop, map}
use Rattle.le_hci.specs.Event.{completed_packets_of}
use Rattle.host_connections.specs.Handles.{AreNotedIfAny}
use Rattle.host_connections.specs.Places.{IsMarked}
use Rattle.host_connections.specs.Slots.{slots_after_entries}
use Rattle.host_connections.proofs.all_slots.packets_completed.Given as goal

abbrev pub invariant-loop-octets : goal.invariant-loop-octets
invariant-loop-octets l =
    (slots_after_entries (map completed_packets_of (drop l.octets-index l.entries)) l.slots
    ≡ slots_after_entries (map completed_packets_of l.fn.entries) l.fn.slots)
    × (IsMarked l.slots l.marks × AreNotedIfAny l.slots l.handles.noted)
