-- The most that may go to the controller before its next packet (Core 5.0, Vol 2 Part E, 4.1.1 and
-- 4.4).
use Rattle.std.specs.Prelude.{ℕ, ◌+◌, ◌-◌, List, [], ◌∷◌, Option, Some, None}
use Rattle.gatt_host.specs.ServerState.{ServerState, open_slots}
use Rattle.host_connections.specs.SlotState.{SlotState}

-- The packets that the connection of a slot may still send, by its share.
abbrev pub packets_out : Option SlotState → ℕ
packets_out None = 0
packets_out (Some slot_state) = slot_state.outgoing.share - slot_state.outgoing.outstanding

abbrev pub all_packets_out : List (Option SlotState) → ℕ
all_packets_out [] = 0
all_packets_out (slot ∷ slots) = packets_out slot + all_packets_out slots

-- The number of commands and packets that may still be sent.
abbrev pub most_out : ServerState → ℕ
most_out server = server.controller.credit + all_packets_out (open_slots server)
