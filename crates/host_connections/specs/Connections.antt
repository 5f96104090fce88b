-- The connections of slots, as the application sees them.
use Rattle.std.specs.Prelude.{◌≡◌, ℕ, ◌+◌, not, List, [], ◌∷◌, drop, get_or, Option, Some, None}
use Rattle.std.specs.List.{cons_option}
use Rattle.std.specs.Option.{option_map}
use Rattle.host_api.specs.declared.connection.Connection.{Connection}
use Rattle.host_connections.specs.declared.arrivals.Arrivals.{Arrivals}
use Rattle.host_connections.specs.SlotState.{SlotState}
use Rattle.host_connections.specs.Slots.{SlotStates}

abbrev pub connection_shown : Arrivals → ℕ → SlotState → Connection
connection_shown arrivals place slot_state = record {
  ordinal = get_or arrivals.ordinals place 0;
  slot = place;
  handle = slot_state.handle;
  peer = slot_state.peer;
  mtu = slot_state.mtu;
  key = slot_state.link.key;
  authorized_until = slot_state.until;
  ending = not slot_state.live;
  heard = get_or arrivals.heard place 0;
}

abbrev pub slot_seen : Arrivals → ℕ → Option SlotState → Option Connection
slot_seen arrivals place slot = option_map (connection_shown arrivals place) slot

abbrev pub read_from : {A B : Type 0} → (ℕ → A → Option B) → ℕ → List A → List B
read_from read place [] = []
read_from read place (x ∷ xs) = cons_option (read place x) (read_from read (place + 1) xs)

abbrev pub connections_left : SlotStates → Arrivals → ℕ → List Connection
connections_left slots arrivals place = read_from (slot_seen arrivals) place (drop place slots)

-- The first connection from a place on, and the place after it.
abbrev pub FindsNext : SlotStates → Arrivals → ℕ → Option (ℕ × Connection) → Type 0
FindsNext slots arrivals from None = connections_left slots arrivals from ≡ []
FindsNext slots arrivals from (Some found) =
    connections_left slots arrivals from ≡ found.1 ∷ connections_left slots arrivals found.0
