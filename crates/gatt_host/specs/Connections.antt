-- The connections of a host that the application can see.
use Rattle.std.specs.Prelude.{◌≡◌, ℕ, ◌==◌, not, List, [], ◌∷◌, find, Option, Some, None}
use Rattle.std.specs.Option.{option_and_then}
use Rattle.att_numbers.specs.Types.{Row}
use Rattle.gatt_host.specs.HostModel.{HostModel}
use Rattle.gatt_laws.specs.machine.Event.{Ordinal}
use Rattle.gatt_laws.specs.machine.ConnectionState.{ConnectionState, is_live, key_of, connection_mtu}
use Rattle.gatt_laws.specs.machine.Packets.{Heard}
use Rattle.gatt_laws.specs.machine.SharedState.{SharedState}
use Rattle.gatt_laws.specs.machine.State.{State}
use Rattle.host_api.specs.declared.connection.Connection.{Connection}
use Rattle.host_connections.specs.Arrivals.{counted_on}
use Rattle.host_connections.specs.Connections.{connections_left, read_from}
use Rattle.host_connections.specs.Slots.{place_holding, slot_row}

abbrev pub connections_in : HostModel → List Connection
connections_in host = connections_left host.server.slots host.frames.arrivals 0

-- A connection as the application sees it: it is ending if it no longer serves.
abbrev pub connection_seen : SharedState → Ordinal → ℕ → ℕ → ConnectionState → Connection
connection_seen shared ordinal place heard connection = record {
  ordinal = counted_on ordinal;
  slot = place;
  handle = connection.handle;
  peer = connection.peer;
  mtu = connection_mtu shared connection;
  key = key_of connection;
  authorized_until = connection.until;
  ending = not (is_live connection.mark);
  heard = heard;
}

abbrev pub ordinal_seen : Heard → State → ℕ → Option Ordinal → Option Connection
ordinal_seen heard state place None = None
ordinal_seen heard state place (Some ordinal) =
    Some (connection_seen state.shared ordinal place (heard ordinal) (state.connections ordinal))

-- The connections of a state in slot order, with the time of each one's last packet.
abbrev pub connections_of : Heard → State → List Connection
connections_of heard state = read_from (ordinal_seen heard state) 0 state.slots

-- The connection with a handle, which is unique.
abbrev pub connection_with : ℕ → List Connection → Option Connection
connection_with handle connections =
    find (λ (connection : Connection). connection.handle == handle) connections

-- The configurations in force of the connection with a handle, if there is one.
abbrev pub row_in_force_of : HostModel → ℕ → Option Row
row_in_force_of host handle =
    option_and_then (slot_row host.server.slots host.server.rows)
    (place_holding host.server.slots handle)

-- The iterator returns the first remaining connection, if there is one.
abbrev pub HandsOutTheFirst : List Connection → Option Connection → List Connection → Type 0
HandsOutTheFirst old None new = (old ≡ []) × (new ≡ old)
HandsOutTheFirst old (Some connection) new = old ≡ connection ∷ new
