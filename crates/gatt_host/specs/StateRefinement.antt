-- The correspondence of a host to a state of the machine, except for pending output.
use Rattle.std.specs.Prelude.{◌≡◌, ℕ, suc, true, false, is_some, if◌then◌else◌, unwrap_or, List, [], ◌∷◌, length, replicate, slice_get, Option, Some, None}
use Rattle.std.specs.Option.{option_map_or}
use Rattle.att_table.specs.Changer.{changer_of}
use Rattle.gatt_host.specs.ServerState.{ServerState, open_slots}
use Rattle.gatt_host.specs.Notices.{last_notices}
use Rattle.gatt_host.specs.Owing.{IsOwing}
use Rattle.gatt_laws.specs.machine.Controller.{Slots, is_ready, with_taken}
use Rattle.gatt_laws.specs.machine.Event.{Ordinal, Event}
use Rattle.gatt_laws.specs.machine.Input.{Item, run}
use Rattle.gatt_laws.specs.machine.Notice.{noticed}
use Rattle.gatt_laws.specs.machine.ConnectionState.{ConnectionState, is_live, key_of}
use Rattle.gatt_laws.specs.machine.SharedState.{Bonds, ServiceChangedPending}
use Rattle.gatt_laws.specs.laws.Placed.{IsPlaced}
use Rattle.gatt_laws.specs.laws.Queued.{HasBoundedQueues}
use Rattle.gatt_laws.specs.laws.Settled.{is_slot_of, IsSettled}
use Rattle.gatt_laws.specs.machine.Start.{Start, new_controller, state_at, first_out}
use Rattle.gatt_laws.specs.machine.State.{State, step, out}
use Rattle.host_connections.specs.Slots.{Place}
use Rattle.gatt_subs.specs.declared.bond.Bond.{Bond}
use Rattle.gatt_subs.specs.Fit.{IsListed, rows_listed}
use Rattle.gatt_subs.specs.Rows.{Subscriptions, bond_of, row_of}
use Rattle.le_acl.specs.Shares.{usable}
use Rattle.le_hci.specs.declared.buffers.Buffers.{Buffers}
use Rattle.le_hci.specs.declared.peer.Peer.{Peer}
use Rattle.le_hci.specs.InitTold.{told_in}
use Rattle.le_security.specs.declared.entry.Entry.{Entry}
use Rattle.le_security.specs.Keys.{is_known}
use Rattle.le_security.specs.Link.{last_asked}
use Rattle.octet_io.specs.Number.{Octets}

-- Only a peer with a key has a bond, saved configurations or a pending Service Changed.
abbrev pub bond_in : Bonds → ServiceChangedPending → Peer → Bond
bond_in bonds owed peer = record { row = bonds peer; owed = owed peer }

pub record HoldsBonds (keys : List Entry) (rows : Subscriptions) (bonds : Bonds)
    (owed : ServiceChangedPending) : Type 0 where
  pub known : (peer : Peer)
      → bond_of rows peer ≡ (if is_known keys peer then Some (bond_in bonds owed peer) else None)
  pub row : (peer : Peer) → is_known keys peer ≡ false → bonds peer ≡ []
  pub owing : (peer : Peer) → is_known keys peer ≡ false → owed peer ≡ false
  pub listed : IsListed keys rows

abbrev pub rows_of : State → Subscriptions
rows_of state = rows_listed state.shared.keys (bond_in state.bonds state.owed)

-- A link has a key, or was answered with one, only if its peer is known.
pub record HasKeysOfItsPeer (keys : List Entry) (connection : ConnectionState) : Type 0 where
  pub asked : is_some (last_asked connection.steps) ≡ true → is_known keys connection.peer ≡ true
  pub key : is_some (key_of connection) ≡ true → is_known keys connection.peer ≡ true

-- The number of slots after the buffers are known.
abbrev pub slots_with_buffers : ℕ → Option Buffers → ℕ
slots_with_buffers slots None = slots
slots_with_buffers slots (Some buffers) = usable slots buffers.packets

-- The host holds what the state says; before initialisation no slot has a connection.
pub record RefinesState (state : State) (owed : List Octets) (server : ServerState) : Type 0 where
  pub table : server.table ≡ state.shared.table
  pub changer : server.changer ≡ state.shared.changer
  pub keys : server.keys ≡ state.shared.keys
  pub rx_mtu : server.rx_mtu ≡ state.shared.rx_mtu
  pub time : server.time ≡ state.shared.time
  pub buffers : state.shared.buffers ≡ told_in state.controller.init
  pub rows : HoldsBonds state.shared.keys server.rows state.bonds state.owed
  pub keyed : (ordinal : Ordinal) → HasKeysOfItsPeer state.shared.keys (state.connections ordinal)
  pub free : is_ready state.controller ≡ false → server.slots ≡ replicate state.shared.slots None
  pub ready : is_ready state.controller ≡ true
      → length server.slots ≡ slots_with_buffers state.shared.slots state.shared.buffers
  pub owing : IsOwing state owed server.controller (open_slots server)

-- The laws of every state of a run.
pub record IsSound (state : State) : Type 0 where
  pub settled : IsSettled state
  pub queued : HasBoundedQueues state
  pub placed : IsPlaced state

-- An event leads the host to the next state of the machine, with the same notices.
pub record RefinesStep (state : State) (event : Event) (new : ServerState) : Type 0 where
  pub refines : RefinesState (step state event) (out state event) new
  pub told : last_notices new ≡ noticed state event

pub record IsServing (state : State) (place : ℕ) (ordinal : Ordinal) : Type 0 where
  pub there : slice_get state.slots place ≡ Some (Some ordinal)
  pub live : is_live (state.connections ordinal).mark ≡ true

-- The name of a connection is the place of its slot; that of the next one is the place that it
-- takes.
abbrev pub place_among : Slots → Ordinal → Place
place_among [] ordinal = 0
place_among (slot ∷ slots) ordinal =
    if is_slot_of ordinal slot then 0 else suc (place_among slots ordinal)

abbrev pub place_of_connection : State → Ordinal → Place
place_of_connection state ordinal = place_among (with_taken state.next state.slots) ordinal

-- The configurations and the pending Service Changed of each peer, by its bond.
abbrev pub bonds_of : Subscriptions → Bonds
bonds_of rows peer = unwrap_or (row_of rows peer) []

abbrev pub owed_of : Subscriptions → ServiceChangedPending
owed_of rows peer = option_map_or (λ (bond : Bond). bond.owed) (bond_of rows peer) false

-- A host after opening, with rows that fit its keys and its table.
pub record IsOpenedAs (start : Start) (server : ServerState) : Type 0 where
  pub table : server.table ≡ start.table
  pub changer : server.changer ≡ changer_of start.table
  pub keys : server.keys ≡ start.keys
  pub rx_mtu : server.rx_mtu ≡ start.rx_mtu
  pub time : server.time ≡ 0
  pub controller : server.controller ≡ new_controller start
  pub slots : server.slots ≡ replicate start.slots None
  pub rows : (peer : Peer) → is_some (bond_of server.rows peer) ≡ is_known start.keys peer
  pub bonds : start.bonds ≡ bonds_of server.rows
  pub owed : start.owed ≡ owed_of server.rows
  pub listed : IsListed start.keys server.rows

abbrev pub StartIsRefined : Type 0
StartIsRefined = (start : Start) (server : ServerState) → IsOpenedAs start server
    → RefinesState (state_at start) (first_out start) server

abbrev pub IsAlwaysSound : Type 0
IsAlwaysSound = (start : Start) (input : List Item) → IsSound (run start input).intake.state
