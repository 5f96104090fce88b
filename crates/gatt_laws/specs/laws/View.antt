-- The view of one connection in a run: its events, the table's, and what others write.
use Rattle.std.specs.Prelude.{ℕ, ◌==◌, Bool, true, false, ◌&&◌, not, is_some, if◌then◌else◌, List, [], ◌∷◌, ◌++◌, filter, map, Option, Some, None}
use Rattle.std.specs.Option.{option_map_or, option_to_list}
use Rattle.att_numbers.specs.Types.{Handle, Row, Values}
use Rattle.att_attributes.specs.declared.attr.Attr.{Attr}
use Rattle.att_attributes.specs.Attributes.{is_configuration_at}
use Rattle.att_table.specs.ConfigRow.{bits_at}
use Rattle.att_table.specs.Table.{Contents, value_at}
use Rattle.gatt_laws.specs.machine.Event.{Ordinal, Own, Event, Connected, Of, Completed, Credit, Update, Tick, Replaced, Nothing}
use Rattle.gatt_laws.specs.machine.Input.{Item, run}
use Rattle.gatt_laws.specs.machine.ConnectionState.{nobody, key_of}
use Rattle.gatt_laws.specs.laws.Runs.{events_of}
use Rattle.gatt_laws.specs.machine.Start.{Start, state_at}
use Rattle.gatt_laws.specs.machine.State.{State, step}
use Rattle.gatt_laws.specs.machine.Effect.{handles_written, effect_of}
use Rattle.le_hci.specs.declared.buffers.Buffers.{Buffers}
use Rattle.le_hci.specs.declared.peer.Peer.{Peer}
use Rattle.le_security.specs.Entry.{same_peer}
use Rattle.octet_io.specs.Number.{Octets}

-- `values` and `bits`, those of one peer's bond, are in the order of first entries; `ceases`:
-- Service Changed is no longer pending for the peer.
pub record WrittenByOthers : Type 0 where
  pub values : List (Handle × Octets)
  pub bits : List (Handle × ℕ)
  pub ceases : Bool

-- A connection sees its own events and completed packets, the application's values, times and
-- tables, and what others write. No ordinal is in this.
pub data ShownEvent : Type 0 where
  Happens : (own : Own) → ShownEvent
  Completes : (counts : List ℕ) → ShownEvent
  Updates : (handle : Handle) (value : Octets) → ShownEvent
  Tells : (time : ℕ) → ShownEvent
  Replaces : (table : Contents) → ShownEvent
  Writes : (written : WrittenByOthers) → ShownEvent

abbrev pub values_there : List Attr → Values → List Handle → List (Handle × Octets)
values_there attributes values handles =
    map (λ handle. (handle, value_at values handle))
    (filter (λ handle. not (is_configuration_at attributes handle)) handles)

abbrev pub bits_there : List Attr → Row → List Handle → List (Handle × ℕ)
bits_there attributes row handles =
    map (λ handle. (handle, bits_at row handle)) (filter (is_configuration_at attributes) handles)

-- A connection sees what another writes to values and to its own peer's bond, which needs a link
-- with a key.
abbrev pub written_in : State → Peer → Ordinal → Own → WrittenByOthers
written_in state peer at own =
    let connection = state.connections at in
    let bond = state.bonds connection.peer in
    let effect = effect_of state.shared bond (state.owed connection.peer) connection own in
    let handles = handles_written state.shared bond connection own in
    record {
      values = values_there state.shared.table.attributes effect.values handles;
      bits = if same_peer peer connection.peer && is_some (key_of connection)
          then bits_there state.shared.table.attributes effect.bond handles else [];
      ceases = same_peer peer connection.peer && state.owed connection.peer && not effect.owed;
    }

abbrev pub are_none : {A : Type 0} → List A → Bool
are_none [] = true
are_none (x ∷ xs) = false

abbrev pub is_unseen : WrittenByOthers → Bool
is_unseen written = are_none written.values && are_none written.bits && not written.ceases

abbrev pub shown_written : WrittenByOthers → Option ShownEvent
shown_written written = if is_unseen written then None else Some (Writes written)

abbrev pub own_counts : Ordinal → List (Ordinal × ℕ) → List ℕ
own_counts ordinal [] = []
own_counts ordinal (entry ∷ entries) =
    if entry.0 == ordinal then entry.1 ∷ own_counts ordinal entries else own_counts ordinal entries

abbrev pub shown_counts : List ℕ → Option ShownEvent
shown_counts counts = if are_none counts then None else Some (Completes counts)

unfoldable pub shown : Peer → Ordinal → State → Event → Option ShownEvent
shown peer ordinal state (Of at own) =
    if ordinal == at then Some (Happens own) else shown_written (written_in state peer at own)
shown peer ordinal state (Completed entries) = shown_counts (own_counts ordinal entries)
shown peer ordinal state (Credit allowed opcode status following) = None
shown peer ordinal state (Update handle value) = Some (Updates handle value)
shown peer ordinal state (Tick time) = Some (Tells time)
shown peer ordinal state (Replaced table) = Some (Replaces table)
shown peer ordinal state Nothing = None

abbrev pub shown_in : Peer → Ordinal → State → List Event → List ShownEvent
shown_in peer ordinal state [] = []
shown_in peer ordinal state (event ∷ events) =
    option_to_list (shown peer ordinal state event)
    ++ shown_in peer ordinal (step state event) events

abbrev pub own_connecting : Own → Option Peer
own_connecting (Connected handle peer) = Some peer
own_connecting own = None

abbrev pub peer_connecting : Ordinal → Event → Option Peer
peer_connecting ordinal (Of other own) = if ordinal == other then own_connecting own else None
peer_connecting ordinal event = None

abbrev pub peer_in : Ordinal → List Event → Peer
peer_in ordinal [] = nobody
peer_in ordinal (event ∷ events) =
    option_map_or (λ peer. peer) (peer_connecting ordinal event) (peer_in ordinal events)

-- The buffers that the controller reported, then what a connection sees of the events.
pub record View : Type 0 where
  pub buffers : Option Buffers
  pub items : List ShownEvent

abbrev pub view : Ordinal → Start → List Item → View
view ordinal start input =
    let events = events_of start input in
    record {
      buffers = (run start input).intake.state.shared.buffers;
      items = shown_in (peer_in ordinal events) ordinal (state_at start) events;
    }
