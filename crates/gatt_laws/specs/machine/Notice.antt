-- The notices that the application receives (this profile's own). The reasons are 05
-- (Authentication Failure) and 13 (Remote User Terminated Connection) of Core 5.0, Vol 2 Part D, 2.
use Rattle.std.specs.Prelude.{ℕ, ◌==◌, Bool, false, ◌&&◌, not, is_some, if◌then◌else◌}
use Rattle.std.specs.Prelude.{List, [], ◌∷◌, ◌++◌, map, Option, Some, None}
use Rattle.std.specs.List.{flat_map}
use Rattle.std.specs.Option.{option_map_or, option_to_list}
use Rattle.att_numbers.specs.Types.{Handle, Row}
use Rattle.att_policy.specs.declared.standing.KeyFacts.{KeyFacts}
use Rattle.att_attributes.specs.declared.attr.Attr.{Attr}
use Rattle.att_attributes.specs.Attributes.{attribute_at, is_configuration_at}
use Rattle.att_table.specs.ConfigRow.{bits_at}
use Rattle.att_table.specs.Table.{Contents, value_at}
use Rattle.gatt_conn.specs.Answer.{is_confirmation}
use Rattle.gatt_laws.specs.machine.Event as event
use Rattle.gatt_laws.specs.machine.Event.{Ordinal, Own, Encrypted, Refreshed, Asks, Event, Of, Tick}
use Rattle.gatt_laws.specs.machine.Heard.{hearer_of, skipped_in_turn}
use Rattle.gatt_laws.specs.machine.Input.{Item, Run, after_item, run_at_start}
use Rattle.gatt_laws.specs.machine.ItemEvents.{event_at}
use Rattle.gatt_laws.specs.machine.ConnectionState.{ConnectionState, is_live, is_there, key_of, row_in_force}
use Rattle.gatt_laws.specs.machine.SharedState.{SharedState}
use Rattle.gatt_laws.specs.machine.Start.{Start}
use Rattle.gatt_laws.specs.machine.State.{State, Change, change_of, step}
use Rattle.gatt_laws.specs.machine.Effect.{Effect, effect_of, handles_written}
use Rattle.gatt_subs.specs.declared.pending.Unconfirmed.{Unconfirmed}
use Rattle.gatt_subs.specs.Indications.{is_late}
use Rattle.le_hci.specs.declared.peer.Peer.{Peer}
use Rattle.octet_io.specs.Number.{Octets}

-- `handle` is the connection's in HCI. `Disconnected` includes a connection that was ending,
-- `Secured` a key with other facts than before, and `Skipped` means that too many PDUs are queued
-- to notify a value.
pub data Notice : Type 0 where
  Connected : (handle : ℕ) (peer : Peer) → Notice
  Disconnected : (handle : ℕ) → Notice
  Secured : (handle : ℕ) (facts : KeyFacts) → Notice
  Unsecured : (handle : ℕ) → Notice
  Written : (handle : ℕ) (attribute : Handle) → Notice
  Configured : (handle : ℕ) (attribute : Handle) (bits : ℕ) → Notice
  Confirmed : (handle : ℕ) (attribute : Handle) → Notice
  TimedOut : (handle : ℕ) → Notice
  Ending : (handle : ℕ) (reason : ℕ) → Notice
  Skipped : (handle : ℕ) (attribute : Handle) → Notice

-- Keys are compared by their facts, not by their octets.
abbrev pub are_both : Bool → Bool → Bool
are_both one other = if one then other else not other

abbrev pub are_same_facts : KeyFacts → KeyFacts → Bool
are_same_facts one other =
    (one.size == other.size) && are_both one.authenticated other.authenticated
    && are_both one.secure other.secure

-- (P-NOTE-3)
abbrev pub link_told : ℕ → Option KeyFacts → Option KeyFacts → List Notice
link_told handle None None = []
link_told handle None (Some new) = Secured handle new ∷ []
link_told handle (Some old) None = Unsecured handle ∷ []
link_told handle (Some old) (Some new) =
    if are_same_facts old new then [] else Secured handle new ∷ []

-- A configuration has the bits of the row in force afterwards. (P-NOTE-4, P-NOTE-5)
abbrev pub write_told : List Attr → Row → ℕ → Handle → Notice
write_told attributes row handle attribute =
    if is_configuration_at attributes attribute
    then Configured handle attribute (bits_at row attribute) else Written handle attribute

-- A confirmation of an indication from before a replacement of the table causes no notice.
-- (P-NOTE-6)
abbrev pub confirmation_told : ℕ → Option Unconfirmed → List Notice
confirmation_told handle None = []
confirmation_told handle (Some unconfirmed) =
    if unconfirmed.outdated then [] else Confirmed handle unconfirmed.handle ∷ []

-- (P-NOTE-8)
abbrev pub end_told : ℕ → ConnectionState → List Notice
end_told handle new =
    if is_live new.mark then [] else map (Ending handle) (option_to_list new.reason)

-- The notices of a connection that serves, by its bond's row and by the effect of the event.
abbrev pub live_told : SharedState → Row → ConnectionState → Own → Effect → List Notice
live_told shared bond connection (Asks pdu) effect =
    map (write_told shared.table.attributes (row_in_force effect.bond effect.connection)
    connection.handle)
    (handles_written shared bond connection (Asks pdu))
    ++ (if is_confirmation pdu
    then confirmation_told connection.handle connection.pending.unconfirmed else [])
live_told shared bond connection (Encrypted status enabled) effect =
    link_told connection.handle (key_of connection) (key_of effect.connection)
live_told shared bond connection (Refreshed status) effect =
    link_told connection.handle (key_of connection) (key_of effect.connection)
live_told shared bond connection own effect = []

-- The notice of the connection's end is the last.
-- (P-NOTE-1, P-NOTE-2, P-NOTE-8, P-NOTE-10, P-NOTE-11)
abbrev pub own_told : SharedState → Row → ConnectionState → Own → Effect → List Notice
own_told shared bond connection (event.Connected handle peer) effect =
    if is_there connection.mark then [] else Connected handle peer ∷ []
own_told shared bond connection event.Disconnected effect =
    if is_there connection.mark then Disconnected connection.handle ∷ [] else []
own_told shared bond connection own effect =
    if is_live connection.mark
    then live_told shared bond connection own effect ++ end_told connection.handle effect.connection
    else []

-- (P-NOTE-7)
abbrev pub late_told : ℕ → ConnectionState → List Notice
late_told time connection =
    if option_map_or (is_late time) connection.pending.unconfirmed false
    then TimedOut connection.handle ∷ [] else []

abbrev pub slot_told : State → ℕ → Option Ordinal → List Notice
slot_told state time None = []
slot_told state time (Some ordinal) = late_told time (state.connections ordinal)

-- The notices of what happens to connections, in its order.
unfoldable pub event_told : State → Event → List Notice
event_told state (Of ordinal own) =
    let connection = state.connections ordinal in
    let bond = state.bonds connection.peer in
    own_told state.shared bond connection own
    (effect_of state.shared bond (state.owed connection.peer) connection own)
event_told state (Tick time) = flat_map (slot_told state time) state.slots
event_told state event = []

abbrev pub values_skipped : Change → Ordinal → List Handle
values_skipped change ordinal =
    let shared = change.state.shared in
    let connection = change.state.connections ordinal in
    skipped_in_turn shared.table.attributes shared.table.values
    (hearer_of shared (change.state.bonds connection.peer) connection) (change.to_notify ordinal)

abbrev pub slot_skips_told : Change → Option Ordinal → List Notice
slot_skips_told change None = []
slot_skips_told change (Some ordinal) =
    map (Skipped (change.state.connections ordinal).handle) (values_skipped change ordinal)

-- (P-NOTE-9)
abbrev pub skips_told : Change → List Notice
skips_told change = flat_map (slot_skips_told change) change.state.slots

-- The notices of what happens, then of what is skipped.
unfoldable pub noticed : State → Event → List Notice
noticed state event = event_told state event ++ skips_told (change_of state event)

-- An item that means no event gives nothing. (P-NOTE-10)
abbrev pub of_item : {A : Type 0} → (State → Event → List A) → Run → Item → List A
of_item of_event run item = option_map_or (of_event run.intake.state) (event_at run.intake item) []

abbrev pub of_items : {A : Type 0} → (State → Event → List A) → Run → List Item → List A
of_items of_event run [] = []
of_items of_event run (item ∷ items) =
    of_item of_event run item ++ of_items of_event (after_item run item) items

abbrev pub notices_of : Run → Item → List Notice
notices_of = of_item noticed

abbrev pub notices_in : Run → List Item → List Notice
notices_in = of_items noticed

abbrev pub all_notices : Start → List Item → List Notice
all_notices start input = notices_in (run_at_start start) input

-- A notice as a listener receives it: with the octets of a written value, else with none.
pub record Received : Type 0 where
  pub notice : Notice
  pub value : Octets

-- A handle without an attribute gives no octets.
abbrev pub octets_of_notice : Contents → Notice → Octets
octets_of_notice table (Written handle attribute) =
    if is_some (attribute_at table.attributes attribute) then value_at table.values attribute
    else []
octets_of_notice table notice = []

abbrev pub received_with : Contents → Notice → Received
received_with table notice = record { notice = notice; value = octets_of_notice table notice }

-- A listener receives the values as the event leaves them.
abbrev pub received_of_event : State → Event → List Received
received_of_event state event =
    map (received_with (step state event).shared.table) (noticed state event)

abbrev pub received_of : Run → Item → List Received
received_of = of_item received_of_event

abbrev pub received_in : Run → List Item → List Received
received_in = of_items received_of_event
