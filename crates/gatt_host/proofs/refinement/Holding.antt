-- What a host holds where nothing is owed, and how an event that is done but for its end leaves it standing at the next state.
use Rattle.std.proofs.Common.{◌≡◌, ℕ, zero, suc, ◌+◌, Bool, true, false, List, [], ◌∷◌, ◌++◌, map, length, slice_get, Option, Some, None, refl, sym, ap, subst, ◌∙◌, arith}
use Rattle.std.specs.Prelude.{is_some, ◌||◌, nat_lt, replicate, if◌then◌else◌}
use Rattle.std.specs.List.{flat_map}
use Rattle.std.specs.Option.{option_map, option_map_or}
use Rattle.att_numbers.specs.Types.{Handle, Row}
use Rattle.att_table.specs.Table.{Contents}
use Rattle.std.proofs.lemmas.Bool.{eq-eqb, or_right}
use Rattle.gatt_host.proofs.places.Entering.{change-same, owes_what_an_event_brings}
use Rattle.gatt_host.proofs.owing.Owing.{hands_out_what_is_owed}
use Rattle.gatt_host.specs.GoingOut.{next_out}
use Rattle.gatt_host.specs.ServerState.{ServerState, open_slots, server_after_event, with_last, without_notices}
use Rattle.gatt_host.specs.Owing.{Handed, all_given, slot_state_handed, slot_states_handed, IsOwing, IsAllSent, SendsTheNext}
use Rattle.gatt_host.specs.declared.last_event.LastEvent.{LastEvent}
use Rattle.gatt_host.specs.Notices.{notices_by, skip_told}
use Rattle.gatt_host.specs.StateRefinement.{bond_in, HoldsBonds, HasKeysOfItsPeer, slots_with_buffers, RefinesState, IsSound, RefinesStep}
use Rattle.gatt_laws.proofs.invariants.Queued.{change-queued}
use Rattle.gatt_laws.specs.machine.Controller.{Controller, Slots, is_ready, command_of_init, count_before, without_command}
use Rattle.gatt_laws.specs.machine.Event.{Ordinal, Event}
use Rattle.gatt_laws.specs.machine.Heard.{after_hearing, skipped_in_turn}
use Rattle.gatt_laws.specs.machine.Notice.{Notice, Skipped, event_told, noticed, skips_told, slot_skips_told, values_skipped}
use Rattle.gatt_laws.specs.machine.ConnectionState.{ConnectionState, is_live, is_there, key_of}
use Rattle.gatt_laws.specs.laws.Possible.{Possible}
use Rattle.gatt_laws.specs.laws.Queued.{IsWithinBounds}
use Rattle.gatt_laws.specs.machine.SharedState.{SharedState, Bonds, ServiceChangedPending, share_of, fragment_size_of}
use Rattle.gatt_laws.specs.laws.Settled.{has_slot, is_slot_of}
use Rattle.gatt_laws.specs.machine.State.{State, Change, change_of, finished, connections_finished, before_commands, step, out}
use Rattle.host_connections.proofs.states.Heard.{finished_kept}
use Rattle.host_connections.specs.Hearing.{delivery_of, hearer_facts_of, slot_after_hearing, slot_hearer}
use Rattle.host_connections.specs.SlotState.{SlotState, slot_state_of, slot_state_if_there}
use Rattle.host_connections.proofs.states.Skips.{skips_kept}
use Rattle.host_connections.specs.declared.skipped.Skipped as noted
use Rattle.host_connections.specs.Skips.{all_skipped, skip_of, skips_from, slot_skips}
use Rattle.host_connections.specs.Slots.{handles_for, slot_heard, heard_from}
use Rattle.gatt_subs.specs.declared.bond.Bond.{Bond}
use Rattle.gatt_subs.specs.Rows.{Subscriptions, row_of}
use Rattle.le_acl.specs.History.{packets_allowed}
use Rattle.le_hci.specs.InitTold.{told_in}
use Rattle.le_security.specs.Keys.{is_known}
use Rattle.le_security.specs.Link.{key_after, last_asked}
use Rattle.le_security.specs.declared.entry.Entry.{Entry}
use Rattle.octet_io.specs.Number.{Octets}

-- a host holds a state, where so many packets of each connection are handed out
pub record Holds (state : State) (handed : Handed) (server : ServerState) : Type 0 where
  pub table : server.table ≡ state.shared.table
  pub changer : server.changer ≡ state.shared.changer
  pub keys : server.keys ≡ state.shared.keys
  pub rx_mtu : server.rx_mtu ≡ state.shared.rx_mtu
  pub time : server.time ≡ state.shared.time
  pub buffers : state.shared.buffers ≡ told_in state.controller.init
  pub rows : HoldsBonds state.shared.keys server.rows state.bonds state.owed
  pub keyed : (ordinal : Ordinal) → HasKeysOfItsPeer state.shared.keys (state.connections ordinal)
  pub controller : server.controller ≡ state.controller
  pub free : is_ready state.controller ≡ false → server.slots ≡ replicate state.shared.slots None
  pub ready : is_ready state.controller ≡ true → length server.slots ≡ slots_with_buffers state.shared.slots state.shared.buffers
  pub slots : open_slots server ≡ slot_states_handed state handed

pub some-is : {A : Type 0} {x y : A} → Some x ≡ Some y → x ≡ y
some-is {x = x} e = ap (λ found. option_map_or (λ it. it) found x) e

-- where nothing is owed, all is done
no-octets : (final : State) (controller : Controller) (slots : List (Option SlotState)) (found : Option Octets) → SendsTheNext final [] controller slots found
    → IsAllSent final [] controller slots
no-octets final controller slots None done = done
no-octets final controller slots (Some octets) gives = cc gives.first

pub all_done : (final : State) (controller : Controller) (slots : List (Option SlotState)) → IsOwing final [] controller slots
    → IsAllSent final [] controller slots
all_done final controller slots owing = no-octets final controller slots (next_out controller slots) (hands_out_what_is_owed final [] controller slots owing)

pub holds : (state : State) (server : ServerState) → RefinesState state [] server → Holds state (all_given state) server
holds state server refines = record {
  table = refines.table;
  changer = refines.changer;
  keys = refines.keys;
  rx_mtu = refines.rx_mtu;
  time = refines.time;
  buffers = refines.buffers;
  rows = refines.rows;
  keyed = refines.keyed;
  controller = (all_done state server.controller (open_slots server) refines.owing).controller_is;
  free = refines.free;
  ready = refines.ready;
  slots = (all_done state server.controller (open_slots server) refines.owing).slots_are;
}

-- the handles that are noted as written are not among it
pub holds_with_written : (state : State) (handed : Handed) (server : ServerState) (written : List Handle) → Holds state handed server
    → Holds state handed (record server { written = written })
holds_with_written state handed server written is = record {
  table = is.table;
  changer = is.changer;
  keys = is.keys;
  rx_mtu = is.rx_mtu;
  time = is.time;
  buffers = is.buffers;
  rows = is.rows;
  keyed = is.keyed;
  controller = is.controller;
  free = is.free;
  ready = is.ready;
  slots = is.slots;
}

-- once the controller is initialised, the slots are those of the state
pub were_open : (state : State) (handed : Handed) (server : ServerState) → Holds state handed server → is_ready state.controller ≡ true
    → server.slots ≡ slot_states_handed state handed
were_open state handed server is ready =
    sym (ap (λ (open_now : Bool). if open_now then server.slots else []) (ap is_ready is.controller ∙ ready)) ∙ is.slots

-- what is told of the last event is not what a host stands by
pub stands_with_last : (state : State) (owed : List Octets) (server : ServerState) (last : LastEvent) → RefinesState state owed server
    → RefinesState state owed (with_last last server)
stands_with_last state owed server last is = record {
  table = is.table;
  changer = is.changer;
  keys = is.keys;
  rx_mtu = is.rx_mtu;
  time = is.time;
  buffers = is.buffers;
  rows = is.rows;
  keyed = is.keyed;
  free = is.free;
  ready = is.ready;
  owing = is.owing;
}

pub stands_without_notices : (state : State) (owed : List Octets) (server : ServerState) → RefinesState state owed server
    → RefinesState state owed (without_notices server)
stands_without_notices state owed server is = record {
  table = is.table;
  changer = is.changer;
  keys = is.keys;
  rx_mtu = is.rx_mtu;
  time = is.time;
  buffers = is.buffers;
  rows = is.rows;
  keyed = is.keyed;
  free = is.free;
  ready = is.ready;
  owing = is.owing;
}

-- slots that all hear
pub heard_free : (hear : ℕ → Option SlotState → Option SlotState) → ((place : ℕ) → hear place None ≡ None) → (start count : ℕ)
    → heard_from start hear (replicate count None) ≡ replicate count None
heard_free hear none start zero = refl
heard_free hear none start (suc count) = λ i. none start i ∷ heard_free hear none (start + 1) count i

pub heard_length : (hear : ℕ → Option SlotState → Option SlotState) (start : ℕ) (slots : List (Option SlotState)) → length (heard_from start hear slots)
    ≡ length slots
heard_length hear start [] = refl
heard_length hear start (slot ∷ slots) = ap (λ (count : ℕ). suc count) (heard_length hear (start + 1) slots)

pub heard_each : (hear : ℕ → Option SlotState → Option SlotState) (old new : Option Ordinal → Option SlotState) (start : ℕ) (slots : Slots)
    → ((place at : ℕ) (slot : Option Ordinal) → at ≡ start + place → slice_get slots place ≡ Some slot → hear at (old slot) ≡ new slot)
    → heard_from start hear (map old slots) ≡ map new slots
heard_each hear old new start [] each = refl
heard_each hear old new start (slot ∷ slots) each =
    let first : hear start (old slot) ≡ new slot = each 0 start slot (omega arith) refl in
    let later = heard_each hear old new (start + 1) slots (λ place at slot is there. each (suc place) at slot (omega (arith, is)) there) in
    λ i. first i ∷ later i

-- and the values that they skip
pub skipped_free : (skips : ℕ → Option SlotState → List noted.Skipped) → ((place : ℕ) → skips place None ≡ []) → (start count : ℕ)
    → skips_from start skips (replicate count None) ≡ []
skipped_free skips none start zero = refl
skipped_free skips none start (suc count) = λ i. none start i ++ skipped_free skips none (start + 1) count i

told-both : (one other : List noted.Skipped) → map skip_told (one ++ other) ≡ map skip_told one ++ map skip_told other
told-both [] other = refl
told-both (skipped ∷ one) other = ap (λ (rest : List Notice). skip_told skipped ∷ rest) (told-both one other)

pub skipped_each : (skips : ℕ → Option SlotState → List noted.Skipped) (old : Option Ordinal → Option SlotState) (told : Option Ordinal → List Notice)
    (start : ℕ) (slots : Slots)
    → ((place at : ℕ) (slot : Option Ordinal) → at ≡ start + place → slice_get slots place ≡ Some slot → map skip_told (skips at (old slot)) ≡ told slot)
    → map skip_told (skips_from start skips (map old slots)) ≡ flat_map told slots
skipped_each skips old told start [] each = refl
skipped_each skips old told start (slot ∷ slots) each =
    let first : map skip_told (skips start (old slot)) ≡ told slot = each 0 start slot (omega arith) refl in
    let later = skipped_each skips old told (start + 1) slots (λ place at slot is there. each (suc place) at slot (omega (arith, is)) there) in
    told-both (skips start (old slot)) (skips_from (start + 1) skips (map old slots)) ∙ λ i. first i ++ later i

pub has_slot_there : (ordinal : Ordinal) (slots : Slots) (place : ℕ) → slice_get slots place ≡ Some (Some ordinal) → has_slot ordinal slots ≡ true
has_slot_there ordinal [] place there = cc there
has_slot_there ordinal (slot ∷ slots) zero there =
    let first : is_slot_of ordinal slot ≡ true = ap (is_slot_of ordinal) (some-is there) ∙ eq-eqb ordinal ordinal refl in
    ap (λ (own : Bool). own || has_slot ordinal slots) first
has_slot_there ordinal (slot ∷ slots) (suc place) there = or_right (is_slot_of ordinal slot) (has_slot ordinal slots) (has_slot_there ordinal slots place there)

-- the link of a connection and its peer stay as they are at the end of an event
abbrev pub SameLink : ConnectionState → ConnectionState → Type 0
SameLink old new = (new.steps ≡ old.steps) × (new.peer ≡ old.peer)

heard-link : (shared : SharedState) (bond : Row) (handles : List Handle) (connection : ConnectionState)
    → SameLink connection (after_hearing shared bond handles connection)
unfolding after_hearing
heard-link shared bond handles connection = (refl, refl)

finished-link : (shared : SharedState) (bonds : Bonds) (handles : List Handle) (connection : ConnectionState)
    → SameLink connection (finished shared bonds handles connection)
finished-link shared bonds handles connection =
    let heard : ConnectionState = after_hearing shared (bonds connection.peer) handles connection in
    let given : ℕ = packets_allowed (share_of shared.slots shared.buffers) (fragment_size_of shared.buffers) heard.pdus heard.done in
    elim (is_live heard.mark) as (λ (live : Bool). SameLink connection (if live then record heard { given = given } else heard)) [
      | true ↦ heard-link shared (bonds connection.peer) handles connection
      | false ↦ heard-link shared (bonds connection.peer) handles connection
    ]

-- so does all that decides which row is in force, and whether it is there
pub record Stays (old new : ConnectionState) : Type 0 where
  pub mark : new.mark ≡ old.mark
  pub peer : new.peer ≡ old.peer
  pub steps : new.steps ≡ old.steps
  pub row : new.row ≡ old.row

heard-stays : (shared : SharedState) (bond : Row) (handles : List Handle) (connection : ConnectionState)
    → Stays connection (after_hearing shared bond handles connection)
unfolding after_hearing
heard-stays shared bond handles connection = record { mark = refl; peer = refl; steps = refl; row = refl }

pub finished_stays : (shared : SharedState) (bonds : Bonds) (handles : List Handle) (connection : ConnectionState)
    → Stays connection (finished shared bonds handles connection)
finished_stays shared bonds handles connection =
    let heard : ConnectionState = after_hearing shared (bonds connection.peer) handles connection in
    let given : ℕ = packets_allowed (share_of shared.slots shared.buffers) (fragment_size_of shared.buffers) heard.pdus heard.done in
    let stays = heard-stays shared (bonds connection.peer) handles connection in
    elim (is_live heard.mark) as (λ (live : Bool). Stays connection (if live then record heard { given = given } else heard)) [
      | true ↦ record { mark = stays.mark; peer = stays.peer; steps = stays.steps; row = stays.row }
      | false ↦ stays
    ]

sent-link : (connection : ConnectionState) (sent : Bool) → SameLink connection (if sent then without_command connection else connection)
sent-link connection false = (refl, refl)
sent-link connection true =
    elim (is_some connection.reason) as
    (λ (has : Bool). SameLink connection (if has then record connection { reason = None } else record connection { reply = None })) [
      | true ↦ (refl, refl)
      | false ↦ (refl, refl)
    ]

pub keyed_alike : (keys : List Entry) (old new : ConnectionState) → SameLink old new → HasKeysOfItsPeer keys old → HasKeysOfItsPeer keys new
keyed_alike keys old new same keyed = record {
  asked = λ is. ap (is_known keys) same.1 ∙ keyed.asked (sym (ap (λ steps. is_some (last_asked steps)) same.0) ∙ is);
  key = λ is. ap (is_known keys) same.1 ∙ keyed.key (sym (ap (λ steps. is_some (key_after steps)) same.0) ∙ is);
}

-- a link with a key is one of a peer that has a bond
pub has_row : (keys : List Entry) (rows : Subscriptions) (bonds : Bonds) (owed : ServiceChangedPending) (connection : ConnectionState)
    → HoldsBonds keys rows bonds owed → HasKeysOfItsPeer keys connection
    → is_some (key_of connection) ≡ true → row_of rows connection.peer ≡ Some (bonds connection.peer)
has_row keys rows bonds owed connection holds keyed is =
    ap (λ (found : Option Bond). option_map (λ (bond : Bond). bond.row) found)
    (holds.known connection.peer ∙ ap (λ (known : Bool). if known then Some (bond_in bonds owed connection.peer) else None) (keyed.key is))

-- the connection of a slot hears by its peer's bond
heard-of-peer : (table : Contents) (now : ℕ) (rows : Subscriptions) (handles : List Handle) (shared : SharedState) (connection : ConnectionState) (handed : ℕ)
    → slot_heard table now rows handles (slot_state_if_there shared connection handed)
    ≡ option_map (slot_after_hearing table now (row_of rows connection.peer) handles) (slot_state_if_there shared connection handed)
heard-of-peer table now rows handles shared connection handed =
    elim (is_there connection.mark) as
    (λ (there : Bool). slot_heard table now rows handles (if there then Some (slot_state_of shared connection handed) else None)
    ≡ option_map (slot_after_hearing table now (row_of rows connection.peer) handles) (if there then Some (slot_state_of shared connection handed) else None))
    [ true ↦ refl | false ↦ refl ]

-- what a slot keeps once it has heard of values, and which of them are skipped
abbrev pub skipped_by : Contents → ℕ → Option Row → List Handle → SlotState → List Handle
skipped_by table now found handles slot_state =
    skipped_in_turn table.attributes table.values (slot_hearer (hearer_facts_of now found slot_state) (delivery_of slot_state)) handles

abbrev pub hears_and_skips : Contents → ℕ → Option Row → List Handle → SlotState → SlotState × List Handle
hears_and_skips table now found handles slot_state = (slot_after_hearing table now found handles slot_state, skipped_by table now found handles slot_state)

-- the handles that a slot hears of are those that are notified to its connection
abbrev pub HearsRaised : Contents → ℕ → Slots → (ℕ → List Handle) → (Ordinal → List Handle) → Type 0
HearsRaised table now slots handles raised = (place : ℕ) (ordinal : Ordinal) → slice_get slots place ≡ Some (Some ordinal)
    → (found : Option Row) (slot_state : SlotState)
    → hears_and_skips table now found (handles place) slot_state ≡ hears_and_skips table now found (raised ordinal) slot_state

module _ (state : State) (event : Event) (sound : IsSound state) (possible : Possible (λ table. Unit) state event) (server : ServerState)
    (is : Holds (change_of state event).state (all_given state) server)
    (own : Option ℕ) (here handles : List Handle)
    (raises : HearsRaised (change_of state event).state.shared.table (change_of state event).state.shared.time (change_of state event).state.slots
    (handles_for own here handles) (change_of state event).to_notify) where
  abbrev change : Change
  change = change_of state event

  abbrev changed : State
  changed = change.state

  abbrev hear : ℕ → Option SlotState → Option SlotState
  hear place slot = slot_heard server.table server.time server.rows (handles_for own here handles place) slot

  heard-one : (place : ℕ) (ordinal : Ordinal) → slice_get changed.slots place ≡ Some (Some ordinal)
      → hear place (slot_state_if_there changed.shared (changed.connections ordinal) (state.connections ordinal).given)
      ≡ slot_state_if_there changed.shared (connections_finished change ordinal) (state.connections ordinal).given
  heard-one place ordinal there =
      let connection : ConnectionState = changed.connections ordinal in
      let given : ℕ = (state.connections ordinal).given in
      let found : Option Row = row_of server.rows connection.peer in
      let has = has_row changed.shared.keys server.rows changed.bonds changed.owed connection is.rows (is.keyed ordinal) in
      let bounds : IsWithinBounds (share_of changed.shared.slots changed.shared.buffers) (fragment_size_of changed.shared.buffers) connection =
      change-queued state event possible (record { settled = sound.settled; queued = sound.queued }) ordinal in
      let ends : slot_state_if_there changed.shared (connections_finished change ordinal) given
      ≡ option_map (slot_after_hearing changed.shared.table changed.shared.time found (change.to_notify ordinal))
      (slot_state_if_there changed.shared connection given) =
      subst (λ (count : ℕ). slot_state_if_there changed.shared (connections_finished change ordinal) count
      ≡ option_map (slot_after_hearing changed.shared.table changed.shared.time found (change.to_notify ordinal))
      (slot_state_if_there changed.shared connection count))
      (change-same state event possible sound.settled ordinal (has_slot_there ordinal changed.slots place there))
      (finished_kept changed.shared found changed.bonds (change.to_notify ordinal) connection bounds has) in
      (λ i. slot_heard (is.table i) (is.time i) server.rows (handles_for own here handles place) (slot_state_if_there changed.shared connection given))
      ∙ heard-of-peer changed.shared.table changed.shared.time server.rows (handles_for own here handles place) changed.shared connection given
      ∙ (λ i. option_map (λ (slot_state : SlotState). (raises place ordinal there found slot_state i).0) (slot_state_if_there changed.shared connection given))
      ∙ sym ends

  heard-slot : (place : ℕ) (slot : Option Ordinal) → slice_get changed.slots place ≡ Some slot
      → hear place (slot_state_handed changed (all_given state) slot) ≡ slot_state_handed (before_commands state event) (all_given state) slot
  heard-slot place None there = refl
  heard-slot place (Some ordinal) there = heard-one place ordinal there

  open-heard : open_slots (server_after_event own here handles server) ≡ heard_from 0 hear (open_slots server)
  open-heard =
      elim (is_ready server.controller) as (λ (ready : Bool). (if ready then heard_from 0 hear server.slots else [])
      ≡ heard_from 0 hear (if ready then server.slots else [])) [
        | true ↦ refl
        | false ↦ refl
      ]

  slots-then : open_slots (server_after_event own here handles server) ≡ slot_states_handed (before_commands state event) (all_given state)
  slots-then =
      open-heard ∙ ap (heard_from 0 hear) is.slots
      ∙ heard_each hear (slot_state_handed changed (all_given state)) (slot_state_handed (before_commands state event) (all_given state)) 0 changed.slots
      (λ place at slot at_is there.
      heard-slot at slot (subst (λ (k : ℕ). slice_get changed.slots k ≡ Some slot) (let same : place ≡ at = omega (arith, at_is) in same) there))

  owing-then : IsOwing (step state event) (out state event) server.controller (open_slots (server_after_event own here handles server))
  owing-then =
      subst (λ (slots : List (Option SlotState)). IsOwing (step state event) (out state event) server.controller slots) (sym slots-then)
      (subst (λ (controller : Controller). IsOwing (step state event) (out state event) controller
      (slot_states_handed (before_commands state event) (all_given state))) (sym is.controller)
      (owes_what_an_event_brings state event possible sound.settled sound.queued sound.placed))

  keyed-then : (ordinal : Ordinal) → HasKeysOfItsPeer changed.shared.keys ((step state event).connections ordinal)
  unfolding step
  keyed-then ordinal =
      let connection : ConnectionState = changed.connections ordinal in
      let new : ConnectionState = connections_finished change ordinal in
      let sent : Bool =
      nat_lt (length (command_of_init changed.controller) + count_before ordinal (connections_finished change) changed.slots) changed.controller.credit in
      keyed_alike changed.shared.keys new (if sent then without_command new else new) (sent-link new sent)
      (keyed_alike changed.shared.keys connection new (finished-link changed.shared changed.bonds (change.to_notify ordinal) connection) (is.keyed ordinal))

  pub slots_heard : open_slots (server_after_event own here handles server) ≡ slot_states_handed (before_commands state event) (all_given state)
  slots_heard = slots-then

  pub ended : RefinesState (step state event) (out state event) (server_after_event own here handles server)
  unfolding step
  ended = record {
    table = is.table;
    changer = is.changer;
    keys = is.keys;
    rx_mtu = is.rx_mtu;
    time = is.time;
    buffers = is.buffers;
    rows = is.rows;
    keyed = keyed-then;
    free = λ early. ap (heard_from 0 hear) (is.free early) ∙ heard_free hear (λ place. refl) 0 changed.shared.slots;
    ready = λ ready. heard_length hear 0 server.slots ∙ is.ready ready;
    owing = owing-then;
  }

  -- the values that are skipped
  abbrev skips : ℕ → Option SlotState → List noted.Skipped
  skips place slot = slot_skips server.table server.time server.rows (handles_for own here handles place) slot

  skipped-one : (place : ℕ) (ordinal : Ordinal) → slice_get changed.slots place ≡ Some (Some ordinal)
      → map skip_told (skips place (slot_state_if_there changed.shared (changed.connections ordinal) (state.connections ordinal).given))
      ≡ slot_skips_told change (Some ordinal)
  skipped-one place ordinal there =
      let connection : ConnectionState = changed.connections ordinal in
      let found : Option Row = row_of server.rows connection.peer in
      let has = has_row changed.shared.keys server.rows changed.bonds changed.owed connection is.rows (is.keyed ordinal) in
      let of : ℕ → List noted.Skipped =
      λ count. slot_skips changed.shared.table changed.shared.time server.rows (change.to_notify ordinal) (slot_state_if_there changed.shared connection count)
      in
      ap (map skip_told)
      ((λ i. slot_skips (is.table i) (is.time i) server.rows (handles_for own here handles place)
      (slot_state_if_there changed.shared connection (state.connections ordinal).given))
      ∙ skips-raised place ordinal there
      ∙ ap of (sym (change-same state event possible sound.settled ordinal (has_slot_there ordinal changed.slots place there)))
      ∙ skips_kept changed.shared server.rows (changed.bonds connection.peer) (change.to_notify ordinal) connection has)
      ∙ skips-of (values_skipped change ordinal) connection.handle
    where
      skips-raised : (place : ℕ) (ordinal : Ordinal) → slice_get changed.slots place ≡ Some (Some ordinal) →
          let slot : Option SlotState = slot_state_if_there changed.shared (changed.connections ordinal) (state.connections ordinal).given in
          slot_skips changed.shared.table changed.shared.time server.rows (handles_for own here handles place) slot
          ≡ slot_skips changed.shared.table changed.shared.time server.rows (change.to_notify ordinal) slot
      skips-raised place ordinal there =
          let connection : ConnectionState = changed.connections ordinal in
          let slot_state : SlotState = slot_state_of changed.shared connection (state.connections ordinal).given in
          let of : List Handle → Bool → List noted.Skipped =
          λ handles is. slot_skips changed.shared.table changed.shared.time server.rows handles (if is then Some slot_state else None) in
          elim (is_there connection.mark) as (λ (is : Bool). of (handles_for own here handles place) is ≡ of (change.to_notify ordinal) is) [
            | true ↦ λ i. if slot_state.live
                then map (skip_of slot_state.handle) ((raises place ordinal there (row_of server.rows connection.peer) slot_state i).1) else []
            | false ↦ refl
          ]

      skips-of : (handles : List Handle) (handle : ℕ)
          → map skip_told (map (skip_of handle) handles) ≡ map (Skipped handle) handles
      skips-of [] handle = refl
      skips-of (attribute ∷ handles) handle = ap (λ (rest : List Notice). Skipped handle attribute ∷ rest) (skips-of handles handle)

  skipped-slot : (place : ℕ) (slot : Option Ordinal) → slice_get changed.slots place ≡ Some slot
      → map skip_told (skips place (slot_state_handed changed (all_given state) slot)) ≡ slot_skips_told change slot
  skipped-slot place None there = refl
  skipped-slot place (Some ordinal) there = skipped-one place ordinal there

  skips-then : map skip_told (all_skipped server.table server.time server.rows own here handles server.slots) ≡ skips_told change
  skips-then =
      by-ready (is_ready server.controller) refl
      ∙ skipped_each skips (slot_state_handed changed (all_given state)) (slot_skips_told change) 0 changed.slots
      (λ place at slot at_is there.
      skipped-slot at slot (subst (λ (k : ℕ). slice_get changed.slots k ≡ Some slot) (let same : place ≡ at = omega (arith, at_is) in same) there))
    where
      by-ready : (ready : Bool) → is_ready server.controller ≡ ready
          → map skip_told (skips_from 0 skips server.slots) ≡ map skip_told (skips_from 0 skips (slot_states_handed changed (all_given state)))
      by-ready true is_so =
          ap (λ (slots : List (Option SlotState)). map skip_told (skips_from 0 skips slots))
          (sym (ap (λ (ready : Bool). if ready then server.slots else []) is_so) ∙ is.slots)
      by-ready false is_so =
          ap (λ (slots : List (Option SlotState)). map skip_told (skips_from 0 skips slots)) (is.free (sym (ap is_ready is.controller) ∙ is_so))
          ∙ ap (map skip_told) (skipped_free skips (λ place. refl) 0 changed.shared.slots)
          ∙ ap (λ (slots : List (Option SlotState)). map skip_told (skips_from 0 skips slots))
          (sym (ap (λ (ready : Bool). if ready then server.slots else []) is_so) ∙ is.slots)

  -- an event of which nothing is told but what is skipped, and one of which something is
  pub ends : [] ≡ event_told state event → RefinesStep state event (server_after_event own here handles server)
  unfolding noticed
  ends silent = record { refines = ended; told = λ i. silent i ++ skips-then i }

  pub ends_with : (last : LastEvent)
      → notices_by (with_last last (server_after_event own here handles server)) last ≡ event_told state event
      → RefinesStep state event (with_last last (server_after_event own here handles server))
  unfolding noticed
  ends_with last told = record {
    refines = stands_with_last (step state event) (out state event) (server_after_event own here handles server) last ended;
    told = λ i. told i ++ skips-then i;
  }
