-- A connection that comes, and one that goes, lead a host on.
use Rattle.std.proofs.Common.{◌≡◌, ℕ, zero, suc, ◌/◌, Bool, true, false, List, [], ◌∷◌, map, length, set, slice_get, Option, Some, None, refl, sym, ap, ◌∙◌, arith}
use Rattle.std.specs.Prelude.{is_some, min, if◌then◌else◌, ◌==◌}
use Rattle.std.specs.Option.{option_map, option_map_or}
use Rattle.std.proofs.lemmas.Bool.{eq-eqb, eqb-true}
use Rattle.std.proofs.lemmas.Option.{slice_get-map}
use Rattle.gatt_host.proofs.owing.Nexts.{clash}
use Rattle.gatt_host.proofs.refinement.Holding.{Holds, ends_with, holds, some-is, were_open}
use Rattle.gatt_host.proofs.refinement.OneSlot.{none_raised_at, ready_where}
use Rattle.gatt_host.proofs.refinement.Told.{gone_told}
use Rattle.gatt_host.proofs.refinement.Effects.{at_own_peer, bonds_alike}
use Rattle.gatt_host.specs.declared.last_event.LastEvent.TheVariants as last
use Rattle.gatt_host.specs.ServerState.{ServerState, server_slot_at, disconnected_event, after_connection_complete, after_disconnection_complete, share_in, fragment_size_in}
use Rattle.gatt_host.specs.Owing.{all_given, slot_state_handed}
use Rattle.gatt_host.specs.StateRefinement.{HasKeysOfItsPeer, slots_with_buffers, RefinesStep, RefinesState, IsSound}
use Rattle.gatt_laws.proofs.invariants.Settled.{none_next}
use Rattle.gatt_laws.specs.machine.Controller.{Controller, Slots, has_free, is_ready, with_freed, with_taken}
use Rattle.gatt_laws.specs.machine.Event.{Ordinal, Of, Connected, Disconnected}
use Rattle.gatt_laws.specs.machine.Notice as notice
use Rattle.gatt_laws.specs.machine.Notice.{event_told}
use Rattle.gatt_laws.specs.machine.ConnectionState as laws
use Rattle.gatt_laws.specs.machine.ConnectionState.{ConnectionState, no_connection, is_there}
use Rattle.gatt_laws.specs.machine.SharedState.{share_of, fragment_size_of}
use Rattle.gatt_laws.specs.laws.Settled.{has_slot}
use Rattle.gatt_laws.specs.machine.State.{State, change_of, advertising_after}
use Rattle.host_connections.proofs.states.SlotStates.{kept_there}
use Rattle.host_connections.proofs.states.Places.{one_freed, takes_the_first}
use Rattle.host_connections.specs.SlotState.{SlotState, slot_state_if_there}
use Rattle.host_connections.specs.Slots.{place_free, at_place}
use Rattle.host_connections.specs.SlotEffects.{new_slot_state}
use Rattle.le_hci.specs.declared.buffers.Buffers.{Buffers}
use Rattle.le_hci.specs.declared.peer.Peer.{Peer}
use Rattle.le_hci.specs.InitTold.{told_in}
use Rattle.le_security.specs.Keys.{is_known}
use Rattle.le_security.specs.Link.{key_after, last_asked}
use Rattle.le_security.specs.declared.entry.Entry.{Entry}

-- a connection without a link has no key
pub keyed_anew : (keys : List Entry) (connection : ConnectionState) → connection.steps ≡ [] → HasKeysOfItsPeer keys connection
keyed_anew keys connection none = record {
  asked = λ is. absurd (clash (sym (ap (λ steps. is_some (last_asked steps)) none) ∙ is));
  key = λ is. absurd (clash (sym (ap (λ steps. is_some (key_after steps)) none) ∙ is));
}

set-length : {A : Type 0} (xs : List A) (place : ℕ) (x : A) → length (set xs place x) ≡ length xs
set-length [] place x = refl
set-length (y ∷ xs) zero x = refl
set-length (y ∷ xs) (suc place) x = ap (λ (count : ℕ). suc count) (set-length xs place x)

placed-length : {A : Type 0} (xs : List A) (place : ℕ) (change : A → A) (found : Option A) → length (option_map_or (λ x. set xs place (change x)) found xs)
    ≡ length xs
placed-length xs place change None = refl
placed-length xs place change (Some x) = set-length xs place (change x)

-- what is read at a place is what is changed there
at-read : {A : Type 0} (xs : List A) (place : ℕ) (change : A → A) (x : A) → slice_get xs place ≡ Some x → at_place place change xs ≡ set xs place (change x)
at-read {A = A} xs place change x read = ap (λ (found : Option A). option_map_or (λ y. set xs place (change y)) found xs) read

-- one goes
module _ (state : State) (server : ServerState) (place : ℕ) (ordinal : Ordinal) (sound : IsSound state) (refines : RefinesState state [] server)
    (there : slice_get state.slots place ≡ Some (Some ordinal)) where
  is : Holds state (all_given state) server
  is = holds state server refines

  abbrev without_it : ServerState
  without_it = record server { controller = advertising_after Disconnected server.controller; slots = at_place place (λ slot. None) server.slots }

  ready : is_ready state.controller ≡ true
  ready = ready_where state sound.settled place ordinal there

  slots-without : (after : Option Ordinal → Option SlotState) → after None ≡ None
      → ((other : Ordinal) → (other == ordinal) ≡ false → slot_state_handed state (all_given state) (Some other) ≡ after (Some other))
      → at_place place (λ slot. None) server.slots ≡ map after (with_freed ordinal state.slots)
  slots-without after none others =
      let keep : Option Ordinal → Option SlotState = slot_state_handed state (all_given state) in
      let read : slice_get (map keep state.slots) place ≡ Some (keep (Some ordinal)) =
      slice_get-map keep state.slots place ∙ ap (λ found. option_map keep found) there in
      ap (λ slots. at_place place (λ slot. None) slots) (were_open state (all_given state) server is ready)
      ∙ at-read (map keep state.slots) place (λ slot. None) (keep (Some ordinal)) read
      ∙ ap (λ slot. set (map keep state.slots) place slot) (sym none)
      ∙ one_freed keep after (sym none) state.next state.slots place ordinal sound.settled.slots there (λ other has differs. others other differs)

  going-holds : Holds (change_of state (Of ordinal Disconnected)).state (all_given state) without_it
  unfolding change_of
  going-holds =
      let new : State = (change_of state (Of ordinal Disconnected)).state in
      let peer : Peer = (state.connections ordinal).peer in
      record {
        table = is.table;
        changer = is.changer;
        keys = is.keys;
        rx_mtu = is.rx_mtu;
        time = is.time;
        buffers = is.buffers;
        rows = bonds_alike state.shared.keys server.rows state.bonds new.bonds state.owed new.owed
            (λ other. at_own_peer peer other (state.bonds peer) state.bonds refl) (λ other. at_own_peer peer other (state.owed peer) state.owed refl) is.rows;
        keyed = λ other.
            elim (other == ordinal) as (λ (same : Bool). HasKeysOfItsPeer state.shared.keys (if same then no_connection else state.connections other)) [
              | true ↦ keyed_anew state.shared.keys no_connection refl
              | false ↦ is.keyed other
            ];
        controller = ap (advertising_after Disconnected) is.controller;
        free = λ early. absurd (clash (sym early ∙ ready));
        ready = λ now. placed-length server.slots place (λ slot. None) (slice_get server.slots place) ∙ is.ready ready;
        slots = ap (λ (open_now : Bool). if open_now then at_place place (λ slot. None) server.slots else []) (ap is_ready is.controller ∙ ready)
            ∙ slots-without (slot_state_handed new (all_given state)) refl (λ other differs.
            ap (λ (same : Bool). slot_state_if_there state.shared (if same then no_connection else state.connections other) (state.connections other).given)
            (sym differs));
      }

  pub going_leads : RefinesStep state (Of ordinal Disconnected) (after_disconnection_complete place server)
  unfolding change_of
  going_leads =
      ends_with state (Of ordinal Disconnected) sound tt without_it going-holds None [] []
      (none_raised_at state.shared.table state.shared.time (with_freed ordinal state.slots) ordinal [] [] refl refl)
      (option_map_or disconnected_event (server_slot_at server place) last.Quiet)
      (gone_told state server place ordinal sound refines there (after_disconnection_complete place server))

-- one comes
share-kept : (slots : ℕ) (buffers : Option Buffers) → share_of (slots_with_buffers slots buffers) buffers ≡ share_of slots buffers
share-kept slots None = refl
share-kept slots (Some buffers) =
    let same : min (min slots buffers.packets) buffers.packets ≡ min slots buffers.packets = omega arith in
    ap (λ (count : ℕ). buffers.packets / count) same

no-slots : (slots : Slots) → slots ≡ [] → has_free slots ≡ false
no-slots slots none = ap has_free none

pub ready_where_free : (state : State) → IsSound state → has_free state.slots ≡ true → is_ready state.controller ≡ true
ready_where_free state sound free = elim (is_ready state.controller) as (λ (ready : Bool). is_ready state.controller ≡ ready → ready ≡ true) [
  | true ↦ λ is. refl
  | false ↦ λ early. absurd (clash (sym (no-slots state.slots (sound.settled.early early)) ∙ free))
] refl

module _ (state : State) (server : ServerState) (place handle : ℕ) (peer : Peer) (sound : IsSound state) (refines : RefinesState state [] server)
    (free : has_free state.slots ≡ true) (found : place_free server.slots ≡ Some place) where
  came-is : Holds state (all_given state) server
  came-is = holds state server refines

  came-ready : is_ready state.controller ≡ true
  came-ready = ready_where_free state sound free

  abbrev next : Ordinal
  next = state.next

  lacks : has_slot next state.slots ≡ false
  lacks = none_next next next state.slots (omega arith) sound.settled.slots

  nobody-yet : state.connections next ≡ no_connection
  nobody-yet = sound.settled.absent next lacks

  abbrev newcomer : SlotState
  newcomer = new_slot_state handle peer (is_known server.keys peer) server.rx_mtu (share_in server) (fragment_size_in server)

  abbrev with_it : ServerState
  with_it =
      record server { controller = advertising_after (Connected handle peer) server.controller; slots = at_place place (λ slot. Some newcomer) server.slots }

  abbrev coming_part : ConnectionState
  coming_part = if is_there (state.connections next).mark then state.connections next else laws.fresh_connection handle peer

  coming-is : coming_part ≡ laws.fresh_connection handle peer
  coming-is = ap (λ (connection : ConnectionState). if is_there connection.mark then connection else laws.fresh_connection handle peer) nobody-yet

  coming-kept : slot_state_if_there state.shared coming_part (state.connections next).given ≡ Some newcomer
  coming-kept =
      (λ i. slot_state_if_there state.shared (coming-is i) (nobody-yet i).given)
      ∙ λ i. Some (new_slot_state handle peer (is_known (sym came-is.keys i) peer) (sym came-is.rx_mtu i) (share-is i) (size-is i))
    where
      buffers-is : told_in server.controller.init ≡ state.shared.buffers
      buffers-is = ap (λ (controller : Controller). told_in controller.init) came-is.controller ∙ sym came-is.buffers

      share-is : share_of state.shared.slots state.shared.buffers ≡ share_in server
      share-is = sym (share-kept state.shared.slots state.shared.buffers) ∙ λ i. share_of (sym (came-is.ready came-ready) i) (sym buffers-is i)

      size-is : fragment_size_of state.shared.buffers ≡ fragment_size_in server
      size-is = ap fragment_size_of (sym buffers-is)

  others-differ : (other : Ordinal) → has_slot other state.slots ≡ true → (other == next) ≡ false
  others-differ other has = elim (other == next) as (λ (is : Bool). (other == next) ≡ is → is ≡ false) [
    | true ↦ λ same. absurd (clash (sym lacks ∙ ap (λ (one : Ordinal). has_slot one state.slots) (sym (eqb-true other next same)) ∙ has))
    | false ↦ λ differs. refl
  ] refl

  slots-with : (after : Option Ordinal → Option SlotState) → after None ≡ None → after (Some next) ≡ Some newcomer
      → ((other : Ordinal) → (other == next) ≡ false → slot_state_handed state (all_given state) (Some other) ≡ after (Some other))
      → at_place place (λ slot. Some newcomer) server.slots ≡ map after (with_taken next state.slots)
  slots-with after none own others =
      let keep : Option Ordinal → Option SlotState = slot_state_handed state (all_given state) in
      let open_now : server.slots ≡ map keep state.slots = were_open state (all_given state) server came-is came-ready in
      let takes = takes_the_first keep after next refl none state.slots free
      (λ other has. ap (λ (slot : Option SlotState). is_some slot)
      (kept_there state.shared (state.connections other) (state.connections other).given (sound.placed.there other has)))
      (λ other has. others other (others-differ other has)) in
      let at : takes.at ≡ place = some-is (sym takes.is ∙ ap place_free (sym open_now) ∙ found) in
      let read : slice_get (map keep state.slots) takes.at ≡ Some (keep None) =
      slice_get-map keep state.slots takes.at ∙ ap (λ found. option_map keep found) takes.free in
      ap (λ slots. at_place place (λ slot. Some newcomer) slots) open_now
      ∙ ap (λ (k : ℕ). at_place k (λ slot. Some newcomer) (map keep state.slots)) (sym at)
      ∙ at-read (map keep state.slots) takes.at (λ slot. Some newcomer) (keep None) read
      ∙ ap (λ slot. set (map keep state.slots) takes.at slot) (sym own)
      ∙ takes.taken

  coming-holds : Holds (change_of state (Of next (Connected handle peer))).state (all_given state) with_it
  unfolding change_of
  coming-holds =
      let new : State = (change_of state (Of next (Connected handle peer))).state in
      let old : Peer = (state.connections next).peer in
      record {
        table = came-is.table;
        changer = came-is.changer;
        keys = came-is.keys;
        rx_mtu = came-is.rx_mtu;
        time = came-is.time;
        buffers = came-is.buffers;
        rows = bonds_alike state.shared.keys server.rows state.bonds new.bonds state.owed new.owed
            (λ other. at_own_peer old other (state.bonds old) state.bonds refl) (λ other. at_own_peer old other (state.owed old) state.owed refl) came-is.rows;
        keyed = λ other.
            elim (other == next) as (λ (same : Bool). HasKeysOfItsPeer state.shared.keys (if same then coming_part else state.connections other)) [
              | true ↦ keyed_anew state.shared.keys coming_part (ap (λ (connection : ConnectionState). connection.steps) coming-is)
              | false ↦ came-is.keyed other
            ];
        controller = ap (advertising_after (Connected handle peer)) came-is.controller;
        free = λ early. absurd (clash (sym early ∙ came-ready));
        ready = λ now. placed-length server.slots place (λ slot. Some newcomer) (slice_get server.slots place) ∙ came-is.ready came-ready;
        slots = ap (λ (open_now : Bool). if open_now then at_place place (λ slot. Some newcomer) server.slots else [])
            (ap is_ready came-is.controller ∙ came-ready)
            ∙ slots-with (slot_state_handed new (all_given state)) refl
            (ap (λ (same : Bool). slot_state_if_there state.shared (if same then coming_part else state.connections next) (state.connections next).given)
            (eq-eqb next next refl) ∙ coming-kept)
            (λ other differs.
            ap (λ (same : Bool). slot_state_if_there state.shared (if same then coming_part else state.connections other) (state.connections other).given)
            (sym differs));
      }

  pub coming_leads : RefinesStep state (Of next (Connected handle peer)) (after_connection_complete place handle peer server)
  unfolding change_of event_told
  coming_leads =
      ends_with state (Of next (Connected handle peer)) sound (record { next = refl; free = free }) with_it coming-holds None [] []
      (none_raised_at state.shared.table state.shared.time (with_taken next state.slots) next [] [] refl refl)
      (last.Connected handle peer)
      (ap (λ (connection : ConnectionState). if is_there connection.mark then [] else notice.Connected handle peer ∷ []) (sym nobody-yet))
