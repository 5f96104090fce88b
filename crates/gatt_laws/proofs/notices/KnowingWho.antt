-- A listener knows who is there, after each event and in every run.
use Rattle.std.proofs.Common.{◌≡◌, ℕ, Bool, true, false, List, [], ◌∷◌, Option, Some, None}
use Rattle.std.proofs.Common.{refl, sym, ap, subst, ◌∙◌, arith}
use Rattle.std.specs.Prelude.{◌==◌, ◌&&◌, if◌then◌else◌}
use Rattle.std.specs.Option.{option_map_or}
use Rattle.std.proofs.lemmas.Bool.{eqb-true, eq-eqb}
use Rattle.std.proofs.lemmas.Bool.Decides.{nat_tests}
use Rattle.att_numbers.specs.Types.{Row}
use Rattle.gatt_laws.proofs.runs.ItemEvents.{MeantIfSome, any_table, item_meant, means_its_event}
use Rattle.gatt_laws.proofs.runs.Meant.{possible_where_meant, unused_where_meant}
use Rattle.gatt_laws.proofs.runs.Named.{IsNamedAs, end_named, step_named}
use Rattle.gatt_laws.proofs.invariants.Placed.{taken-has, freed-has, freed_lacks, init-has, stays_placed}
use Rattle.gatt_laws.proofs.invariants.Placed.{placed_at_first}
use Rattle.gatt_laws.proofs.notices.Present.{present_both, if-live-others, slots-others, peer_at}
use Rattle.gatt_laws.proofs.notices.Present.{same-peers, none-has, taken-peers, freed-peers, freed-none}
use Rattle.gatt_laws.proofs.notices.Present.{init-peers}
use Rattle.gatt_laws.proofs.invariants.Settled.{none_next, stays_settled, settled_at_first}
use Rattle.gatt_laws.proofs.notices.Skips.{present_by_what_is_told}
use Rattle.gatt_laws.specs.machine.Context.{holding}
use Rattle.gatt_laws.specs.machine.Controller.{with_freed}
use Rattle.gatt_laws.specs.machine.Event as event
use Rattle.gatt_laws.specs.machine.Event.{Ordinal, Event, KeyAsked, Encrypted, Refreshed, Asks}
use Rattle.gatt_laws.specs.machine.Event.{OtherChannel, Authorized, Ended, Of, Credit, Tick}
use Rattle.gatt_laws.specs.machine.Input.{Item, Run, after_item, after_items, run_at_start, run}
use Rattle.gatt_laws.specs.machine.ItemEvents.{event_at, after_if}
use Rattle.gatt_laws.specs.machine.Notice.{Notice, Connected, Disconnected, event_told, noticed, notices_of, notices_in}
use Rattle.gatt_laws.specs.machine.ConnectionState.{ConnectionState, fresh_connection, is_there}
use Rattle.gatt_laws.specs.laws.Possible.{Possible, MayConnect}
use Rattle.gatt_laws.specs.laws.Present.{ConnectsUnused}
use Rattle.gatt_laws.specs.laws.Present.{Present, present_in, nobody_present, peers_in, HasOneHandleEach}
use Rattle.gatt_laws.specs.laws.Present.{AlwaysHasOneHandleEach, IsKnowing, TellsWhoIsThere}
use Rattle.gatt_laws.specs.laws.Present.{KnowsWhoIsThere}
use Rattle.gatt_laws.specs.laws.RowNotices.{is_connection_or_disconnection}
use Rattle.gatt_laws.specs.laws.Settled.{has_slot, IsSettled}
use Rattle.gatt_laws.specs.machine.Start.{Start, state_at}
use Rattle.gatt_laws.specs.machine.State.{State, change_of, step}
use Rattle.gatt_laws.specs.machine.Effect.{effect_of}
use Rattle.le_hci.specs.declared.peer.Peer.{Peer}
use Rattle.octet_io.proofs.Choices.{and_with_false}

-- a connection that has a slot is none that has none
apart : (state : State) (at ordinal : Ordinal) → has_slot at state.slots ≡ false
    → has_slot ordinal state.slots ≡ true → (ordinal == at) ≡ false
apart state at ordinal lacks has =
    elim (ordinal == at) as (λ (same : Bool). (ordinal == at) ≡ same → same ≡ false) [
      | true ↦ λ same.
          let too : has_slot at state.slots ≡ true =
          ap (λ (one : Ordinal). has_slot one state.slots) (sym (eqb-true ordinal at same)) ∙ has in
          absurd (cc (too, lacks))
      | false ↦ λ differs. refl
    ] refl

module _ (state : State) (at : Ordinal) (handle : ℕ) (peer : Peer) (is : IsKnowing state)
    (may : MayConnect state at) (unused : holding state handle ≡ None) where
  abbrev coming : Event
  coming = Of at (event.Connected handle peer)

  pub lacks : has_slot at state.slots ≡ false
  lacks = subst (λ (one : Ordinal). has_slot one state.slots ≡ false) (sym may.next)
      (none_next state.next state.next state.slots (omega arith) is.settled.slots)

  pub away : is_there (state.connections at).mark ≡ false
  away = ap (λ (connection : ConnectionState). is_there connection.mark) (is.settled.absent at lacks)

  pub comes : (change_of state coming).state.connections at ≡ fresh_connection handle peer
  unfolding change_of
  comes =
      ap (λ (same : Bool). if same
      then (if is_there (state.connections at).mark then state.connections at else fresh_connection handle peer)
      else state.connections at) (eq-eqb at at refl)
      ∙ ap (λ (there : Bool). if there then state.connections at else fresh_connection handle peer) away

  came-named : IsNamedAs (fresh_connection handle peer) ((step state coming).connections at)
  came-named = subst (λ (connection : ConnectionState). IsNamedAs connection ((step state coming).connections at)) comes
      (end_named state coming at)

  pub others-named : (ordinal : Ordinal) → (ordinal == at) ≡ false
      → IsNamedAs (state.connections ordinal) ((step state coming).connections ordinal)
  others-named ordinal differs = step_named state coming ordinal
      (ap (λ (same : Bool). same && true) differs)

  coming-peers : (asked : ℕ) → present_in (peers_in state) (event_told state coming) asked
      ≡ peers_in (step state coming) asked
  unfolding step change_of event_told
  coming-peers asked =
      ap (λ (there : Bool). present_in (peers_in state)
      (if there then [] else Connected handle peer ∷ []) asked) away
      ∙ sym (taken-peers state.connections
      (step state coming).connections at handle peer came-named state.slots asked may.free unused
      (λ ordinal has. others-named ordinal (apart state at ordinal lacks has)))

  pub old-slot : (ordinal : Ordinal) → (ordinal == at) ≡ false
      → has_slot ordinal (step state coming).slots ≡ true
      → has_slot ordinal state.slots ≡ true
  unfolding step change_of
  old-slot ordinal differs has =
      let back : (at == ordinal) ≡ false = grind (arith, nat_tests) in
      taken-has at ordinal state.slots differs back has

  -- it has a handle of its own
  not-its : (ordinal : Ordinal) → (ordinal == at) ≡ false
      → has_slot ordinal (step state coming).slots ≡ true
      → ((step state coming).connections ordinal).handle ≡ handle → ⊥
  not-its ordinal differs has same =
      let other = none-has state.connections state.slots handle ordinal unused
      (old-slot ordinal differs has) in
      let equal : (state.connections ordinal).handle
      ≡ handle = sym (others-named ordinal differs).handle ∙ same in
      cc (eq-eqb (state.connections ordinal).handle handle equal, other)

  pub its-handle : (ordinal : Ordinal) → (ordinal == at) ≡ true
      → ((step state coming).connections ordinal).handle ≡ handle
  its-handle ordinal same =
      ap (λ (one : Ordinal). ((step state coming).connections one).handle) (eqb-true ordinal at same)
      ∙ came-named.handle

  coming-alone : HasOneHandleEach (step state coming)
  coming-alone one other has has_too same = by-both (one == at) (other == at) refl refl
    where
      by-both : (first second : Bool) → (one == at) ≡ first → (other == at) ≡ second → one ≡ other
      by-both true true this that = eqb-true one at this ∙ sym (eqb-true other at that)
      by-both true false this that =
          absurd (not-its other that has_too (sym same ∙ its-handle one this))
      by-both false true this that = absurd (not-its one this has (same ∙ its-handle other that))
      by-both false false this that =
          is.handles one other (old-slot one this has) (old-slot other that has_too)
          (sym (others-named one this).handle ∙ same ∙ (others-named other that).handle)

module _ (state : State) (at : Ordinal) (is : IsKnowing state) where
  abbrev going : Event
  going = Of at event.Disconnected

  stay-named : (ordinal : Ordinal) → (ordinal == at) ≡ false
      → IsNamedAs (state.connections ordinal) ((step state going).connections ordinal)
  stay-named ordinal differs = step_named state going ordinal
      (ap (λ (same : Bool). same && true) differs)

  going-by : (asked : ℕ) (has : Bool) → has_slot at state.slots ≡ has
      → present_in (peers_in state) (event_told state going) asked ≡ peers_in (step state going) asked
  unfolding step change_of event_told
  going-by asked true has =
      ap (λ (there : Bool). present_in (peers_in state)
      (if there then Disconnected (state.connections at).handle ∷ [] else []) asked)
      (is.placed.there at has)
      ∙ sym (freed-peers state.connections (step state going).connections at state.slots asked
      (λ ordinal has_too same. is.handles ordinal at has_too has same) stay-named)
  going-by asked false lacks =
      ap (λ (connection : ConnectionState). present_in (peers_in state)
      (if is_there connection.mark then Disconnected connection.handle ∷ [] else []) asked)
      (is.settled.absent at lacks)
      ∙ sym (ap (λ slots. peer_at (step state going).connections slots asked)
      (freed-none at state.slots lacks)
      ∙ same-peers state.connections (step state going).connections state.slots asked
      (λ ordinal has. stay-named ordinal (apart state at ordinal lacks has)))

-- where nobody comes and nobody goes
module _ (state : State) (happens : Event)
    (kind : (ordinal : Ordinal) → is_connection_or_disconnection ordinal happens ≡ false) where
  still : (asked : ℕ) → peers_in state asked
      ≡ peer_at (step state happens).connections state.slots asked
  still asked =
      sym (same-peers state.connections (step state happens).connections state.slots asked
      (λ ordinal has. step_named state happens ordinal (kind ordinal)))

event-tells : (state : State) (happens : Event) (asked : ℕ) → IsKnowing state
    → Possible (λ table. Unit) state happens → ConnectsUnused state happens
    → present_in (peers_in state) (event_told state happens) asked ≡ peers_in (step state happens) asked
unfolding step change_of event_told
event-tells state (Of at (event.Connected handle peer)) asked is possible unused =
    coming-peers state at handle peer is possible unused asked
event-tells state (Of at event.Disconnected) asked is possible unused = going-by state at is asked
    (has_slot at state.slots) refl
event-tells state (Of at own) asked is possible unused =
    let connection : ConnectionState = state.connections at in
    let bond : Row = state.bonds connection.peer in
    ap (λ (present : Present). present asked)
    (if-live-others state.shared bond connection own
    (effect_of state.shared bond (state.owed connection.peer) connection own) (peers_in state))
    ∙ still state (Of at own) (λ ordinal. and_with_false (ordinal == at)) asked
event-tells state (Credit allowed opcode status (Some init)) asked is possible unused =
    let happens : Event = Credit allowed opcode status (Some init) in
    still state happens (λ ordinal. refl) asked
    ∙ sym (init-peers (step state happens).connections state.shared.slots init state.slots asked
    (is.settled.early possible))
event-tells state (Credit allowed opcode status None) asked is possible unused =
    still state (Credit allowed opcode status None) (λ ordinal. refl) asked
event-tells state (Tick time) asked is possible unused =
    ap (λ (present : Present). present asked) (slots-others state time state.slots (peers_in state))
    ∙ still state (Tick time) (λ ordinal. refl) asked
event-tells state event asked is possible unused = still state event (λ ordinal. refl) asked

pub tells_who_is_there : TellsWhoIsThere
tells_who_is_there state happens asked is possible unused =
    ap (λ (present : Present). present asked) (present_by_what_is_told state happens (peers_in state))
    ∙ event-tells state happens asked is possible unused

-- No two have one handle.

abbrev pub is_coming : Event → Bool
is_coming (Of at (event.Connected handle peer)) = true
is_coming happens = false

-- where each that has a slot had it, and kept its name
stay-alone : (state : State) (happens : Event)
    → ((ordinal : Ordinal) → has_slot ordinal (step state happens).slots ≡ true
    → (has_slot ordinal state.slots ≡ true) × (is_connection_or_disconnection ordinal happens ≡ false))
    → HasOneHandleEach state → HasOneHandleEach (step state happens)
stay-alone state happens back alone one other has has_too same =
    let first = back one has in
    let second = back other has_too in
    alone one other first.0 second.0
    (sym (step_named state happens one first.1).handle ∙ same
    ∙ (step_named state happens other second.1).handle)

freed-back : (at ordinal : Ordinal) (state : State) → has_slot ordinal (with_freed at state.slots)
    ≡ true
    → (has_slot ordinal state.slots ≡ true) ×
    (is_connection_or_disconnection ordinal (Of at event.Disconnected) ≡ false)
freed-back at ordinal state has = (
  freed-has at ordinal state.slots has,
  elim (ordinal == at) as (λ (same : Bool). (ordinal == at) ≡ same → (same && true) ≡ false) [
    | true ↦ λ same.
        let too : has_slot at (with_freed at state.slots) ≡ true =
        ap (λ (one : Ordinal). has_slot one (with_freed at state.slots))
        (sym (eqb-true ordinal at same)) ∙ has in
        absurd (cc (too, freed_lacks at state.slots))
    | false ↦ λ differs. refl
  ] refl,
)

-- a connection that has a slot after an event had it before, unless it is the one that comes
pub had_slot : (state : State) (happens : Event) (ordinal : Ordinal) → IsSettled state
    → Possible (λ table. Unit) state happens → is_coming happens ≡ false
    → has_slot ordinal (step state happens).slots ≡ true
    → (has_slot ordinal state.slots ≡ true) × (is_connection_or_disconnection ordinal happens ≡ false)
unfolding step change_of
had_slot state (Of at (event.Connected handle peer)) ordinal is possible kind has = cc kind
had_slot state (Of at event.Disconnected) ordinal is possible kind has = freed-back at ordinal state has
had_slot state (Of at (KeyAsked random_number diversifier)) ordinal is possible kind has =
    (has, and_with_false (ordinal == at))
had_slot state (Of at (Encrypted status enabled)) ordinal is possible kind has = (has, and_with_false (ordinal == at))
had_slot state (Of at (Refreshed status)) ordinal is possible kind has = (has, and_with_false (ordinal == at))
had_slot state (Of at (Asks pdu)) ordinal is possible kind has = (has, and_with_false (ordinal == at))
had_slot state (Of at (OtherChannel channel payload)) ordinal is possible kind has =
    (has, and_with_false (ordinal == at))
had_slot state (Of at (Authorized until)) ordinal is possible kind has = (has, and_with_false (ordinal == at))
had_slot state (Of at Ended) ordinal is possible kind has = (has, and_with_false (ordinal == at))
had_slot state (Credit allowed opcode status (Some init)) ordinal is possible kind has =
    (init-has state.shared.slots init ordinal state.slots has, refl)
had_slot state (Credit allowed opcode status None) ordinal is possible kind has = (has, refl)
had_slot state happens ordinal is possible kind has = (has, refl)

keeps-alone : (state : State) (happens : Event) → Possible (λ table. Unit) state happens
    → ConnectsUnused state happens
    → IsKnowing state → HasOneHandleEach (step state happens)
keeps-alone state (Of at (event.Connected handle peer)) possible unused is =
    coming-alone state at handle peer is possible unused
keeps-alone state happens possible unused is =
    stay-alone state happens (λ ordinal. had_slot state happens ordinal is.settled possible refl) is.handles

pub stays-knowing : (state : State) (happens : Event) → Possible (λ table. Unit) state happens
    → ConnectsUnused state happens → IsKnowing state → IsKnowing (step state happens)
stays-knowing state happens possible unused is = record {
  settled = stays_settled state happens possible is.settled;
  placed = stays_placed state happens possible is.placed;
  handles = keeps-alone state happens possible unused is;
}

pub knowing-at-first : (start : Start) → IsKnowing (state_at start)
knowing-at-first start = record {
  settled = settled_at_first start;
  placed = placed_at_first start;
  handles = λ one other has. cc has;
}

-- In every run.

record Goes (state new : State) (notices : List Notice) : Type 0 where
  knowing : IsKnowing new
  present : present_in (peers_in state) notices ≡ peers_in new

event-goes : (state : State) (found : Option Event) → IsKnowing state
    → MeantIfSome (λ table. Unit) state found
    → Goes state (after_if state found) (option_map_or (noticed state) found [])
event-goes state None is meant = record { knowing = is; present = refl }
event-goes state (Some happens) is meant =
    let possible = possible_where_meant (λ table. Unit) state happens meant in
    let unused = unused_where_meant (λ table. Unit) state happens meant in
    record {
      knowing = stays-knowing state happens possible unused is;
      present = λ i asked. tells_who_is_there state happens asked is possible unused i;
    }

item-goes : (old : Run) (item : Item) → IsKnowing old.intake.state
    → Goes old.intake.state (after_item old item).intake.state (notices_of old item)
item-goes old item is =
    subst (λ (state : State). Goes old.intake.state state (notices_of old item))
    (sym (means_its_event old item).state)
    (event-goes old.intake.state (event_at old.intake item) is
    (item_meant (λ table. Unit) old.intake item (any_table item)))

record GoesOn (new : Run) (present : Present) (notices : List Notice) : Type 0 where
  knowing : IsKnowing new.intake.state
  right : present_in present notices ≡ peers_in new.intake.state

all-present : (old : Run) (items : List Item) (present : Present) → IsKnowing old.intake.state
    → present ≡ peers_in old.intake.state
    → GoesOn (after_items old items) present (notices_in old items)
all-present old [] present is right = record { knowing = is; right = right }
all-present old (item ∷ items) present is right =
    let goes = item-goes old item is in
    let told : Present = present_in present (notices_of old item) in
    let later = all-present (after_item old item) items told goes.knowing
    (ap (λ (of : Present). present_in of (notices_of old item)) right ∙ goes.present) in
    record {
      knowing = later.knowing;
      right = present_both present (notices_of old item) (notices_in (after_item old item) items)
          ∙ later.right;
    }

in-run : (start : Start) (input : List Item)
    → GoesOn (after_items (run_at_start start) input) nobody_present (notices_in (run_at_start start) input)
in-run start input =
    all-present (run_at_start start) input nobody_present (knowing-at-first start) (λ i asked. None)

pub always_has_one_handle_each : AlwaysHasOneHandleEach
unfolding run
always_has_one_handle_each start input = (in-run start input).knowing.handles

pub knows_who_is_there : KnowsWhoIsThere
unfolding run
knows_who_is_there start input handle =
    ap (λ (present : Present). present handle) (in-run start input).right
