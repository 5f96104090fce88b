-- What is given to a connection is the front of its queue, also once it has gone.
use Rattle.std.proofs.Common.{◌≡◌, ℕ, zero, suc, ◌+◌, Bool, true, false, List, [], ◌∷◌, ◌++◌, length, map, take, drop, Option, Some, None, refl, sym, ap, subst, ◌∙◌, append_assoc, append-nil}
use Rattle.std.specs.Prelude.{nat_lt, if◌then◌else◌}
use Rattle.std.specs.Option.{option_to_list}
use Rattle.gatt_laws.proofs.invariants.Given.{is_given_the_front}
use Rattle.gatt_laws.proofs.invariants.Placed.{is_always_placed}
use Rattle.gatt_laws.proofs.runs.Runs.{is_where_events_lead}
use Rattle.gatt_laws.proofs.invariants.Settled.{is_always_settled}
use Rattle.gatt_laws.specs.laws.Given.{packets_given_by_now, packets_at, packets_given_in_order}
use Rattle.gatt_laws.specs.laws.Placed.{IsPlaced}
use Rattle.gatt_laws.specs.laws.Runs.{after_events, events_in, events_of}
use Rattle.gatt_laws.specs.laws.Settled.{has_slot, IsSettled}
use Rattle.gatt_laws.specs.machine.Controller.{command_of_init, count_before}
use Rattle.gatt_laws.specs.machine.Event.{Ordinal, Event}
use Rattle.gatt_laws.specs.machine.Input.{Item, Run, after_item, after_items, run_at_start}
use Rattle.gatt_laws.specs.machine.ItemEvents.{event_at}
use Rattle.gatt_laws.specs.machine.ConnectionState.{ConnectionState, is_there}
use Rattle.gatt_laws.specs.machine.SharedState.{fragment_size_of}
use Rattle.gatt_laws.specs.machine.Start.{Start, state_at}
use Rattle.gatt_laws.specs.machine.State.{State, Change, change_of, connections_finished, step}
use Rattle.le_acl.specs.Fragment.{Fragment}
use Rattle.le_acl.specs.Outgoing.{acl_octets}
use Rattle.le_acl.specs.Packets.{Pdu, packets_of}
use Rattle.octet_io.specs.Number.{Octets}
use Rattle.gatt_theorems.proofs.Gained.{sent_queue}
use Rattle.gatt_theorems.specs.Front.{front_after, front_in, IsAlwaysGivenTheFront}

-- Events behind others.

events-append : (old : Run) (items more : List Item) → events_in old (items ++ more) ≡ events_in old items ++ events_in (after_items old items) more
events-append old [] more = refl
events-append old (item ∷ items) more =
    ap (λ (events : List Event). option_to_list (event_at old.intake item) ++ events) (events-append (after_item old item) items more)
    ∙ sym (append_assoc (option_to_list (event_at old.intake item)) (events_in (after_item old item) items)
    (events_in (after_items (after_item old item) items) more))

after-append : (state : State) (events more : List Event) → after_events state (events ++ more) ≡ after_events (after_events state events) more
after-append state [] more = refl
after-append state (event ∷ events) more = after-append (step state event) events more

packets-append : (ordinal : Ordinal) (state : State) (events more : List Event)
    → packets_given_in_order ordinal state (events ++ more) ≡ packets_given_in_order ordinal state events
    ++ packets_given_in_order ordinal (after_events state events) more
packets-append ordinal state [] more = refl
packets-append ordinal state (event ∷ events) more =
    ap (λ (packets : List Octets). packets_at ordinal state event ++ packets) (packets-append ordinal (step state event) events more)
    ∙ sym (append_assoc (packets_at ordinal state event) (packets_given_in_order ordinal (step state event) events)
    (packets_given_in_order ordinal (after_events (step state event) events) more))

front-append : (ordinal : Ordinal) (front : List Octets) (state : State) (events more : List Event)
    → front_in ordinal front state (events ++ more) ≡ front_in ordinal (front_in ordinal front state events) (after_events state events) more
front-append ordinal front state [] more = refl
front-append ordinal front state (event ∷ events) more =
    front-append ordinal (front_after ordinal front (step state event)) (step state event) events more

-- A connection that is not there has no queue, and is given nothing.

take-none : {A : Type 0} (n : ℕ) → take {A = A} n [] ≡ []
take-none zero = refl
take-none (suc n) = refl

drop-none : {A : Type 0} (n : ℕ) → drop {A = A} n [] ≡ []
drop-none zero = refl
drop-none (suc n) = refl

none-given : (state : State) (event : Event) (ordinal : Ordinal) → ((step state event).connections ordinal).pdus ≡ [] → packets_at ordinal state event ≡ []
unfolding step
none-given state event ordinal none =
    let change : Change = change_of state event in
    let old : ConnectionState = state.connections ordinal in
    let new : ConnectionState = connections_finished change ordinal in
    let empty : new.pdus ≡ [] =
    sym (sent_queue new
    (nat_lt (length (command_of_init change.state.controller) + count_before ordinal (connections_finished change) change.state.slots)
    change.state.controller.credit))
    ∙ none in
    ap (λ (pdus : List Pdu). map (acl_octets new.handle) (drop old.given (take new.given (packets_of (fragment_size_of change.state.shared.buffers) pdus))))
    empty
    ∙ ap (λ (fragments : List Fragment). map (acl_octets new.handle) (drop old.given fragments)) (take-none new.given)
    ∙ ap (map (acl_octets new.handle)) (drop-none old.given)

no-slot : (state : State) (ordinal : Ordinal) (has : Bool) → has_slot ordinal state.slots ≡ has → IsPlaced state → is_there (state.connections ordinal).mark
    ≡ false → has ≡ false
no-slot state ordinal true is placed away = absurd (cc (placed.there ordinal is, away))
no-slot state ordinal false is placed away = refl

no-queue : (state : State) (ordinal : Ordinal) → IsSettled state → IsPlaced state → is_there (state.connections ordinal).mark ≡ false
    → (state.connections ordinal).pdus ≡ []
no-queue state ordinal settled placed away =
    ap (λ (connection : ConnectionState). connection.pdus)
    (settled.absent ordinal (no-slot state ordinal (has_slot ordinal state.slots) refl placed away))

-- An item more.

module _ (start : Start) (ordinal : Ordinal) where
  abbrev IsFront : List Event → Type 0
  IsFront events = packets_given_in_order ordinal (state_at start) events ≡ front_in ordinal [] (state_at start) events

  -- what an input leads to
  record IsReached (events : List Event) : Type 0 where
    settled : IsSettled (after_events (state_at start) events)
    placed : IsPlaced (after_events (state_at start) events)
    given : is_there ((after_events (state_at start) events).connections ordinal).mark ≡ true
        → packets_given_in_order ordinal (state_at start) events
        ≡ packets_given_by_now (after_events (state_at start) events).shared.buffers ((after_events (state_at start) events).connections ordinal)

  reached : (input : List Item) → IsReached (events_of start input)
  reached input =
      let leads = is_where_events_lead start input in
      record {
        settled = subst IsSettled leads (is_always_settled start input);
        placed = subst IsPlaced leads (is_always_placed start input);
        given = subst (λ (state : State). is_there (state.connections ordinal).mark ≡ true
            → packets_given_in_order ordinal (state_at start) (events_of start input) ≡ packets_given_by_now state.shared.buffers (state.connections ordinal))
            leads
            (is_given_the_front start ordinal input);
      }

  next-if : (events : List Event) (event : Event) (there : Bool) → IsFront events → IsReached (events ++ event ∷ [])
      → is_there ((step (after_events (state_at start) events) event).connections ordinal).mark ≡ there
      → packets_given_in_order ordinal (state_at start) (events ++ event ∷ [])
      ≡ (if there then packets_given_by_now (step (after_events (state_at start) events) event).shared.buffers
      ((step (after_events (state_at start) events) event).connections ordinal)
      else front_in ordinal [] (state_at start) events)
  next-if events event true front reaches is =
      let new : after_events (state_at start) (events ++ event ∷ []) ≡ step (after_events (state_at start) events) event =
      after-append (state_at start) events (event ∷ []) in
      subst (λ (state : State). is_there (state.connections ordinal).mark ≡ true
      → packets_given_in_order ordinal (state_at start) (events ++ event ∷ []) ≡ packets_given_by_now state.shared.buffers (state.connections ordinal)) new
      reaches.given is
  next-if events event false front reaches is =
      let before : State = after_events (state_at start) events in
      let new : after_events (state_at start) (events ++ event ∷ []) ≡ step before event = after-append (state_at start) events (event ∷ []) in
      let none : packets_at ordinal before event ≡ [] =
      none-given before event ordinal (no-queue (step before event) ordinal (subst IsSettled new reaches.settled) (subst IsPlaced new reaches.placed) is) in
      packets-append ordinal (state_at start) events (event ∷ [])
      ∙ ap (λ (packets : List Octets). packets_given_in_order ordinal (state_at start) events ++ (packets ++ [])) none
      ∙ append-nil (packets_given_in_order ordinal (state_at start) events)
      ∙ front

  next-event : (events : List Event) (event : Event) → IsFront events → IsReached (events ++ event ∷ []) → IsFront (events ++ event ∷ [])
  next-event events event front reaches =
      next-if events event (is_there ((step (after_events (state_at start) events) event).connections ordinal).mark) front reaches refl
      ∙ sym (front-append ordinal [] (state_at start) events (event ∷ []))

  next-events : (events : List Event) (event : Option Event) → IsFront events → IsReached (events ++ option_to_list event)
      → IsFront (events ++ option_to_list event)
  next-events events None front reaches = subst IsFront (sym (append-nil events)) front
  next-events events (Some event) front reaches = next-event events event front reaches

  next-item : (done : List Item) (item : Item) → IsFront (events_of start done) → IsFront (events_of start (done ++ item ∷ []))
  unfolding events_of
  next-item done item front =
      let event : Option Event = event_at (after_items (run_at_start start) done).intake item in
      let all : events_of start (done ++ item ∷ []) ≡ events_of start done ++ option_to_list event =
      events-append (run_at_start start) done (item ∷ [])
      ∙ ap (λ (events : List Event). events_in (run_at_start start) done ++ events) (append-nil (option_to_list event)) in
      subst IsFront (sym all) (next-events (events_of start done) event front (subst IsReached all (reached (done ++ item ∷ []))))

  all-items : (done more : List Item) → IsFront (events_of start done) → IsFront (events_of start (done ++ more))
  all-items done [] front = subst (λ (items : List Item). IsFront (events_of start items)) (sym (append-nil done)) front
  all-items done (item ∷ more) front =
      subst (λ (items : List Item). IsFront (events_of start items)) (append_assoc done (item ∷ []) more)
      (all-items (done ++ item ∷ []) more (next-item done item front))

  at-first : IsFront (events_of start [])
  unfolding events_of
  at-first = refl

pub is_always_given_the_front : IsAlwaysGivenTheFront
is_always_given_the_front start ordinal input = all-items start ordinal [] input (at-first start ordinal)
