-- Equal views give the same packets in every run: what the laws over events ask for is so in each.
use Rattle.std.proofs.Common.{◌≡◌, Bool, true, false, List, [], ◌∷◌, ◌++◌, Option, Some, None, refl, sym, subst, ap, ◌∙◌}
use Rattle.std.specs.Prelude.{◌==◌, if◌then◌else◌}
use Rattle.std.specs.Option.{option_map_or, option_to_list}
use Rattle.gatt_laws.proofs.runs.Runs.{is_where_events_lead, means_possible_events}
use Rattle.gatt_laws.proofs.isolation.SameView.{same_view_same_packets_of_events}
use Rattle.gatt_laws.proofs.invariants.Settled.{stays_settled, settled_at_first}
use Rattle.gatt_laws.proofs.runs.Silence.{gives_all_that_it_may}
use Rattle.gatt_laws.proofs.runs.Always.{any_tables}
use Rattle.gatt_laws.specs.machine.Controller.{is_ready}
use Rattle.gatt_laws.specs.machine.Event.{Ordinal, Event, Of, Completed}
use Rattle.gatt_laws.specs.machine.Input.{Item, run}
use Rattle.gatt_laws.specs.machine.ConnectionState.{ConnectionState, nobody}
use Rattle.gatt_laws.specs.laws.Runs.{after_events, events_of, ArePossible}
use Rattle.gatt_laws.specs.laws.SameView.{Seen, without_commands, seen_of, IsIndicated, IsKnown, IsKnownThroughout, IsIndicatedThroughout, SameViewSamePackets}
use Rattle.gatt_laws.specs.laws.Settled.{IsSettled}
use Rattle.gatt_laws.specs.laws.Silence.{IsAllGiven}
use Rattle.gatt_laws.specs.machine.Start.{Start, state_at}
use Rattle.gatt_laws.specs.machine.State.{State, step}
use Rattle.gatt_laws.specs.laws.View.{ShownEvent, Happens, Completes, Updates, Tells, Replaces, Writes, are_none, is_unseen, shown_written, written_in, own_counts, shown, shown_in, own_connecting, peer_connecting, peer_in, View}
use Rattle.le_hci.specs.declared.buffers.Buffers.{Buffers}
use Rattle.le_hci.specs.declared.peer.Peer.{Peer}
use Rattle.gatt_laws.proofs.runs.Places.{HasPlace, absent_place, step_place, run_told, ready_at, comes_only, start_absent, IsAny, ComesOnlyFrom}

-- The view of a connection tells its peer.

item_peer : ShownEvent → Option Peer
item_peer (Happens own) = own_connecting own
item_peer (Completes counts) = None
item_peer (Updates handle value) = None
item_peer (Tells time) = None
item_peer (Replaces table) = None
item_peer (Writes written) = None

peer_shown : Option ShownEvent → Option Peer
peer_shown None = None
peer_shown (Some item) = item_peer item

items_peer : List ShownEvent → Peer
items_peer [] = nobody
items_peer (item ∷ items) = option_map_or (λ peer. peer) (item_peer item) (items_peer items)

shown-peer : (peer : Peer) (ordinal : Ordinal) (state : State) (event : Event) → peer_shown (shown peer ordinal state event) ≡ peer_connecting ordinal event
unfolding shown peer_shown item_peer
shown-peer peer ordinal state (Of at own) =
    elim (ordinal == at) as (λ (same : Bool). peer_shown (if same then Some (Happens own) else shown_written (written_in state peer at own))
    ≡ (if same then own_connecting own else None)) [
      | true ↦ refl
      | false ↦
          elim (is_unseen (written_in state peer at own)) as
          (λ (unseen : Bool). ◌≡◌ {A = Option Peer} (peer_shown (if unseen then None else Some (Writes (written_in state peer at own)))) None) [
            | true ↦ refl
            | false ↦ refl
          ]
    ]
shown-peer peer ordinal state (Completed entries) =
    elim (are_none (own_counts ordinal entries)) as
    (λ (none : Bool). ◌≡◌ {A = Option Peer} (peer_shown (if none then None else Some (Completes (own_counts ordinal entries)))) None) [
      | true ↦ refl
      | false ↦ refl
    ]
shown-peer peer ordinal state event = refl

first-peer : (found : Option ShownEvent) (items : List ShownEvent) → items_peer (option_to_list found ++ items)
    ≡ option_map_or (λ peer. peer) (peer_shown found) (items_peer items)
unfolding items_peer peer_shown
first-peer None items = refl
first-peer (Some item) items = refl

items-peer : (peer : Peer) (ordinal : Ordinal) (state : State) (events : List Event) → items_peer (shown_in peer ordinal state events) ≡ peer_in ordinal events
unfolding items_peer
items-peer peer ordinal state [] = refl
items-peer peer ordinal state (event ∷ events) =
    first-peer (shown peer ordinal state event) (shown_in peer ordinal (step state event) events)
    ∙ (λ i. option_map_or (λ one. one) (shown-peer peer ordinal state event i) (items-peer peer ordinal (step state event) events i))

-- So in every run it is known throughout.

module _ (buffers : Option Buffers) (peer : Peer) (ordinal : Ordinal) where
  record IsReached (state : State) (events : List Event) : Type 0 where
    possible : ArePossible IsAny state events
    settled : IsSettled state
    comes : ComesOnlyFrom peer ordinal events
    place : HasPlace peer (state.connections ordinal)
    last : (after_events state events).shared.buffers ≡ buffers
    released : IsIndicated (state.connections ordinal).pending
    given : IsAllGiven state.shared (state.connections ordinal)

  known-at : (state : State) (events : List Event) → IsReached state events → IsKnown buffers peer ordinal state
  known-at state events is = record {
    peers = is.place.of;
    told = λ there. sym (run_told state events is.possible (ready_at state ordinal (is_ready state.controller) refl is.settled there)) ∙ is.last;
    absent = is.place.absent;
    released = is.released;
    given = is.given;
  }

  known-throughout : (state : State) (events : List Event) → IsReached state events → IsIndicatedThroughout ordinal state events
      → IsKnownThroughout buffers peer ordinal state events
  known-throughout state [] is released = known-at state [] is
  known-throughout state (event ∷ events) is released = (
    known-at state (event ∷ events) is,
    known-throughout (step state event) events (record {
      possible = is.possible.1;
      settled = stays_settled state event is.possible.0 is.settled;
      comes = is.comes.1;
      place = step_place peer ordinal state event is.comes.0 is.place;
      last = is.last;
      released = released.0;
      given = gives_all_that_it_may state event ordinal;
    }) released.1,
  )

start-known : (start : Start) (ordinal : Ordinal) (input : List Item) → IsIndicatedThroughout ordinal (state_at start) (events_of start input)
    → IsKnownThroughout (run start input).intake.state.shared.buffers (peer_in ordinal (events_of start input)) ordinal (state_at start) (events_of start input)
start-known start ordinal input released =
    let events : List Event = events_of start input in
    let peer : Peer = peer_in ordinal events in
    let buffers : Option Buffers = (run start input).intake.state.shared.buffers in
    let none = start_absent start ordinal in
    let possible = means_possible_events IsAny start input (any_tables input) in
    known-throughout buffers peer ordinal (state_at start) events (record {
      possible = possible;
      settled = settled_at_first start;
      comes = comes_only ordinal (state_at start) events possible;
      place = subst (λ (connection : ConnectionState). HasPlace peer connection) (sym none) (absent_place peer);
      last = ap (λ (state : State). state.shared.buffers) (sym (is_where_events_lead start input));
      released = subst (λ (connection : ConnectionState). IsIndicated connection.pending) (sym none) (λ free. refl);
      given = subst (λ (connection : ConnectionState). IsAllGiven (state_at start).shared connection) (sym none) (λ live. cc live);
    }) released

pub same_view_same_packets : SameViewSamePackets
same_view_same_packets start one other input another same released released_too =
    let events : List Event = events_of start input in
    let others : List Event = events_of start another in
    let state : State = state_at start in
    let peer : Peer = peer_in one events in
    let buffers : Option Buffers = (run start input).intake.state.shared.buffers in
    let tells : buffers ≡ (run start another).intake.state.shared.buffers = ap (λ (of : View). of.buffers) same in
    let items : shown_in peer one state events ≡ shown_in (peer_in other others) other state others = ap (λ (of : View). of.items) same in
    let peers : peer ≡ peer_in other others =
    sym (items-peer peer one state events) ∙ ap items_peer items ∙ items-peer (peer_in other others) other state others in
    let known_too : IsKnownThroughout buffers peer other state others =
    subst (λ (of : Peer). IsKnownThroughout buffers of other state others) (sym peers)
    (subst (λ (of : Option Buffers). IsKnownThroughout of (peer_in other others) other state others) (sym tells) (start-known start other another released_too))
    in
    let alike = same_view_same_packets_of_events buffers peer one other state state events others (start-known start one input released) known_too
    (λ i. record (seen_of buffers peer one state) { connection = without_commands ((start_absent start one ∙ sym (start_absent start other)) i) })
    (items ∙ ap (λ (of : Peer). shown_in of other state others) (sym peers)) in
    record {
      packets = alike.packets;
      connection =
          ap (λ (of : State). without_commands (of.connections one)) (is_where_events_lead start input)
          ∙ ap (λ (of : Seen). of.connection) alike.seen
          ∙ sym (ap (λ (of : State). without_commands (of.connections other)) (is_where_events_lead start another));
    }
