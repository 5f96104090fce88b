-- What has gone out to a connection is the front of what was queued for it.
use Rattle.std.proofs.Common.{◌≡◌, ℕ, ◌+◌, ◌<◌, ◌≤◌, Bool, true, false, List, [], ◌∷◌, ◌++◌, length, Option, Some, None, refl, sym, subst, ap, ◌∙◌, arith, append_assoc, append-nil}
use Rattle.std.specs.Prelude.{min, is_some, nat_lt, ◌==◌, if◌then◌else◌}
use Rattle.std.proofs.lemmas.Bool.{eqb-true}
use Rattle.att_numbers.specs.Types.{Row}
use Rattle.std.specs.List.{flat_map}
use Rattle.gatt_laws.proofs.runs.Ends.{end_keeps}
use Rattle.gatt_laws.proofs.runs.Silence.{gives_all_that_it_may}
use Rattle.std.proofs.lemmas.Bool.{ltb-true, ltb-false}
use Rattle.std.proofs.lemmas.Bool.Decides.{nat_tests}
use Rattle.gatt_laws.proofs.runs.Places.{HasPlace, live-there, absent_place, step_place, run_told, ready_at, none_comes, comes_only, start_absent, completed_gone, next_grows, IsAny, ComesOnlyFrom}
use Rattle.gatt_laws.specs.laws.Settled.{has_slot, HaveOneSlotEach, IsSettled}
use Rattle.gatt_laws.specs.laws.Runs.{after_events, events_of, ArePossible}
use Rattle.le_hci.specs.declared.peer.Peer.{Peer}
use Rattle.gatt_laws.specs.machine.Controller.{Slots, is_ready, command_of_init, count_before, without_command}
use Rattle.gatt_laws.specs.machine.Event.{Ordinal, Own, Event, Connected, Of, Completed, Credit, Tick, Replaced}
use Rattle.gatt_laws.proofs.runs.Always.{any_tables}
use Rattle.gatt_laws.proofs.runs.Runs.{is_where_events_lead, means_possible_events}
use Rattle.gatt_laws.proofs.invariants.Settled.{stays_settled, settled_at_first}
use Rattle.gatt_laws.specs.laws.Given.{packets_given_by_now, BringsWhatItGives, IsGivenTheFront, packets_at, packets_by_slot, packets_given_in_order}
use Rattle.gatt_laws.specs.machine.Input.{run}
use Rattle.gatt_laws.specs.machine.Start.{state_at}
use Rattle.gatt_laws.specs.laws.View.{peer_in}
use Rattle.gatt_laws.specs.machine.ConnectionState.{ConnectionState, no_connection, is_live, is_there}
use Rattle.gatt_laws.specs.machine.SharedState.{SharedState, share_of, fragment_size_of}
use Rattle.gatt_laws.specs.laws.Silence.{IsAllGiven}
use Rattle.gatt_laws.specs.machine.State.{State, Change, after_packets_completed, connection_after_replacement, packets_given, change_of, connections_finished, step, before_commands, commands_out, out, slot_out}
use Rattle.gatt_laws.specs.machine.Effect.{effect_of}
use Rattle.gatt_subs.specs.Indications.{after_replacement}
use Rattle.le_acl.specs.Packets.{total}
use Rattle.le_hci.specs.declared.buffers.Buffers.{Buffers}
use Rattle.octet_io.specs.Number.{Octets}
use Rattle.gatt_laws.proofs.invariants.GivenQueue.{GoesOn, HasAll, goes-on, step-grows}

-- A connection that comes serves.

absent-turn : (shared : SharedState) (bond : Row) (owed : Bool) (own : Own) → is_there (effect_of shared bond owed no_connection own).connection.mark ≡ true
    → is_live (effect_of shared bond owed no_connection own).connection.mark ≡ true
absent-turn shared bond owed (Connected handle peer) there = refl
absent-turn shared bond owed own there = cc there

abbrev ServesIfThere : ConnectionState → Type 0
ServesIfThere connection = is_there connection.mark ≡ true → is_live connection.mark ≡ true

of-absent : (state : State) (at ordinal : Ordinal) (own : Own) (same : Bool) → (ordinal == at) ≡ same → state.connections ordinal ≡ no_connection
    → ServesIfThere
    (if same
    then (effect_of state.shared (state.bonds (state.connections at).peer) (state.owed (state.connections at).peer) (state.connections at) own).connection
    else state.connections ordinal)
of-absent state at ordinal own true is none =
    let gone : state.connections at ≡ no_connection = ap state.connections (sym (eqb-true ordinal at is)) ∙ none in
    subst (λ (connection : ConnectionState).
    ServesIfThere (effect_of state.shared (state.bonds connection.peer) (state.owed connection.peer) connection own).connection) (sym gone)
    (absent-turn state.shared (state.bonds no_connection.peer) (state.owed no_connection.peer) own)
of-absent state at ordinal own false is none = subst (λ (connection : ConnectionState). ServesIfThere connection) (sym none) (λ there. cc there)

same-absent : (change : ConnectionState → ConnectionState) (connection : ConnectionState) → connection ≡ no_connection → change no_connection ≡ no_connection
    → ServesIfThere (change connection)
same-absent change connection none same = subst (λ (of : ConnectionState). ServesIfThere of) (sym (ap change none ∙ same)) (λ there. cc there)

change-absent : (state : State) (event : Event) (ordinal : Ordinal) → state.connections ordinal ≡ no_connection
    → ServesIfThere ((change_of state event).state.connections ordinal)
unfolding change_of
change-absent state (Of at own) ordinal none = of-absent state at ordinal own (ordinal == at) refl none
change-absent state (Completed entries) ordinal none =
    same-absent (after_packets_completed ordinal entries) (state.connections ordinal) none (completed_gone ordinal entries)
change-absent state (Credit allowed opcode status (Some init)) ordinal none =
    same-absent (λ (connection : ConnectionState). connection) (state.connections ordinal) none refl
change-absent state (Tick time) ordinal none =
    same-absent (λ (connection : ConnectionState). record connection { pending = Rattle.gatt_subs.specs.Indications.after_tick connection.pending time })
    (state.connections ordinal) none refl
change-absent state (Replaced table) ordinal none = same-absent (connection_after_replacement state.shared.table table) (state.connections ordinal) none refl
change-absent state event ordinal none = same-absent (λ (connection : ConnectionState). connection) (state.connections ordinal) none refl

step-absent : (state : State) (event : Event) (ordinal : Ordinal) → state.connections ordinal ≡ no_connection
    → ServesIfThere ((step state event).connections ordinal)
step-absent state event ordinal none there =
    let marks : ((step state event).connections ordinal).mark ≡ ((change_of state event).state.connections ordinal).mark =
    end_keeps (λ (of : ConnectionState). of.mark) (λ of pdus pending given reply reason. refl) state event ordinal in
    ap is_live marks ∙ change-absent state event ordinal none (ap is_there (sym marks) ∙ there)

-- one that has gone does not come again

none-below : (next least : Ordinal) (slots : Slots) → next < least + 1 → HaveOneSlotEach next slots → has_slot least slots ≡ false
none-below next least [] below each = refl
none-below next least (None ∷ slots) below each = none-below next least slots below each
none-below next least (Some one ∷ slots) below each =
    let less : one < least = omega (arith, each.0) in
    let differs : (one == least) ≡ false = grind (arith, nat_tests) in
    rw differs (none-below next least slots below each.2)

came-before-at : (state : State) (ordinal : Ordinal) (below : Bool) → nat_lt ordinal state.next ≡ below → IsSettled state
    → is_there (state.connections ordinal).mark ≡ true → ordinal < state.next
came-before-at state ordinal true is settled there = ltb-true ordinal state.next is
came-before-at state ordinal false is settled there =
    let past : state.next < ordinal + 1 = omega (arith, ltb-false ordinal state.next is) in
    let none : state.connections ordinal ≡ no_connection = settled.absent ordinal (none-below state.next ordinal state.slots past settled.slots) in
    absurd (cc (ap (λ (connection : ConnectionState). is_there connection.mark) (sym none) ∙ there))

run-place : (peer : Peer) (ordinal : Ordinal) (state : State) (events : List Event) → ComesOnlyFrom peer ordinal events
    → HasPlace peer (state.connections ordinal)
    → HasPlace peer ((after_events state events).connections ordinal)
run-place peer ordinal state [] from place = place
run-place peer ordinal state (event ∷ events) from place =
    run-place peer ordinal (step state event) events from.1 (step_place peer ordinal state event from.0 place)

some_peer : ℕ → Peer
some_peer kind = record { kind = kind; address = [] }

not-both : (connection : ConnectionState) (there : Bool) → is_there connection.mark ≡ there → HasPlace (some_peer 0) connection
    → HasPlace (some_peer 1) connection → there ≡ false
unfolding some_peer
not-both connection false is one other = refl
not-both connection true is one other =
    let same : some_peer 0 ≡ some_peer 1 = sym (one.of is) ∙ other.of is in
    let kinds : 0 ≡ 1 = ap (λ (peer : Peer). peer.kind) same in
    absurd (omega (arith, kinds))

never-back : (ordinal : Ordinal) (state : State) (events : List Event) → ArePossible IsAny state events → ordinal < state.next → state.connections ordinal
    ≡ no_connection
    → is_there ((after_events state events).connections ordinal).mark ≡ false
never-back ordinal state events possible below none =
    let connection : ConnectionState = (after_events state events).connections ordinal in
    let placed : (peer : Peer) → HasPlace peer connection =
    λ peer. run-place peer ordinal state events (none_comes peer ordinal state events possible below)
    (subst (λ (of : ConnectionState). HasPlace peer of) (sym none) (absent_place peer)) in
    not-both connection (is_there connection.mark) refl (placed (some_peer 0)) (placed (some_peer 1))

-- Over a run.

sent-packets : (shared : SharedState) (old connection : ConnectionState) (sent : Bool)
    → packets_given shared old (if sent then without_command connection else connection) ≡ packets_given shared old connection
sent-packets shared old connection true =
    elim (is_some connection.reason) as
    (λ (has : Bool). packets_given shared old (if has then record connection { reason = None } else record connection { reply = None })
    ≡ packets_given shared old connection) [
      | true ↦ refl
      | false ↦ refl
    ]
sent-packets shared old connection false = refl

packets-new : (ordinal : Ordinal) (state : State) (event : Event) → packets_at ordinal state event
    ≡ packets_given (step state event).shared (state.connections ordinal) ((step state event).connections ordinal)
unfolding step
packets-new ordinal state event =
    let change : Change = change_of state event in
    sym (sent-packets change.state.shared (state.connections ordinal) (connections_finished change ordinal)
    (nat_lt (length (command_of_init change.state.controller) + count_before ordinal (connections_finished change) change.state.slots)
    change.state.controller.credit))

same-slots : (state : State) (event : Event) → (step state event).shared.slots ≡ state.shared.slots
unfolding step change_of
same-slots state (Credit allowed opcode status (Some init)) = refl
same-slots state (Credit allowed opcode status None) = refl
same-slots state event = refl

module _ (buffers : Option Buffers) (peer : Peer) (ordinal : Ordinal) where
  record IsCounted (state : State) (events : List Event) : Type 0 where
    possible : ArePossible IsAny state events
    settled : IsSettled state
    comes : ComesOnlyFrom peer ordinal events
    place : HasPlace peer (state.connections ordinal)
    last : (after_events state events).shared.buffers ≡ buffers
    given : IsAllGiven state.shared (state.connections ordinal)
    within : is_there (state.connections ordinal).mark ≡ true
        → (state.connections ordinal).given ≤ total (fragment_size_of buffers) (state.connections ordinal).pdus

  told-there : (state : State) (events : List Event) → IsCounted state events → is_there (state.connections ordinal).mark ≡ true
      → state.shared.buffers ≡ buffers
  told-there state events is there =
      sym (run_told state events is.possible (ready_at state ordinal (is_ready state.controller) refl is.settled there)) ∙ is.last

  has-all : (state : State) (slots : ℕ) → state.shared.slots ≡ slots → (is_there (state.connections ordinal).mark ≡ true → state.shared.buffers ≡ buffers)
      → IsAllGiven state.shared (state.connections ordinal)
      → HasAll buffers slots (state.connections ordinal)
  has-all state slots counts tells all live =
      let connection : ConnectionState = state.connections ordinal in
      all live
      ∙ (λ i. min (total (fragment_size_of (tells (live-there connection.mark live) i)) connection.pdus)
      (share_of (counts i) (tells (live-there connection.mark live) i) + connection.done))

  module _ (state : State) (event : Event) (events : List Event) (is : IsCounted state (event ∷ events)) where
    settles : IsSettled (step state event)
    settles = stays_settled state event is.possible.0 is.settled

    tells : is_there ((step state event).connections ordinal).mark ≡ true → (step state event).shared.buffers ≡ buffers
    tells there =
        sym (run_told (step state event) events is.possible.1 (ready_at (step state event) ordinal (is_ready (step state event).controller) refl settles there))
        ∙ is.last

    all-new : HasAll buffers state.shared.slots ((step state event).connections ordinal)
    all-new = has-all (step state event) state.shared.slots (same-slots state event) tells (gives_all_that_it_may state event ordinal)

    packets-told : is_there ((step state event).connections ordinal).mark ≡ true
        → packets_at ordinal state event ≡ packets_given (record (step state event).shared { buffers = buffers }) (state.connections ordinal)
        ((step state event).connections ordinal)
    packets-told there =
        packets-new ordinal state event
        ∙ ap (λ (of : Option Buffers). packets_given (record (step state event).shared { buffers = of }) (state.connections ordinal)
        ((step state event).connections ordinal)) (tells there)

    goes-there : is_there (state.connections ordinal).mark ≡ true → is_there ((step state event).connections ordinal).mark ≡ true
        → GoesOn buffers (state.connections ordinal) ((step state event).connections ordinal) (packets_at ordinal state event)
    goes-there was there =
        let old : ConnectionState = state.connections ordinal in
        let new : ConnectionState = (step state event).connections ordinal in
        subst (λ (packets : List Octets). GoesOn buffers old new packets) (sym (packets-told there))
        (goes-on buffers state.shared.slots old new (step-grows state event ordinal was there)
        (has-all state state.shared.slots refl (told-there state (event ∷ events) is) is.given) all-new (is.within was))

    goes-come : state.connections ordinal ≡ no_connection → is_there ((step state event).connections ordinal).mark ≡ true
        → GoesOn buffers (state.connections ordinal) ((step state event).connections ordinal) (packets_at ordinal state event)
    goes-come none there =
        let new : ConnectionState = (step state event).connections ordinal in
        let given : new.given ≡ min (total (fragment_size_of buffers) new.pdus) (share_of state.shared.slots buffers + new.done) =
        all-new (step-absent state event ordinal none there) in
        record {
          given =
              (λ i. packets_given_by_now buffers (none i) ++ packets-told there i)
              ∙ ap (λ (old : ConnectionState). packets_given (record (step state event).shared { buffers = buffers }) old new) none;
          within = omega (arith, given);
        }

    goes : (was : Bool) → is_there (state.connections ordinal).mark ≡ was → is_there ((step state event).connections ordinal).mark ≡ true
        → GoesOn buffers (state.connections ordinal) ((step state event).connections ordinal) (packets_at ordinal state event)
    goes true before there = goes-there before there
    goes false before there = goes-come (is.place.absent before) there

    new-place : HasPlace peer ((step state event).connections ordinal)
    new-place = step_place peer ordinal state event is.comes.0 is.place

    counted-next : IsCounted (step state event) events
    counted-next = record {
      possible = is.possible.1;
      settled = settles;
      comes = is.comes.1;
      place = new-place;
      last = is.last;
      given = gives_all_that_it_may state event ordinal;
      within = λ there. (goes (is_there (state.connections ordinal).mark) refl there).within;
    }

    -- it is there before and after, or after alone; or neither; else it does not come again
    given-next : (was there : Bool) → is_there (state.connections ordinal).mark ≡ was → is_there ((step state event).connections ordinal).mark ≡ there
        → is_there ((after_events (step state event) events).connections ordinal).mark ≡ true
        → packets_given_by_now buffers (state.connections ordinal) ++ packets_at ordinal state event
        ≡ packets_given_by_now buffers ((step state event).connections ordinal)
    given-next was true before now after = (goes was before now).given
    given-next true false before now after =
        let below = next_grows state event ordinal (came-before-at state ordinal (nat_lt ordinal state.next) refl is.settled before) in
        absurd (cc (never-back ordinal (step state event) events is.possible.1 below (new-place.absent now), after))
    given-next false false before now after =
        let old : state.connections ordinal ≡ no_connection = is.place.absent before in
        let new : (step state event).connections ordinal ≡ no_connection = new-place.absent now in
        (λ i. packets_given_by_now buffers (old i) ++ packets-new ordinal state event i)
        ∙ (λ i. packets_given (step state event).shared (old i) (new i))
        ∙ ap (packets_given_by_now buffers) (sym new)

  given-run : (state : State) (events : List Event) → IsCounted state events → is_there ((after_events state events).connections ordinal).mark ≡ true
      → packets_given_by_now buffers (state.connections ordinal) ++ packets_given_in_order ordinal state events
      ≡ packets_given_by_now buffers ((after_events state events).connections ordinal)
  given-run state [] is after = append-nil (packets_given_by_now buffers (state.connections ordinal))
  given-run state (event ∷ events) is after =
      let new : State = step state event in
      sym (append_assoc (packets_given_by_now buffers (state.connections ordinal)) (packets_at ordinal state event) (packets_given_in_order ordinal new events))
      ∙ ap (λ (packets : List Octets). packets ++ packets_given_in_order ordinal new events)
      (given-next state event events is (is_there (state.connections ordinal).mark) (is_there (new.connections ordinal).mark) refl refl after)
      ∙ given-run new events (counted-next state event events is) after

pub is_given_the_front : IsGivenTheFront
is_given_the_front start ordinal input there =
    let events : List Event = events_of start input in
    let first : State = state_at start in
    let peer : Peer = peer_in ordinal events in
    let buffers : Option Buffers = (run start input).intake.state.shared.buffers in
    let leads : (run start input).intake.state ≡ after_events first events = is_where_events_lead start input in
    let none : first.connections ordinal ≡ no_connection = start_absent start ordinal in
    let possible = means_possible_events IsAny start input (any_tables input) in
    ap (λ (connection : ConnectionState). packets_given_by_now buffers connection ++ packets_given_in_order ordinal first events) (sym none)
    ∙ given-run buffers peer ordinal first events (record {
      possible = possible;
      settled = settled_at_first start;
      comes = comes_only ordinal first events possible;
      place = subst (λ (connection : ConnectionState). HasPlace peer connection) (sym none) (absent_place peer);
      last = ap (λ (state : State). state.shared.buffers) (sym leads);
      given = subst (λ (connection : ConnectionState). IsAllGiven first.shared connection) (sym none) (λ live. cc live);
      within = subst (λ (connection : ConnectionState). is_there connection.mark ≡ true → connection.given ≤ total (fragment_size_of buffers) connection.pdus)
          (sym none) (λ here. cc here);
    }) (ap (λ (state : State). is_there (state.connections ordinal).mark) (sym leads) ∙ there)
    ∙ ap (λ (state : State). packets_given_by_now buffers (state.connections ordinal)) (sym leads)

-- what an event gives goes out
pub brings_what_it_gives : BringsWhatItGives
unfolding out
brings_what_it_gives state event =
    let new : State = before_commands state event in
    λ i. commands_out new ++ flat_map (λ slot. same slot i) new.slots
  where
    same : (slot : Option Ordinal) → slot_out state (before_commands state event) slot ≡ packets_by_slot state event slot
    same None = refl
    same (Some ordinal) = refl
