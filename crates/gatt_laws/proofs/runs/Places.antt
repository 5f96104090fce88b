-- What is so of each connection in every run: it comes once and stays with its peer, and what the controller told stays
-- once connections may come.
use Rattle.std.proofs.Common.{◌≡◌, ℕ, ◌+◌, ◌-◌, ◌<◌, Bool, true, false, List, [], ◌∷◌, length, Option, Some, None, refl, sym, subst, ap, ◌∙◌, arith}
use Rattle.std.specs.Prelude.{min, nat_lt, ◌==◌, ◌&&◌, if◌then◌else◌}
use Rattle.std.specs.Option.{option_map_or}
use Rattle.std.proofs.lemmas.Bool.{eqb-true}
use Rattle.att_numbers.specs.Types.{Row}
use Rattle.att_table.specs.Table.{Contents}
use Rattle.gatt_laws.proofs.runs.Ends.{end_keeps}
use Rattle.gatt_laws.proofs.runs.Silence.{only_serves_the_live}
use Rattle.gatt_laws.specs.machine.Controller.{Controller, command_of_init, count_before, without_command, is_ready}
use Rattle.gatt_laws.proofs.runs.KeptByChanges.{KeepsByChanges, live_keeps}
use Rattle.octet_io.proofs.Choices.{either_choice}
use Rattle.gatt_laws.specs.machine.Event.{Ordinal, Own, Event, Connected, Disconnected, Of, Completed, Credit, Tick, Replaced}
use Rattle.gatt_laws.specs.machine.ConnectionState.{Mark, Absent, Live, Ending, ConnectionState, no_connection, fresh_connection, is_live, is_there}
use Rattle.gatt_laws.specs.laws.Possible.{Possible}
use Rattle.gatt_laws.specs.machine.SharedState.{SharedState}
use Rattle.gatt_laws.specs.laws.Runs.{after_events, ArePossible}
use Rattle.gatt_laws.specs.laws.Settled.{has_slot, IsSettled}
use Rattle.gatt_laws.specs.machine.Start.{Start, before_first_command, state_at}
use Rattle.gatt_laws.specs.machine.State.{State, Change, next_after, advertising_after, is_refusal, with_packets_completed, after_packets_completed, connection_after_replacement, change_of, finished, connections_finished, step}
use Rattle.gatt_laws.specs.machine.Effect.{effect_on_connection, live_effect, effect_of}
use Rattle.gatt_laws.specs.laws.View.{own_connecting, peer_connecting, peer_in}
use Rattle.gatt_subs.specs.Indications.{after_tick}
use Rattle.le_hci.specs.declared.peer.Peer.{Peer}

-- A connection that is there stays with its peer, and of one that is not, nothing is kept.

pub record HasPlace (peer : Peer) (connection : ConnectionState) : Type 0 where
  pub of : is_there connection.mark ≡ true → connection.peer ≡ peer
  pub absent : is_there connection.mark ≡ false → connection ≡ no_connection

-- what leaves a connection with its peer
record StaysWith (old new : ConnectionState) : Type 0 where
  there : is_there new.mark ≡ is_there old.mark
  peer : new.peer ≡ old.peer

module _ (peer : Peer) where
  stays-in-place : (change : ConnectionState → ConnectionState) (connection : ConnectionState) → StaysWith connection (change connection)
      → change no_connection ≡ no_connection → HasPlace peer connection → HasPlace peer (change connection)
  stays-in-place change connection stays none place = record {
    of = λ there. stays.peer ∙ place.of (sym stays.there ∙ there);
    absent = λ lacks. ap change (place.absent (sym stays.there ∙ lacks)) ∙ none;
  }

  pub absent_place : HasPlace peer no_connection
  absent_place = record { of = λ there. cc there; absent = λ lacks. refl }

  come-place : (handle : ℕ) (other : Peer) → other ≡ peer → HasPlace peer (fresh_connection handle other)
  come-place handle other same = record { of = λ there. same; absent = λ lacks. cc lacks }

pub live-there : (mark : Mark) → is_live mark ≡ true → is_there mark ≡ true
live-there Absent is = cc is
live-there Live is = refl
live-there Ending is = refl

stays-itself : (connection : ConnectionState) → StaysWith connection connection
stays-itself connection = record { there = refl; peer = refl }

by-changes : (connection : ConnectionState) → is_there connection.mark ≡ true → KeepsByChanges StaysWith connection
by-changes connection there = record {
  same = stays-itself connection;
  authorized = λ until. record { there = refl; peer = refl };
  ended = λ reason. record { there = sym there; peer = refl };
  key_asked = λ found. record { there = refl; peer = refl };
  stepped = λ step. record { there = refl; peer = refl };
  ended_then = λ step reason. record { there = sym there; peer = refl };
  queued = λ pdu. record { there = refl; peer = refl };
  served_by = λ shared bond owed pdu asked. record { there = refl; peer = refl };
}

if-live-place : (peer : Peer) (shared : SharedState) (bond : Row) (owed : Bool) (connection : ConnectionState) (own : Own) (live : Bool)
    → is_live connection.mark ≡ live → HasPlace peer connection
    → HasPlace peer (if live then live_effect shared bond owed connection own else effect_on_connection shared bond owed connection).connection
if-live-place peer shared bond owed connection own true is place =
    let there : is_there connection.mark ≡ true = live-there connection.mark is in
    let stays = live_keeps StaysWith shared bond owed connection (by-changes connection there) own in
    record {
      of = λ after. stays.peer ∙ place.of there;
      absent = λ lacks. absurd (cc (lacks, stays.there, there));
    }
if-live-place peer shared bond owed connection own false is place = place

if-there-place : (peer other : Peer) (connection : ConnectionState) (handle : ℕ) (there : Bool) → other ≡ peer → HasPlace peer connection
    → HasPlace peer (if there then connection else fresh_connection handle other)
if-there-place peer other connection handle true same place = place
if-there-place peer other connection handle false same place = come-place peer handle other same

-- a connection comes from this peer
abbrev pub ComesFrom : Peer → Option Peer → Type 0
ComesFrom peer coming = (other : Peer) → coming ≡ Some other → other ≡ peer

turn-place : (peer : Peer) (shared : SharedState) (bond : Row) (owed : Bool) (connection : ConnectionState) (own : Own) → ComesFrom peer (own_connecting own)
    → HasPlace peer connection
    → HasPlace peer (effect_of shared bond owed connection own).connection
turn-place peer shared bond owed connection (Connected handle other) from place =
    if-there-place peer other connection handle (is_there connection.mark) (from other refl) place
turn-place peer shared bond owed connection Disconnected from place = absent_place peer
turn-place peer shared bond owed connection own from place = if-live-place peer shared bond owed connection own (is_live connection.mark) refl place

completed-stays : (ordinal : Ordinal) (entries : List (Ordinal × ℕ)) (old connection : ConnectionState) → StaysWith old connection
    → StaysWith old (after_packets_completed ordinal entries connection)
completed-stays ordinal [] old connection stays = stays
completed-stays ordinal (entry ∷ entries) old connection stays =
    completed-stays ordinal entries old (if entry.0 == ordinal then with_packets_completed connection entry.1 else connection)
    (either_choice (StaysWith old) (entry.0 == ordinal) _ _ (record { there = stays.there; peer = stays.peer }) stays)

completed-none : (count : ℕ) → with_packets_completed no_connection count ≡ no_connection
completed-none count =
    let none : 0 + min count (0 - 0) ≡ 0 = omega arith in
    ap (λ (done : ℕ). record no_connection { done = done }) none

pub completed_gone : (ordinal : Ordinal) (entries : List (Ordinal × ℕ)) → after_packets_completed ordinal entries no_connection ≡ no_connection
completed_gone ordinal [] = refl
completed_gone ordinal (entry ∷ entries) =
    elim (entry.0 == ordinal) as (λ is. after_packets_completed ordinal entries (if is then with_packets_completed no_connection entry.1 else no_connection)
    ≡ no_connection) [
      | true ↦ ap (after_packets_completed ordinal entries) (completed-none entry.1) ∙ completed_gone ordinal entries
      | false ↦ completed_gone ordinal entries
    ]

replaced-stays : (old new : Contents) (connection : ConnectionState) → StaysWith connection (connection_after_replacement old new connection)
replaced-stays old new connection =
    either_choice
    (λ (dropped : ConnectionState).
    StaysWith connection (record dropped { row = Rattle.att_table.specs.ConfigRow.kept_row old.attributes new.attributes connection.row }))
    (is_live connection.mark) _ _
    (record { there = refl; peer = refl }) (record { there = refl; peer = refl })

of-place : (peer : Peer) (state : State) (ordinal at : Ordinal) (own : Own) (same : Bool) → (ordinal == at) ≡ same
    → ComesFrom peer (if same then own_connecting own else None) → HasPlace peer (state.connections ordinal)
    → HasPlace peer
    (if same
    then (effect_of state.shared (state.bonds (state.connections at).peer) (state.owed (state.connections at).peer) (state.connections at) own).connection
    else state.connections ordinal)
of-place peer state ordinal at own true is from place =
    turn-place peer state.shared (state.bonds (state.connections at).peer) (state.owed (state.connections at).peer) (state.connections at) own from
    (subst (λ (one : Ordinal). HasPlace peer (state.connections one)) (eqb-true ordinal at is) place)
of-place peer state ordinal at own false is from place = place

change-place : (peer : Peer) (ordinal : Ordinal) (state : State) (event : Event) → ComesFrom peer (peer_connecting ordinal event)
    → HasPlace peer (state.connections ordinal)
    → HasPlace peer ((change_of state event).state.connections ordinal)
unfolding change_of
change-place peer ordinal state (Of at own) from place =
    of-place peer state ordinal at own (ordinal == at) refl from place
change-place peer ordinal state (Completed entries) from place =
    stays-in-place peer (after_packets_completed ordinal entries) (state.connections ordinal)
    (completed-stays ordinal entries (state.connections ordinal) (state.connections ordinal) (stays-itself (state.connections ordinal)))
    (completed_gone ordinal entries) place
change-place peer ordinal state (Credit allowed opcode status (Some init)) from place = place
change-place peer ordinal state (Tick time) from place =
    stays-in-place peer (λ (connection : ConnectionState). record connection { pending = after_tick connection.pending time }) (state.connections ordinal)
    (record { there = refl; peer = refl }) refl place
change-place peer ordinal state (Replaced table) from place =
    stays-in-place peer (connection_after_replacement state.shared.table table) (state.connections ordinal)
    (replaced-stays state.shared.table table (state.connections ordinal)) refl place
change-place peer ordinal state event from place = place

sent-absent : (connection : ConnectionState) (sent : Bool) → connection ≡ no_connection → (if sent then without_command connection else connection)
    ≡ no_connection
sent-absent connection true is = ap without_command is
sent-absent connection false is = is

pub step_place : (peer : Peer) (ordinal : Ordinal) (state : State) (event : Event) → ComesFrom peer (peer_connecting ordinal event)
    → HasPlace peer (state.connections ordinal)
    → HasPlace peer ((step state event).connections ordinal)
unfolding step
step_place peer ordinal state event from place =
    let change : Change = change_of state event in
    let connection : ConnectionState = change.state.connections ordinal in
    let now = change-place peer ordinal state event from place in
    let marks : ((step state event).connections ordinal).mark ≡ connection.mark =
    end_keeps (λ (of : ConnectionState). of.mark) (λ of pdus pending given reply reason. refl) state event ordinal in
    let peers : ((step state event).connections ordinal).peer ≡ connection.peer =
    end_keeps (λ (of : ConnectionState). of.peer) (λ of pdus pending given reply reason. refl) state event ordinal in
    record {
      of = λ there. peers ∙ now.of (ap is_there (sym marks) ∙ there);
      absent = λ lacks.
          let none : connection ≡ no_connection = now.absent (ap is_there (sym marks) ∙ lacks) in
          sent-absent (connections_finished change ordinal)
          (nat_lt (length (command_of_init change.state.controller) + count_before ordinal (connections_finished change) change.state.slots)
          change.state.controller.credit)
          (ap (finished change.state.shared change.state.bonds (change.to_notify ordinal)) none ∙ only_serves_the_live change.state.shared change.state.bonds
          (change.to_notify ordinal) no_connection refl);
    }

-- Once the controller is initialised, what it told stays.

abbrev pub IsAny : Contents → Type 0
IsAny table = Unit

record StaysTold (old new : State) : Type 0 where
  told : new.shared.buffers ≡ old.shared.buffers
  ready : is_ready new.controller ≡ true

told-ready : (own : Own) (controller : Controller) → is_ready (advertising_after own controller) ≡ is_ready controller
told-ready (Connected handle peer) controller = refl
told-ready own controller = refl

refused-ready : (controller : Controller) (allowed : ℕ) (refused : Bool)
    → is_ready (if refused then record controller { credit = allowed; advertising = false; refused = true } else record controller { credit = allowed })
    ≡ is_ready controller
refused-ready controller allowed true = refl
refused-ready controller allowed false = refl

change-told : (state : State) (event : Event) → Possible IsAny state event → is_ready state.controller ≡ true → StaysTold state (change_of state event).state
unfolding change_of
change-told state (Of at own) possible ready = record { told = refl; ready = told-ready own state.controller ∙ ready }
change-told state (Credit allowed opcode status (Some init)) possible ready = absurd (cc (possible, ready))
change-told state (Credit allowed opcode status None) possible ready =
    record { told = refl; ready = refused-ready state.controller allowed (is_ready state.controller && is_refusal opcode status) ∙ ready }
change-told state event possible ready = record { told = refl; ready = ready }

step-told : (state : State) (event : Event) → Possible IsAny state event → is_ready state.controller ≡ true → StaysTold state (step state event)
unfolding step
step-told state event possible ready =
    let stays = change-told state event possible ready in record { told = stays.told; ready = stays.ready }

pub run_told : (state : State) (events : List Event) → ArePossible IsAny state events → is_ready state.controller ≡ true
    → (after_events state events).shared.buffers ≡ state.shared.buffers
run_told state [] possible ready = refl
run_told state (event ∷ events) possible ready =
    let stays = step-told state event possible.0 ready in
    run_told (step state event) events possible.1 stays.ready ∙ stays.told

-- a connection is there only then
pub ready_at : (state : State) (ordinal : Ordinal) (ready : Bool) → is_ready state.controller ≡ ready → IsSettled state
    → is_there (state.connections ordinal).mark ≡ true → ready ≡ true
ready_at state ordinal true is settled there = refl
ready_at state ordinal false is settled there =
    let none : state.connections ordinal ≡ no_connection = settled.absent ordinal (ap (has_slot ordinal) (settled.early is)) in
    absurd (cc (ap (λ (connection : ConnectionState). is_there connection.mark) (sym none) ∙ there))

-- A connection comes once, so from one peer.

next-own : (own : Own) (ordinal next : Ordinal) → ordinal < next → ordinal < next_after own next
next-own (Connected handle peer) ordinal next below = omega (arith, below)
next-own own ordinal next below = below

pub next_grows : (state : State) (event : Event) (ordinal : Ordinal) → ordinal < state.next → ordinal < (step state event).next
unfolding step change_of
next_grows state (Of at own) ordinal below = next-own own ordinal state.next below
next_grows state (Credit allowed opcode status (Some init)) ordinal below = below
next_grows state (Credit allowed opcode status None) ordinal below = below
next_grows state event ordinal below = below

-- who comes is the next one
came-own : (state : State) (at ordinal : Ordinal) (own : Own) (peer : Peer) (same : Bool) → (ordinal == at) ≡ same → Possible IsAny state (Of at own)
    → (if same then own_connecting own else None) ≡ Some peer → (ordinal ≡ state.next) × (next_after own state.next ≡ state.next + 1)
came-own state at ordinal (Connected handle other) peer true is may found = (eqb-true ordinal at is ∙ may.next, refl)
came-own state at ordinal own peer true is may found = cc found
came-own state at ordinal own peer false is may found = absurd (cc found)

record Comes (state : State) (event : Event) (ordinal : Ordinal) : Type 0 where
  itself : ordinal ≡ state.next
  next : (step state event).next ≡ state.next + 1

came : (state : State) (event : Event) (ordinal : Ordinal) (peer : Peer) → Possible IsAny state event → peer_connecting ordinal event ≡ Some peer
    → Comes state event ordinal
unfolding step change_of
came state (Of at own) ordinal peer may found =
    let both = came-own state at ordinal own peer (ordinal == at) refl may found in record { itself = both.0; next = both.1 }
came state event ordinal peer may found = cc found

abbrev pub ComesOnlyFrom : Peer → Ordinal → List Event → Type 0
ComesOnlyFrom peer ordinal [] = Unit
ComesOnlyFrom peer ordinal (event ∷ events) = ComesFrom peer (peer_connecting ordinal event) × ComesOnlyFrom peer ordinal events

pub none_comes : (peer : Peer) (ordinal : Ordinal) (state : State) (events : List Event) → ArePossible IsAny state events → ordinal < state.next
    → ComesOnlyFrom peer ordinal events
none_comes peer ordinal state [] possible below = tt
none_comes peer ordinal state (event ∷ events) possible below = (
  (λ other is. absurd (let comes = came state event ordinal other possible.0 is in
      let same : ordinal ≡ state.next = comes.itself in omega (arith, same, below))),
  none_comes peer ordinal (step state event) events possible.1 (next_grows state event ordinal below),
)

comes-at : (ordinal : Ordinal) (state : State) (event : Event) (events : List Event) (found : Option Peer) → peer_connecting ordinal event ≡ found
    → Possible IsAny state event → ArePossible IsAny (step state event) events
    → ComesOnlyFrom (peer_in ordinal events) ordinal events
    → ComesFrom (option_map_or (λ peer. peer) found (peer_in ordinal events)) (peer_connecting ordinal event)
    × ComesOnlyFrom (option_map_or (λ peer. peer) found (peer_in ordinal events)) ordinal events
comes-at ordinal state event events None is may possible later = ((λ other so. absurd (cc (is, so))), later)
comes-at ordinal state event events (Some peer) is may possible later =
    let comes = came state event ordinal peer may is in
    let itself : ordinal ≡ state.next = comes.itself in
    let next : (step state event).next ≡ state.next + 1 = comes.next in
    ((λ other so. same-peer other peer (sym so ∙ is)), none_comes peer ordinal (step state event) events possible (omega (arith, itself, next)))
  where
    same-peer : (other peer : Peer) → Some other ≡ Some peer → other ≡ peer
    same-peer other peer same = cc same

pub comes_only : (ordinal : Ordinal) (state : State) (events : List Event) → ArePossible IsAny state events
    → ComesOnlyFrom (peer_in ordinal events) ordinal events
comes_only ordinal state [] possible = tt
comes_only ordinal state (event ∷ events) possible =
    comes-at ordinal state event events (peer_connecting ordinal event) refl possible.0 possible.1 (comes_only ordinal (step state event) events possible.1)

-- at first nobody is there
pub start_absent : (start : Start) (ordinal : Ordinal) → (state_at start).connections ordinal ≡ no_connection
start_absent start ordinal =
    let old : State = before_first_command start in
    sent-absent no_connection (nat_lt (length (command_of_init old.controller) + count_before ordinal old.connections old.slots) old.controller.credit) refl
