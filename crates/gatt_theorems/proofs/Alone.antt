-- States that are alike to one connection stay so at each event.
use Rattle.std.proofs.Common.{◌≡◌, Bool, [], ◌∷◌, ◌++◌, refl, sym, ap, subst, ◌∙◌}
use Rattle.att_numbers.specs.Types.{Handle, Row}
use Rattle.att_policy.specs.declared.standing.Standing.{Standing}
use Rattle.gatt_laws.proofs.runs.Ends.{end_keeps}
use Rattle.gatt_laws.specs.laws.Alike.{MayNotKnow}
use Rattle.gatt_laws.specs.laws.Runs.{events_of}
use Rattle.gatt_laws.specs.laws.Given.{packets_given_in_order}
use Rattle.gatt_laws.specs.machine.Event.{Ordinal, Event}
use Rattle.gatt_laws.specs.machine.ConnectionState.{ConnectionState, is_live, row_in_force, standing_of}
use Rattle.gatt_laws.specs.machine.SharedState.{SharedState}
use Rattle.gatt_laws.specs.machine.Start.{state_at}
use Rattle.gatt_laws.specs.machine.State.{State, Change, change_of, finished, connections_finished, before_commands, packets_given, step}
use Rattle.le_hci.specs.declared.peer.Peer.{Peer}
use Rattle.gatt_theorems.specs.Alone.{AlikeTo, HidesFromOne, SparesOthers, AgreesFor, KeepsAlikeToOne, GivesTheSameToOne, NothingCrossesToOne, NothingCrossesToOneInRuns}
use Rattle.gatt_theorems.proofs.AloneAtEnd.{KnowsNone, commands-alike, finished-erased, finished-same}
use Rattle.gatt_theorems.proofs.AloneChanges.{SameChange, change-same, moved}

-- any state that is alike is one so moved
changes-alike : (ordinal : Ordinal) (peer : Peer) (hidden : Handle → Bool) (one other : State) (event : Event) → AlikeTo ordinal peer hidden one other
    → AgreesFor ordinal peer hidden one other event → SameChange ordinal peer hidden (change_of one event) (change_of other event)
changes-alike ordinal peer hidden one other event alike agrees =
    let shared = alike.shared in
    let bonds = alike.bonds in
    let slots = alike.slots in
    let next = alike.next in
    let controller = alike.controller in
    let is : moved one other.shared.table.values other.owed other.connections ≡ other = λ i. record {
      shared = shared i;
      bonds = bonds i;
      owed = other.owed;
      connections = other.connections;
      slots = slots i;
      next = next i;
      controller = controller i;
    } in
    subst (λ (s : State). SameChange ordinal peer hidden (change_of one event) (change_of s event)) is
    (change-same ordinal peer hidden one other.shared.table.values other.owed other.connections alike.values alike.owed alike.owed_too alike.own alike.others
    event
    agrees.no_replacement agrees.hides agrees.of agrees.spares (subst (λ (s : State). SparesOthers ordinal s event) (sym is) agrees.spares_too))

-- what the connection may not know at the end it may not know before
hides-before : (ordinal : Ordinal) (hidden : Handle → Bool) (state : State) (event : Event) → HidesFromOne ordinal hidden (step state event)
    → (let change : Change = change_of state event in KnowsNone hidden change.state.shared change.state.bonds (change.state.connections ordinal))
unfolding step
hides-before ordinal hidden state event hides live handle is =
    let change : Change = change_of state event in
    let shared : SharedState = change.state.shared in
    let mark = end_keeps (λ (of : ConnectionState). of.mark) (λ of pdus pending given reply reason. refl) state event ordinal in
    let row =
    end_keeps (λ (of : ConnectionState). row_in_force (change.state.bonds of.peer) of) (λ of pdus pending given reply reason. refl) state event ordinal in
    let standing = end_keeps (λ (of : ConnectionState). standing_of shared of) (λ of pdus pending given reply reason. refl) state event ordinal in
    subst (λ (of : Row). MayNotKnow shared.table.attributes of (standing_of shared (change.state.connections ordinal)) handle) row
    (subst (λ (of : Standing).
    MayNotKnow shared.table.attributes
    (row_in_force ((step state event).bonds ((step state event).connections ordinal).peer) ((step state event).connections ordinal)) of handle)
    standing (hides (ap is_live mark ∙ live) handle is))

-- the end of an event
abbrev ended : Change → State
ended change = record change.state { connections = connections_finished change }

finished-one : (ordinal : Ordinal) (peer : Peer) (hidden : Handle → Bool) (one other : Change) → SameChange ordinal peer hidden one other
    → KnowsNone hidden one.state.shared one.state.bonds (one.state.connections ordinal) → connections_finished one ordinal ≡ connections_finished other ordinal
finished-one ordinal peer hidden one other same hides =
    let shared = same.state.shared in
    let bonds = same.state.bonds in
    let raised = same.to_notify in
    let connection = same.state.own in
    finished-same hidden one.state.shared other.state.shared.table.values one.state.bonds (one.to_notify ordinal) (one.state.connections ordinal)
    same.state.values hides
    ∙ (λ i. finished (shared i) (bonds i) (raised i) (connection i))

ended-alike : (ordinal : Ordinal) (peer : Peer) (hidden : Handle → Bool) (one other : Change) → SameChange ordinal peer hidden one other
    → KnowsNone hidden one.state.shared one.state.bonds (one.state.connections ordinal) → AlikeTo ordinal peer hidden (ended one) (ended other)
ended-alike ordinal peer hidden one other same hides = record {
  shared = same.state.shared;
  values = same.state.values;
  bonds = same.state.bonds;
  owed = same.state.owed;
  owed_too = same.state.owed_too;
  own = finished-one ordinal peer hidden one other same hides;
  others = λ at.
      finished-erased one.state.shared one.state.bonds (one.to_notify at) (one.state.connections at) ∙ same.state.others at
      ∙ sym (finished-erased other.state.shared other.state.bonds (other.to_notify at) (other.state.connections at));
  slots = same.state.slots;
  next = same.state.next;
  controller = same.state.controller;
}

pub keeps_alike_to_one : KeepsAlikeToOne
unfolding step
keeps_alike_to_one ordinal peer hidden one other event alike agrees =
    commands-alike ordinal peer hidden (before_commands one event) (before_commands other event)
    (ended-alike ordinal peer hidden (change_of one event) (change_of other event) (changes-alike ordinal peer hidden one other event alike agrees)
    (hides-before ordinal hidden one event agrees.hides_then))

pub gives_the_same_to_one : GivesTheSameToOne
gives_the_same_to_one ordinal peer hidden one other event alike agrees =
    let same : SameChange ordinal peer hidden (change_of one event) (change_of other event) = changes-alike ordinal peer hidden one other event alike agrees in
    let shared = same.state.shared in
    let own = alike.own in
    let ends = finished-one ordinal peer hidden (change_of one event) (change_of other event) same (hides-before ordinal hidden one event agrees.hides_then) in
    λ i. packets_given (shared i) (own i) (ends i)

pub nothing_crosses_to_one : NothingCrossesToOne
nothing_crosses_to_one ordinal peer hidden one other [] alike agree = refl
nothing_crosses_to_one ordinal peer hidden one other (event ∷ events) alike agree =
    let first = gives_the_same_to_one ordinal peer hidden one other event alike agree.0 in
    let later =
    nothing_crosses_to_one ordinal peer hidden (step one event) (step other event) events
    (keeps_alike_to_one ordinal peer hidden one other event alike agree.0) agree.1 in
    λ i. first i ++ later i

pub nothing_crosses_to_one_in_runs : NothingCrossesToOneInRuns
nothing_crosses_to_one_in_runs ordinal peer hidden one other input another alike same agree =
    nothing_crosses_to_one ordinal peer hidden (state_at one) (state_at other) (events_of one input) alike agree
    ∙ ap (packets_given_in_order ordinal (state_at other)) same
