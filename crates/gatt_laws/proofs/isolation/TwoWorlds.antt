-- States that are alike stay so at each event.
use Rattle.std.proofs.Common.{◌≡◌, ◌+◌, Bool, true, false, List, [], length, None, refl, sym, ap, subst, ◌∙◌}
use Rattle.std.specs.Prelude.{nat_lt, if◌then◌else◌}
use Rattle.att_numbers.specs.Types.{Handle, Values}
use Rattle.att_writes.specs.SameBut.{SameBut}
use Rattle.gatt_laws.proofs.runs.NextConnections.{none_given, none_left}
use Rattle.octet_io.proofs.Choices.{both_choices}
use Rattle.gatt_laws.specs.laws.Alike.{erased, is_of, Alike, HidesFrom, Hides}
use Rattle.gatt_laws.specs.machine.Controller.{command_of_init, count_before, without_command}
use Rattle.gatt_laws.specs.machine.Event.{Ordinal, Event, Of, Completed, Credit, Update, Tick, Replaced, Nothing}
use Rattle.gatt_laws.specs.machine.ConnectionState.{ConnectionState, is_there}
use Rattle.gatt_laws.specs.machine.SharedState.{ServiceChangedPending}
use Rattle.gatt_laws.specs.machine.State.{State, Change, change_of, finished, connections_finished, before_commands, packets_given, step}
use Rattle.gatt_laws.specs.laws.TwoWorlds.{Matched, Spared, Agrees, KeepsAlike, packets_given_at, GivesTheSame}
use Rattle.gatt_laws.specs.laws.Given.{packets_at}
use Rattle.le_hci.specs.declared.peer.Peer.{Peer}
use Rattle.le_security.specs.Entry.{same_peer}
use Rattle.octet_io.specs.Number.{Octets}
use Rattle.gatt_laws.proofs.isolation.AlikeHearing.{bare, commands_alike, finished-erased, finished-same, sent-bare}
use Rattle.gatt_laws.proofs.isolation.ChangesAlike.{SameChange, completed-change, credit-change, moved, nothing-change, of-change, replaced-change, tick-change, update-change}

-- the end of an event
abbrev ended : Change → State
ended change = record change.state { connections = connections_finished change }

finished-both : (peer : Peer) (hidden : Handle → Bool) (one other : Change) → SameChange peer hidden one other
    → ((ordinal : Ordinal) → HidesFrom peer hidden one.state.shared one.state.bonds (one.state.connections ordinal))
    → (ordinal : Ordinal) → is_of peer (one.state.connections ordinal) ≡ true → connections_finished one ordinal ≡ connections_finished other ordinal
finished-both peer hidden one other same hides ordinal mine =
    let shared = same.state.shared in
    let bonds = same.state.bonds in
    let raised = same.to_notify ordinal mine in
    let connection = same.state.own ordinal mine in
    finished-same peer hidden one.state.shared other.state.shared.table.values one.state.bonds (one.to_notify ordinal) (one.state.connections ordinal)
    same.state.values (hides ordinal) mine
    ∙ (λ i. finished (shared i) (bonds i) (raised i) (connection i))

ended-alike : (peer : Peer) (hidden : Handle → Bool) (one other : Change) → SameChange peer hidden one other
    → ((ordinal : Ordinal) → HidesFrom peer hidden one.state.shared one.state.bonds (one.state.connections ordinal))
    → Alike peer hidden (ended one) (ended other)
ended-alike peer hidden one other same hides = record {
  shared = same.state.shared;
  values = same.state.values;
  bonds = same.state.bonds;
  owed = same.state.owed;
  own = λ ordinal mine.
      finished-both peer hidden one other same hides ordinal
      (sym (ap (λ (p : ConnectionState). is_of peer p)
      (finished-erased one.state.shared one.state.bonds (one.to_notify ordinal) (one.state.connections ordinal))) ∙ mine);
  others = λ ordinal.
      finished-erased one.state.shared one.state.bonds (one.to_notify ordinal) (one.state.connections ordinal) ∙ same.state.others ordinal
      ∙ sym (finished-erased other.state.shared other.state.bonds (other.to_notify ordinal) (other.state.connections ordinal));
  slots = same.state.slots;
  next = same.state.next;
  controller = same.state.controller;
}

-- what a connection may not know at the end it may not know before
hides-before : (peer : Peer) (hidden : Handle → Bool) (state : State) (event : Event) → Hides peer hidden (step state event)
    → (ordinal : Ordinal)
    → HidesFrom peer hidden (change_of state event).state.shared (change_of state event).state.bonds ((change_of state event).state.connections ordinal)
unfolding step
hides-before peer hidden state event hides ordinal =
    let change : Change = change_of state event in
    let end : State = ended change in
    let sent : Bool = nat_lt (length (command_of_init end.controller) + count_before ordinal end.connections end.slots) end.controller.credit in
    let same : bare (if sent then without_command (end.connections ordinal) else end.connections ordinal) ≡ bare (change.state.connections ordinal) =
    sent-bare (end.connections ordinal) sent
    ∙ ap (λ (p : ConnectionState). record p { said = []; reply = None; reason = None })
    (finished-erased change.state.shared change.state.bonds (change.to_notify ordinal) (change.state.connections ordinal)) in
    subst (λ (p : ConnectionState). HidesFrom peer hidden change.state.shared change.state.bonds p) same (hides ordinal)

-- one event, by its kind
module _ (peer : Peer) (hidden : Handle → Bool) (state : State) (ys : Values) (owing : ServiceChangedPending) (others : Ordinal → ConnectionState)
    (same : SameBut hidden state.shared.table.values ys) (owes : state.owed peer ≡ owing peer)
    (own : (ordinal : Ordinal) → is_of peer (state.connections ordinal) ≡ true → state.connections ordinal ≡ others ordinal)
    (rest : (ordinal : Ordinal) → erased (state.connections ordinal) ≡ erased (others ordinal)) (hides : Hides peer hidden state) where
  abbrev beyond : State
  beyond = moved state ys owing others

  equal-events : (following : Handle → Bool) (event its : Event) → (event ≡ its) × (hidden ≡ following)
      → (Spared peer beyond event → SameChange peer hidden (change_of state event) (change_of beyond event)) → Spared peer beyond its
      → SameChange peer following (change_of state event) (change_of beyond its)
  equal-events following event its equal changes spared =
      subst (λ (h : Handle → Bool). SameChange peer h (change_of state event) (change_of beyond its)) equal.1
      (subst (λ (e : Event). SameChange peer hidden (change_of state event) (change_of beyond e)) equal.0
      (changes (subst (λ (e : Event). Spared peer beyond e) (sym equal.0) spared)))

  change-same : (following : Handle → Bool) (event its : Event) → Matched hidden following event its → Spared peer state event → Spared peer beyond its
      → SameChange peer following (change_of state event) (change_of beyond its)
  unfolding change_of
  change-same following (Of at act) its matched spared spared_too =
      equal-events following (Of at act) its matched (λ too. of-change peer hidden state ys owing others same owes own rest at act (hides at) spared too)
      spared_too
  change-same following (Completed entries) its matched spared spared_too =
      equal-events following (Completed entries) its matched (λ too. completed-change peer hidden state ys owing others same owes own rest entries) spared_too
  change-same following (Credit allowed opcode status answer) its matched spared spared_too =
      equal-events following (Credit allowed opcode status answer) its matched
      (λ too. credit-change peer hidden state ys owing others same owes own rest allowed opcode status answer) spared_too
  change-same following (Update handle value) its matched spared spared_too =
      equal-events following (Update handle value) its matched (λ too. update-change peer hidden state ys owing others same owes own rest handle value)
      spared_too
  change-same following (Tick time) its matched spared spared_too =
      equal-events following (Tick time) its matched (λ too. tick-change peer hidden state ys owing others same owes own rest time) spared_too
  change-same following Nothing its matched spared spared_too =
      equal-events following Nothing its matched (λ too. nothing-change peer hidden state ys owing others same owes own rest) spared_too
  change-same following (Replaced table) its matched spared spared_too =
      subst (λ (e : Event). SameChange peer following (change_of state (Replaced table)) (change_of beyond e)) (sym matched.is)
      (replaced-change peer hidden state ys owing others same owes own rest following table matched.its matched.same)

-- any state that is alike is one so moved
changes-alike : (peer : Peer) (hidden following : Handle → Bool) (one other : State) (event its : Event)
    → Alike peer hidden one other → Matched hidden following event its → Hides peer hidden one → Spared peer one event → Spared peer other its
    → SameChange peer following (change_of one event) (change_of other its)
changes-alike peer hidden following one other event its alike matched hides spared spared_too =
    let shared = alike.shared in
    let bonds = alike.bonds in
    let slots = alike.slots in
    let next = alike.next in
    let controller = alike.controller in
    let is : moved one other.shared.table.values other.owed other.connections ≡ other = λ i. record {
      shared = shared i;
      bonds = bonds i;
      owed = other.owed;
      connections = other.connections;
      slots = slots i;
      next = next i;
      controller = controller i;
    } in
    subst (λ (s : State). SameChange peer following (change_of one event) (change_of s its)) is
    (change-same peer hidden one other.shared.table.values other.owed other.connections alike.values alike.owed alike.own alike.others hides following event its
    matched spared
    (subst (λ (s : State). Spared peer s its) (sym is) spared_too))

pub keeps_alike : KeepsAlike
unfolding step
keeps_alike peer hidden one other event its alike agrees =
    commands_alike peer agrees.following (before_commands one event) (before_commands other its)
    (ended-alike peer agrees.following (change_of one event) (change_of other its)
    (changes-alike peer hidden agrees.following one other event its alike agrees.matched agrees.hides agrees.spared agrees.spared_too)
    (hides-before peer agrees.following one event agrees.hides_then))

-- what is given in both
pub gives_the_same : GivesTheSame
gives_the_same peer hidden one other event its alike agrees ordinal belongs =
    let old : erased (one.connections ordinal) ≡ erased (other.connections ordinal) = alike.others ordinal in
    let change : Change = change_of one event in
    let too : Change = change_of other its in
    let same : SameChange peer agrees.following change too =
    changes-alike peer hidden agrees.following one other event its alike agrees.matched agrees.hides agrees.spared agrees.spared_too in
    let shared = same.state.shared in
    let new = same.state.others ordinal in
    elim (is_there (one.connections ordinal).mark) as (λ (there : Bool). is_there (one.connections ordinal).mark ≡ there → packets_at ordinal one event
    ≡ packets_at ordinal other its) [
      | false ↦ λ away. none_given one event ordinal away ∙ sym (none_given other its ordinal (sym (λ i. is_there (old i).mark) ∙ away))
      | true ↦ λ there.
          let mine : is_of peer (one.connections ordinal) ≡ true = belongs there in
          let equal = alike.own ordinal mine in
          elim (is_of peer (change.state.connections ordinal)) as (λ (is : Bool). is_of peer (change.state.connections ordinal) ≡ is
          → packets_at ordinal one event ≡ packets_at ordinal other its) [
            | true ↦ λ still.
                let ends = finished-both peer agrees.following change too same (hides-before peer agrees.following one event agrees.hides_then) ordinal still in
                λ i. packets_given (shared i) (equal i) (ends i)
            | false ↦ λ gone.
                none_left one event ordinal there (λ peers. cc (sym (ap (λ (p : Peer). same_peer p peer) peers) ∙ gone, mine))
                ∙ sym (none_left other its ordinal (sym (λ i. is_there (old i).mark) ∙ there)
                (λ peers. cc (sym (ap (λ (p : Peer). same_peer p peer) peers) ∙ sym (λ i. is_of peer (new i)) ∙ gone, sym (λ i. is_of peer (equal i)) ∙ mine)))
          ] refl
    ] refl

-- and to the peer's own connections
pub given_alike : (peer : Peer) (hidden : Handle → Bool) (one other : State) (event its : Event) → Alike peer hidden one other
    → Agrees peer hidden one other event its → (ordinal : Ordinal) → packets_given_at peer ordinal one event ≡ packets_given_at peer ordinal other its
given_alike peer hidden one other event its alike agrees ordinal =
    let same = alike.others ordinal in
    both_choices (λ (a b : List Octets). a ≡ b) (is_of peer (one.connections ordinal)) (is_of peer (other.connections ordinal)) (packets_at ordinal one event)
    []
    (packets_at ordinal other its) [] (λ i. is_of peer (same i)) (λ mine. gives_the_same peer hidden one other event its alike agrees ordinal (λ there. mine))
    (λ is. refl)
