-- What is hidden no connection of the peer may know, in an item and in an event.
use Rattle.std.proofs.Common.{◌≡◌, Bool, true, false, ◌==◌, ◌&&◌, ◌||◌, List, [], ◌∷◌, ◌++◌, Option, Some, None, refl, sym, ap, ◌∙◌}
use Rattle.std.specs.Prelude.{if◌then◌else◌}
use Rattle.std.specs.List.{list_any}
use Rattle.std.specs.Option.{option_to_list}
use Rattle.std.proofs.lemmas.Bool.{eqb-true, not-true, not_from_false}
use Rattle.att_numbers.specs.Types.{Handle}
use Rattle.att_table.specs.Table.{Contents}
use Rattle.gatt_laws.proofs.runs.ItemEvents.{means_its_event}
use Rattle.gatt_laws.proofs.isolation.TwoWorlds.{keeps_alike, given_alike}
use Rattle.gatt_laws.specs.laws.Alike.{is_of, Alike, Hides, may_read_at}
use Rattle.gatt_laws.specs.machine.Event.{Ordinal, Event, Replaced}
use Rattle.gatt_laws.specs.machine.Input.{Item, Run, after_item, run}
use Rattle.gatt_laws.specs.machine.ItemEvents.{event_at, after_if}
use Rattle.gatt_laws.specs.laws.NothingCrosses.{knows, knows_in, is_value_known, is_replaced, known_while, hidden_while, SparedIf, packets_given_by}
use Rattle.gatt_laws.specs.machine.ConnectionState.{ConnectionState, is_live, row_in_force, standing_of}
use Rattle.gatt_laws.specs.laws.Settled.{has_slot, IsSettled}
use Rattle.gatt_laws.specs.machine.State.{State, step}
use Rattle.gatt_laws.specs.laws.Runs.{events_in}
use Rattle.gatt_laws.specs.laws.TwoWorlds.{SameTable, Matched, Agrees, Spared, packets_given_in, packets_given_at}
use Rattle.gatt_subs.specs.Hearing.{may_hear_at}
use Rattle.le_hci.specs.declared.peer.Peer.{Peer}
use Rattle.octet_io.proofs.Choices.{or_false_left, or_false_right, and_false_right}
use Rattle.octet_io.specs.Number.{Octets}

-- What is hidden no connection of the peer may know.

unknown-slot : (peer : Peer) (state : State) (handle : Handle) (ordinal other : Ordinal) (rest : Bool) (known more : Bool)
    → knows peer state handle other ≡ known → (known || more) ≡ false → ((other == ordinal) || rest) ≡ true
    → (rest ≡ true → more ≡ false → knows peer state handle ordinal ≡ false) → knows peer state handle ordinal ≡ false
unknown-slot peer state handle ordinal other rest known more is none has later =
    elim (other == ordinal) as (λ (same : Bool). (other == ordinal) ≡ same → (same || rest) ≡ true → knows peer state handle ordinal ≡ false) [
      | true ↦ λ same there. ap (knows peer state handle) (sym (eqb-true other ordinal same)) ∙ is ∙ or_false_left known more none
      | false ↦ λ same there. later there (or_false_right known more none)
    ] refl has

unknown-in : (peer : Peer) (state : State) (handle : Handle) (ordinal : Ordinal) (slots : List (Option Ordinal)) → list_any (knows_in peer state handle) slots
    ≡ false
    → has_slot ordinal slots ≡ true → knows peer state handle ordinal ≡ false
unknown-in peer state handle ordinal [] none has = cc has
unknown-in peer state handle ordinal (None ∷ slots) none has = unknown-in peer state handle ordinal slots none has
unknown-in peer state handle ordinal (Some other ∷ slots) none has =
    unknown-slot peer state handle ordinal other (has_slot ordinal slots) (knows peer state handle other) (list_any (knows_in peer state handle) slots) refl
    none has
    (λ there more. unknown-in peer state handle ordinal slots more there)

live-has-slot : (state : State) (ordinal : Ordinal) → IsSettled state → is_live (state.connections ordinal).mark ≡ true → has_slot ordinal state.slots ≡ true
live-has-slot state ordinal settled live =
    elim (has_slot ordinal state.slots) as (λ (has : Bool). has_slot ordinal state.slots ≡ has → has ≡ true) [
      | true ↦ λ is. refl
      | false ↦ λ is. cc (sym (ap (λ (p : ConnectionState). is_live p.mark) (settled.absent ordinal is)) ∙ live)
    ] refl

pub hides-unknown : (peer : Peer) (hidden : Handle → Bool) (state : State) → IsSettled state
    → ((handle : Handle) → hidden handle ≡ true → is_value_known peer state handle ≡ false)
    → Hides peer hidden state
hides-unknown peer hidden state settled unknown ordinal live mine handle is =
    let connection : ConnectionState = state.connections ordinal in
    let attributes = state.shared.table.attributes in
    let reads : Bool = may_read_at attributes (standing_of state.shared connection) handle in
    let hears : Bool = may_hear_at attributes (row_in_force (state.bonds connection.peer) connection) (standing_of state.shared connection) handle in
    let none : knows peer state handle ordinal ≡ false =
    unknown-in peer state handle ordinal state.slots (unknown handle is) (live-has-slot state ordinal settled live) in
    let neither : (reads || hears) ≡ false =
    and_false_right (is_of peer connection) (reads || hears) mine
    (and_false_right (is_live connection.mark) (is_of peer connection && (reads || hears)) live none) in
    record { unread = or_false_left reads hears neither; unheard = or_false_right reads hears neither }

pub now-unknown : (peer : Peer) (run : Run) (items : List Item) (handle : Handle) → hidden_while peer run items handle ≡ true
    → is_value_known peer run.intake.state handle ≡ false
now-unknown peer run [] handle is = not-true (is_value_known peer run.intake.state handle) is
now-unknown peer run (item ∷ items) handle is = or_false_left (is_value_known peer run.intake.state handle) _ (not-true _ is)

pub later-unknown : (peer : Peer) (run : Run) (item : Item) (items : List Item) (handle : Handle) → is_replaced run.intake item ≡ false
    → hidden_while peer run (item ∷ items) handle ≡ true → hidden_while peer (after_item run item) items handle ≡ true
later-unknown peer run item items handle stays is =
    let later : Bool = known_while peer (after_item run item) items handle in
    let none : (if is_replaced run.intake item then false else later) ≡ false =
    or_false_right (is_value_known peer run.intake.state handle) (if is_replaced run.intake item then false else later) (not-true _ is) in
    not_from_false later (sym (ap (λ (replaced : Bool). if replaced then false else later) stays) ∙ none)

-- more may be hidden
pub alike-more : (peer : Peer) (hidden more : Handle → Bool) (one other : State) → ((handle : Handle) → hidden handle ≡ true → more handle ≡ true)
    → Alike peer hidden one other
    → Alike peer more one other
alike-more peer hidden more one other wider alike = record {
  shared = alike.shared;
  values = record {
    count = alike.values.count;
    lengths = alike.values.lengths;
    shown = λ handle used shown. alike.values.shown handle used (not-hidden (hidden handle) handle refl shown);
  };
  bonds = alike.bonds;
  owed = alike.owed;
  own = alike.own;
  others = alike.others;
  slots = alike.slots;
  next = alike.next;
  controller = alike.controller;
}
  where
    not-hidden : (test : Bool) (handle : Handle) → hidden handle ≡ test → more handle ≡ false → hidden handle ≡ false
    not-hidden false handle is shown = is
    not-hidden true handle is shown = cc (wider handle is, shown)

-- The packets of one item, and of those behind it.

abbrev pub given_if : Peer → Ordinal → State → Option Event → List Octets
given_if peer ordinal state None = []
given_if peer ordinal state (Some event) = packets_given_at peer ordinal state event

then-given : (peer : Peer) (ordinal : Ordinal) (state : State) (event : Option Event) (events : List Event)
    → packets_given_in peer ordinal state (option_to_list event ++ events) ≡ given_if peer ordinal state event
    ++ packets_given_in peer ordinal (after_if state event) events
then-given peer ordinal state None events = refl
then-given peer ordinal state (Some event) events = refl

pub given-next : (peer : Peer) (ordinal : Ordinal) (run : Run) (item : Item) (items : List Item)
    → packets_given_by peer ordinal run (item ∷ items)
    ≡ given_if peer ordinal run.intake.state (event_at run.intake item) ++ packets_given_by peer ordinal (after_item run item) items
given-next peer ordinal run item items =
    let event : Option Event = event_at run.intake item in
    let events : List Event = events_in (after_item run item) items in
    then-given peer ordinal run.intake.state event events
    ∙ ap (λ (state : State). given_if peer ordinal run.intake.state event ++ packets_given_in peer ordinal state events) (sym (means_its_event run item).state)

-- One event, if there is one.

same-table : (hidden : Handle → Bool) (table : Contents) → SameTable hidden table table
same-table hidden table = record {
  attributes = refl;
  changer = refl;
  values = record { count = refl; lengths = λ handle used. refl; shown = λ handle used shown. refl };
}

matched-itself : (hidden : Handle → Bool) (event its : Event) → event ≡ its → Matched hidden hidden event its
matched-itself hidden (Replaced table) its is = record { its = table; is = sym is; same = same-table hidden table }
matched-itself hidden event its is = (is, refl)

pub record AfterBoth (peer : Peer) (hidden : Handle → Bool) (one other : State) (event its : Option Event) : Type 0 where
  pub alike : Alike peer hidden (after_if one event) (after_if other its)
  pub given : (ordinal : Ordinal) → given_if peer ordinal one event ≡ given_if peer ordinal other its

pub after-both : (peer : Peer) (hidden following : Handle → Bool) (one other : State) (event its : Event) → Alike peer hidden one other
    → Matched hidden following event its
    → Hides peer hidden one → Hides peer following (step one event) → Spared peer one event → Spared peer other its
    → AfterBoth peer following one other (Some event) (Some its)
after-both peer hidden following one other event its alike matched hides then_hides spared spared_too =
    let agrees : Agrees peer hidden one other event its =
    record { following = following; matched = matched; hides = hides; hides_then = then_hides; spared = spared; spared_too = spared_too } in
    record { alike = keeps_alike peer hidden one other event its alike agrees; given = given_alike peer hidden one other event its alike agrees }

pub after-same : (peer : Peer) (hidden : Handle → Bool) (one other : State) (event its : Option Event) → event ≡ its → Alike peer hidden one other
    → Hides peer hidden one
    → Hides peer hidden (after_if one event) → SparedIf peer one event → SparedIf peer other its → AfterBoth peer hidden one other event its
after-same peer hidden one other None None equal alike hides then_hides spared spared_too = record { alike = alike; given = λ ordinal. refl }
after-same peer hidden one other (Some event) (Some its) equal alike hides then_hides spared spared_too =
    after-both peer hidden hidden one other event its alike (matched-itself hidden event its (cc equal)) hides then_hides spared spared_too
after-same peer hidden one other None (Some its) equal alike hides then_hides spared spared_too = cc equal
after-same peer hidden one other (Some event) None equal alike hides then_hides spared spared_too = cc equal
