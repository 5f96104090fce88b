-- Each possible event keeps what is settled.
use Rattle.std.proofs.Common.{◌≡◌, ℕ, zero, suc, ◌+◌, ◌-◌, ◌<◌, Bool, true, false, List, [], ◌∷◌, length, Option, Some, None, refl, sym, ap, subst, ◌∙◌, arith}
use Rattle.std.specs.Prelude.{min, is_none, nat_lt, ◌&&◌, replicate, ◌==◌, if◌then◌else◌}
use Rattle.std.proofs.lemmas.Bool.{eq-eqb, eqb-true, or_from, or_right}
use Rattle.std.proofs.lemmas.Bool.Decides.{nat_tests}
use Rattle.att_numbers.specs.Types.{Handle}
use Rattle.gatt_laws.proofs.runs.Always.{always, any_tables}
use Rattle.gatt_laws.proofs.runs.Silence.{only_serves_the_live}
use Rattle.gatt_laws.specs.machine.Controller.{Controller, Slots, has_free, with_taken, with_freed, command_of_init, count_before, without_command, is_ready}
use Rattle.gatt_laws.specs.machine.Event.{Ordinal, Own, Event, Connected, Disconnected, Of, Completed, Credit, Tick, Replaced}
use Rattle.gatt_laws.specs.machine.Input.{run_at_start, run}
use Rattle.gatt_laws.specs.machine.ConnectionState.{ConnectionState, no_connection}
use Rattle.gatt_laws.specs.laws.Possible.{Possible}
use Rattle.gatt_laws.specs.machine.SharedState.{SharedState, Bonds}
use Rattle.gatt_laws.specs.laws.Settled.{is_slot_of, has_slot, HaveOneSlotEach, IsSettled, IsAlwaysSettled}
use Rattle.gatt_laws.specs.machine.Start.{Start, before_first_command, state_at}
use Rattle.gatt_laws.specs.machine.State.{State, Change, slots_after, slots_when_ready, own_change, advertising_after, is_refusal, with_packets_completed, after_packets_completed, after_command_complete, connection_after_replacement, change_of, finished, connections_finished, before_commands, step}
use Rattle.gatt_laws.specs.machine.Effect.{effect_of}
use Rattle.gatt_subs.specs.Indications.{after_tick}
use Rattle.le_acl.specs.Shares.{usable}
use Rattle.le_hci.specs.Init.{command_awaited}
use Rattle.le_hci.specs.declared.init.Init.{Init}
use Rattle.le_hci.specs.declared.init.Init.TheVariants.{Ready}
use Rattle.octet_io.proofs.Choices.{or_false_left, or_false_right}

-- a slot is taken
taken-other : (ordinal other : Ordinal) (slots : Slots) → has_slot other (with_taken ordinal slots) ≡ false → has_slot other slots ≡ false
taken-other ordinal other [] lacks = refl
taken-other ordinal other (None ∷ slots) lacks = or_false_right (ordinal == other) (has_slot other slots) lacks
taken-other ordinal other (Some one ∷ slots) lacks =
    or_from (one == other) (has_slot other slots) (or_false_left (one == other) (has_slot other (with_taken ordinal slots)) lacks)
    (taken-other ordinal other slots (or_false_right (one == other) (has_slot other (with_taken ordinal slots)) lacks))

taken-own : (ordinal : Ordinal) (slots : Slots) → has_free slots ≡ true → has_slot ordinal (with_taken ordinal slots) ≡ true
taken-own ordinal [] free = cc free
taken-own ordinal (None ∷ slots) free = rw (eq-eqb ordinal ordinal refl) refl
taken-own ordinal (Some one ∷ slots) free = or_right (one == ordinal) (has_slot ordinal (with_taken ordinal slots)) (taken-own ordinal slots free)

taken-adds : (ordinal other : Ordinal) (slots : Slots) → (ordinal == other) ≡ false → has_slot other slots ≡ false → has_slot other (with_taken ordinal slots)
    ≡ false
taken-adds ordinal other [] differs lacks = refl
taken-adds ordinal other (None ∷ slots) differs lacks = or_from (ordinal == other) (has_slot other slots) differs lacks
taken-adds ordinal other (Some one ∷ slots) differs lacks =
    or_from (one == other) (has_slot other (with_taken ordinal slots)) (or_false_left (one == other) (has_slot other slots) lacks)
    (taken-adds ordinal other slots differs (or_false_right (one == other) (has_slot other slots) lacks))

-- and freed
differs-too : (one ordinal other : Ordinal) → (one == ordinal) ≡ true → (other == ordinal) ≡ false → (one == other) ≡ false
differs-too one ordinal other same differs = grind (arith, nat_tests)

freed-one : (one ordinal other : Ordinal) (slots : Slots) (is : Bool) → (one == ordinal) ≡ is → (other == ordinal) ≡ false
    → is_slot_of other (if is then None else Some one) ≡ false → (one == other) ≡ false
freed-one one ordinal other slots true same differs lacks = differs-too one ordinal other same differs
freed-one one ordinal other slots false same differs lacks = lacks

freed-other : (ordinal other : Ordinal) (slots : Slots) → (other == ordinal) ≡ false → has_slot other (with_freed ordinal slots) ≡ false
    → has_slot other slots ≡ false
freed-other ordinal other [] differs lacks = refl
freed-other ordinal other (None ∷ slots) differs lacks = freed-other ordinal other slots differs lacks
freed-other ordinal other (Some one ∷ slots) differs lacks =
    let slot : Option Ordinal = if one == ordinal then None else Some one in
    or_from (one == other) (has_slot other slots)
    (freed-one one ordinal other slots (one == ordinal) refl differs (or_false_left (is_slot_of other slot) (has_slot other (with_freed ordinal slots)) lacks))
    (freed-other ordinal other slots differs (or_false_right (is_slot_of other slot) (has_slot other (with_freed ordinal slots)) lacks))

none-or-one : (one other : Ordinal) (is : Bool) → (one == other) ≡ false → is_slot_of other (if is then None else Some one) ≡ false
none-or-one one other true differs = refl
none-or-one one other false differs = differs

freed-adds-none : (ordinal other : Ordinal) (slots : Slots) → has_slot other slots ≡ false → has_slot other (with_freed ordinal slots) ≡ false
freed-adds-none ordinal other [] lacks = refl
freed-adds-none ordinal other (None ∷ slots) lacks = freed-adds-none ordinal other slots lacks
freed-adds-none ordinal other (Some one ∷ slots) lacks =
    or_from (is_slot_of other (if one == ordinal then None else Some one)) (has_slot other (with_freed ordinal slots))
    (none-or-one one other (one == ordinal) (or_false_left (one == other) (has_slot other slots) lacks))
    (freed-adds-none ordinal other slots (or_false_right (one == other) (has_slot other slots) lacks))

-- slots by ordinals below the next
pub none_next : (next least : Ordinal) (slots : Slots) → next < least + 1 → HaveOneSlotEach next slots → has_slot least slots ≡ false
none_next next least [] below each = refl
none_next next least (None ∷ slots) below each = none_next next least slots below each
none_next next least (Some one ∷ slots) below each =
    let less : one < least = omega (arith, each.0) in
    or_from (one == least) (has_slot least slots) (grind (arith, nat_tests)) (none_next next least slots below each.2)

one-more : (next : Ordinal) (slots : Slots) → HaveOneSlotEach next slots → HaveOneSlotEach (next + 1) slots
one-more next [] each = tt
one-more next (None ∷ slots) each = one-more next slots each
one-more next (Some one ∷ slots) each = (omega (arith, each.0), each.1, one-more next slots each.2)

with-next : (next : Ordinal) (slots : Slots) → HaveOneSlotEach next slots → HaveOneSlotEach (next + 1) (with_taken next slots)
with-next next [] each = tt
with-next next (None ∷ slots) each = (omega arith, none_next next next slots (omega arith) each, one-more next slots each)
with-next next (Some one ∷ slots) each =
    let differs : (next == one) ≡ false = let less : one < next = each.0 in grind (arith, nat_tests) in
    (omega (arith, each.0), taken-adds next one slots differs each.1, with-next next slots each.2)

freed-one-each : (next ordinal one : Ordinal) (slots : Slots) (is : Bool) → one < next → has_slot one slots ≡ false → HaveOneSlotEach next slots
    → HaveOneSlotEach next ((if is then None else Some one) ∷ slots)
freed-one-each next ordinal one slots true below lacks each = each
freed-one-each next ordinal one slots false below lacks each = (below, lacks, each)

without-one : (next ordinal : Ordinal) (slots : Slots) → HaveOneSlotEach next slots → HaveOneSlotEach next (with_freed ordinal slots)
without-one next ordinal [] each = tt
without-one next ordinal (None ∷ slots) each = without-one next ordinal slots each
without-one next ordinal (Some one ∷ slots) each =
    freed-one-each next ordinal one (with_freed ordinal slots) (one == ordinal) each.0 (freed-adds-none ordinal one slots each.1)
    (without-one next ordinal slots each.2)

all-free : (next count : ℕ) → HaveOneSlotEach next (replicate count None)
all-free next zero = tt
all-free next (suc count) = all-free next count

-- a connection of which nothing is kept stays so
completed-none : (count : ℕ) → with_packets_completed no_connection count ≡ no_connection
completed-none count =
    let none : 0 + min count (0 - 0) ≡ 0 = omega arith in
    ap (λ (done : ℕ). record no_connection { done = done }) none

completed-gone : (ordinal : Ordinal) (entries : List (Ordinal × ℕ)) → after_packets_completed ordinal entries no_connection ≡ no_connection
completed-gone ordinal [] = refl
completed-gone ordinal (entry ∷ entries) =
    elim (entry.0 == ordinal) as (λ is. after_packets_completed ordinal entries (if is then with_packets_completed no_connection entry.1 else no_connection)
    ≡ no_connection) [
      | true ↦ ap (after_packets_completed ordinal entries) (completed-none entry.1) ∙ completed-gone ordinal entries
      | false ↦ completed-gone ordinal entries
    ]

sent-gone : (connection : ConnectionState) (sent : Bool) → connection ≡ no_connection → (if sent then without_command connection else connection)
    ≡ no_connection
sent-gone connection true is = ap without_command is
sent-gone connection false is = is

finished-gone : (shared : SharedState) (bonds : Bonds) (handles : List Handle) (connection : ConnectionState) → connection ≡ no_connection
    → finished shared bonds handles connection ≡ no_connection
finished-gone shared bonds handles connection is = ap (finished shared bonds handles) is ∙ only_serves_the_live shared bonds handles no_connection refl

-- before the end of an event
abbrev IsGone : State → Ordinal → Type 0
IsGone state ordinal = has_slot ordinal state.slots ≡ false → state.connections ordinal ≡ no_connection

other-gone : (state : State) (at ordinal : Ordinal) (own : Own) → IsSettled state → ((same : ordinal ≡ at) → IsGone (own_change state at own).state ordinal)
    → (has_slot ordinal (slots_after own at state.slots) ≡ false → (ordinal == at) ≡ false → has_slot ordinal state.slots ≡ false)
    → IsGone (own_change state at own).state ordinal
other-gone state at ordinal own settled here before lacks =
    elim (ordinal == at) as (λ is. (ordinal == at) ≡ is → (own_change state at own).state.connections ordinal ≡ no_connection) [
      | true ↦ λ same. here (eqb-true ordinal at same) lacks
      | false ↦ λ differs. rw differs (settled.absent ordinal (before lacks differs))
    ] refl

-- where nothing comes and nothing goes
same-slots : (state : State) (at ordinal : Ordinal) (own : Own) → IsSettled state → slots_after own at state.slots ≡ state.slots
    → (effect_of state.shared (state.bonds no_connection.peer) (state.owed no_connection.peer) no_connection own).connection ≡ no_connection
    → IsGone (own_change state at own).state ordinal
same-slots state at ordinal own settled slots effect =
    other-gone state at ordinal own settled
    (λ same lacks.
    let none : state.connections at ≡ no_connection =
    settled.absent at (ap (λ (one : Ordinal). has_slot one state.slots) (sym same) ∙ ap (has_slot ordinal) (sym slots) ∙ lacks) in
    rw same (rw (eq-eqb at at refl)
    (ap (λ (connection : ConnectionState). (effect_of state.shared (state.bonds connection.peer) (state.owed connection.peer) connection own).connection) none
    ∙ effect)))
    (λ lacks differs. ap (has_slot ordinal) (sym slots) ∙ lacks)

own-gone : (state : State) (at ordinal : Ordinal) (own : Own) → IsSettled state → Possible (λ table. Unit) state (Of at own)
    → IsGone (own_change state at own).state ordinal
own-gone state at ordinal (Connected handle peer) settled may =
    other-gone state at ordinal (Connected handle peer) settled
    (λ same lacks.
    let taken : has_slot ordinal (with_taken at state.slots) ≡ true =
    ap (λ (one : Ordinal). has_slot one (with_taken at state.slots)) same ∙ taken-own at state.slots may.free in
    cc (taken, lacks))
    (λ lacks differs. taken-other at ordinal state.slots lacks)
own-gone state at ordinal Disconnected settled may =
    other-gone state at ordinal Disconnected settled (λ same lacks. rw same (rw (eq-eqb at at refl) refl))
    (λ lacks differs. freed-other at ordinal state.slots differs lacks)
own-gone state at ordinal own settled may = same-slots state at ordinal own settled refl refl

credit-gone : (state : State) (allowed opcode : ℕ) (status : Option ℕ) (init : Init) (ordinal : Ordinal) → IsSettled state → is_ready state.controller ≡ false
    → IsGone (after_command_complete state allowed opcode status (Some init)) ordinal
credit-gone state allowed opcode status init ordinal settled early lacks = settled.absent ordinal (ap (has_slot ordinal) (settled.early early))

change-gone : (state : State) (event : Event) (ordinal : Ordinal) → Possible (λ table. Unit) state event → IsSettled state
    → IsGone (change_of state event).state ordinal
unfolding change_of
change-gone state (Of at own) ordinal possible settled lacks = own-gone state at ordinal own settled possible lacks
change-gone state (Completed entries) ordinal possible settled lacks =
    ap (after_packets_completed ordinal entries) (settled.absent ordinal lacks) ∙ completed-gone ordinal entries
change-gone state (Credit allowed opcode status (Some init)) ordinal possible settled lacks =
    credit-gone state allowed opcode status init ordinal settled possible lacks
change-gone state (Tick time) ordinal possible settled lacks =
    ap (λ (connection : ConnectionState). record connection { pending = after_tick connection.pending time }) (settled.absent ordinal lacks)
change-gone state (Replaced table) ordinal possible settled lacks = ap (connection_after_replacement state.shared.table table) (settled.absent ordinal lacks)
change-gone state event ordinal possible settled lacks = settled.absent ordinal lacks

-- the slots
early-own : (own : Own) (at : Ordinal) (slots : Slots) → slots ≡ [] → slots_after own at slots ≡ []
early-own (Connected handle peer) at slots is = ap (with_taken at) is
early-own Disconnected at slots is = ap (with_freed at) is
early-own own at slots is = is

own-slots : (state : State) (at : Ordinal) (own : Own) → HaveOneSlotEach state.next state.slots → Possible (λ table. Unit) state (Of at own)
    → HaveOneSlotEach (own_change state at own).state.next (slots_after own at state.slots)
own-slots state at (Connected handle peer) each may =
    subst (λ (one : Ordinal). HaveOneSlotEach (state.next + 1) (with_taken one state.slots)) (sym may.next) (with-next state.next state.slots each)
own-slots state at Disconnected each may = without-one state.next at state.slots each
own-slots state at own each may = each

init-slots : (next count : ℕ) (init : Init) (slots : Slots) → HaveOneSlotEach next slots → HaveOneSlotEach next (slots_when_ready count init slots)
init-slots next count (Ready length packets) slots each = all-free next (usable count packets)
init-slots next count init slots each = each

init-early : (count : ℕ) (init : Init) (slots : Slots) → slots ≡ [] → is_none (command_awaited init) ≡ false → slots_when_ready count init slots ≡ []
init-early count (Ready length packets) slots none early = cc early
init-early count init slots none early = none

-- initialisation stays where it is, but for the answer to its command
told-early : (own : Own) (controller : Controller) → is_ready (advertising_after own controller) ≡ is_ready controller
told-early (Connected handle peer) controller = refl
told-early own controller = refl

refused-early : (controller : Controller) (allowed : ℕ) (refused : Bool)
    → is_ready (if refused then record controller { credit = allowed; advertising = false; refused = true } else record controller { credit = allowed })
    ≡ is_ready controller
refused-early controller allowed true = refl
refused-early controller allowed false = refl

record AreSettled (state : State) : Type 0 where
  early : is_ready state.controller ≡ false → state.slots ≡ []
  slots : HaveOneSlotEach state.next state.slots

change-slots : (state : State) (event : Event) → Possible (λ table. Unit) state event → IsSettled state → AreSettled (change_of state event).state
unfolding change_of
change-slots state (Of at own) possible settled = record {
  early = λ early. early-own own at state.slots (settled.early (sym (told-early own state.controller) ∙ early));
  slots = own-slots state at own settled.slots possible;
}
change-slots state (Credit allowed opcode status (Some init)) possible settled = record {
  early = λ early. init-early state.shared.slots init state.slots (settled.early possible) early;
  slots = init-slots state.next state.shared.slots init state.slots settled.slots;
}
change-slots state (Credit allowed opcode status None) possible settled = record {
  early = λ early. settled.early (sym (refused-early state.controller allowed (is_ready state.controller && is_refusal opcode status)) ∙ early);
  slots = settled.slots;
}
change-slots state event possible settled = record { early = settled.early; slots = settled.slots }

pub settled_before_commands : (state : State) (event : Event) → Possible (λ table. Unit) state event → IsSettled state → IsSettled (before_commands state event)
settled_before_commands state event possible settled =
    let change : Change = change_of state event in
    let slots : AreSettled change.state = change-slots state event possible settled in
    record {
      early = slots.early;
      slots = slots.slots;
      absent = λ ordinal lacks.
          finished-gone change.state.shared change.state.bonds (change.to_notify ordinal) (change.state.connections ordinal)
          (change-gone state event ordinal possible settled lacks);
    }

pub stays_settled : (state : State) (event : Event) → Possible (λ table. Unit) state event → IsSettled state → IsSettled (step state event)
unfolding step
stays_settled state event possible settled =
    let change : Change = change_of state event in
    let before : IsSettled (before_commands state event) = settled_before_commands state event possible settled in
    record {
      early = before.early;
      slots = before.slots;
      absent = λ ordinal lacks.
          sent-gone (connections_finished change ordinal)
          (nat_lt (length (command_of_init change.state.controller) + count_before ordinal (connections_finished change) change.state.slots)
          change.state.controller.credit)
          (before.absent ordinal lacks);
    }

pub settled_at_first : (start : Start) → IsSettled (state_at start)
settled_at_first start =
    let old : State = before_first_command start in
    record {
      early = λ early. refl;
      slots = tt;
      absent = λ ordinal lacks.
          sent-gone no_connection (nat_lt (length (command_of_init old.controller) + count_before ordinal old.connections old.slots) old.controller.credit)
          refl;
    }

pub is_always_settled : IsAlwaysSettled
unfolding run
is_always_settled start input = always (λ table. Unit) IsSettled stays_settled (run_at_start start) input (any_tables input) (settled_at_first start)
