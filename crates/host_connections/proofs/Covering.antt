-- What a set of places covers, as slots change and as places leave it.
use Rattle.std.proofs.Common.{◌≡◌, ◌≢◌, ℕ, zero, suc, ◌<◌, ◌≤◌, ◌==◌, Bool, true, false, ◌||◌, List, [], ◌∷◌, length, map, set, take, replicate, get_or, Option, Some, None, refl, sym, ap, subst, ◌∙◌, arith}
use Rattle.std.specs.Prelude.{is_none, is_some, if◌then◌else◌, not}
use Rattle.std.specs.Int.{bit_at}
use Rattle.std.specs.List.{list_any, position}
use Rattle.std.specs.Option.{option_map, option_map_or}
use Rattle.std.proofs.lemmas.Bool.{cases_eq, cases_lt, or_parts, or_from}
use Rattle.std.proofs.lemmas.Bool.Decides.{nat_tests}
use Rattle.std.proofs.lemmas.List.{get_or-set_same, get_or-set_other, length-map, length-set}
use Rattle.std.proofs.lemmas.Option.{slice_get-get_or}
use Rattle.std.proofs.Math.Logic.{⊎_elim}
use Rattle.host_connections.proofs.Found.{clash, first_at, kept-is, none_at, past, within}
use Rattle.att_numbers.specs.Types.{Row}
use Rattle.att_attributes.specs.declared.attr.Attr.{Attr}
use Rattle.att_table.specs.ConfigRow.{kept_row}
use Rattle.gatt_subs.specs.Indications.{Indications, after_replacement, times_out}
use Rattle.host_connections.specs.Commands.{gives, has_command}
use Rattle.host_connections.specs.SlotEffects.{after_table, after_time}
use Rattle.host_connections.specs.SlotState.{SlotState}
use Rattle.host_connections.specs.Places.{is_slot_due, is_some_handle, may_listen, waits, Covers, WaitsForNothingNew, IsMarked}
use Rattle.host_connections.specs.Slots.{SlotStates, slot_state_at}
use Rattle.host_connections.specs.declared.marks.Marks.{Marks}
use Rattle.host_connections.specs.declared.places.Due.{Due}
use Rattle.host_connections.specs.declared.places.Places.{Places}
use Rattle.host_connections.specs.declared.places.Due.TheVariants.{Command, Packet, Value, Indication}
use Rattle.host_api.specs.declared.TheConstants.{MAX_SLOTS}

pub none-due : (due : Due) → is_slot_due due None ≡ false
none-due Command = refl
none-due Packet = refl
none-due Value = refl
none-due Indication = refl

-- what is due is due at a slot that is there
pub there : (due : Due) (slots : SlotStates) (place : ℕ) → is_slot_due due (slot_state_at slots place) ≡ true → place < length slots
there due slots place is = within (is_slot_due due) (none-due due) slots place is

pub at-same : (slots : SlotStates) (place : ℕ) (slot : Option SlotState) → place < length slots → slot_state_at (set slots place slot) place ≡ slot
at-same slots place slot within =
    kept-is (set slots place slot) place (omega (arith, length-set slots place slot)) ∙ get_or-set_same slots place slot None within

pub at-other : (slots : SlotStates) (place other : ℕ) (slot : Option SlotState) → other ≢ place → slot_state_at (set slots place slot) other
    ≡ slot_state_at slots other
at-other slots place other slot apart = ⊎_elim
    (λ within.
    kept-is (set slots place slot) other (omega (arith, within, length-set slots place slot))
    ∙ get_or-set_other slots place other slot None apart ∙ sym (kept-is slots other within))
    (λ beyond.
    past (set slots place slot) other (omega (arith, beyond, length-set slots place slot)) ∙ sym (past slots other (omega (arith, beyond))))
    (cases_lt other (length slots))

-- what is read at a place
pub read_at : (slots : SlotStates) (place : ℕ) (slot : Option SlotState) → place < length slots → slot ≡ get_or slots place slot → slot_state_at slots place
    ≡ slot
read_at slots place slot within is =
    ap (λ (found : Option (Option SlotState)). option_map_or (λ (it : Option SlotState). it) found None) (slice_get-get_or slots place slot within) ∙ sym is

-- a slot is changed whose place comes into the set
pub covered_with : (due : Due) (old new : ℕ) (slots : SlotStates) (place : ℕ) (slot : Option SlotState) → Covers due old slots → bit_at new place ≡ 1
    → ((other : ℕ) → other ≢ place → bit_at new other ≡ bit_at old other) → Covers due new (set slots place slot)
covered_with due old new slots place slot covers added others = λ other is. ⊎_elim
    (λ same. ap (bit_at new) same ∙ added)
    (λ apart. others other apart ∙ covers other (ap (is_slot_due due) (sym (at-other slots place other slot apart)) ∙ is))
    (cases_eq other place)

-- a slot is changed whose place comes into the set if something is due there
pub covered_if : (due : Due) (so : Bool) (old new : ℕ) (slots : SlotStates) (place : ℕ) (slot : Option SlotState) → Covers due old slots
    → (so ≡ true → bit_at new place ≡ 1)
    → ((other : ℕ) → other ≢ place → bit_at new other ≡ bit_at old other) → (so ≡ false → is_slot_due due slot ≡ false) → Covers due new (set slots place slot)
covered_if due true old new slots place slot covers added others idle = covered_with due old new slots place slot covers (added refl) others
covered_if due false old new slots place slot covers added others idle = λ other is. ⊎_elim
    (λ same. clash is (ap (is_slot_due due)
    (ap (λ at. slot_state_at (set slots place slot) at) same
    ∙ at-same slots place slot (omega (arith, there due (set slots place slot) other is, same, length-set slots place slot))) ∙ idle refl))
    (λ apart. others other apart ∙ covers other (ap (is_slot_due due) (sym (at-other slots place other slot apart)) ∙ is))
    (cases_eq other place)

-- nothing comes to be due at a slot that is changed
pub covered_still : (due : Due) (places : ℕ) (slots : SlotStates) (place : ℕ) (slot : Option SlotState) → Covers due places slots
    → (is_slot_due due slot ≡ true → is_slot_due due (slot_state_at slots place) ≡ true) → Covers due places (set slots place slot)
covered_still due places slots place slot covers still = λ other is. ⊎_elim
    (λ same. ap (bit_at places) same ∙ covers place (still
    (ap (is_slot_due due) (sym (at-same slots place slot (omega (arith, there due (set slots place slot) other is, same, length-set slots place slot)))
    ∙ ap (λ at. slot_state_at (set slots place slot) at) (sym same)) ∙ is)))
    (λ apart. covers other (ap (is_slot_due due) (sym (at-other slots place other slot apart)) ∙ is))
    (cases_eq other place)

-- a place leaves it at which nothing is due
pub covered_without : (due : Due) (old new : ℕ) (slots : SlotStates) (place : ℕ) → length slots ≤ MAX_SLOTS → Covers due old slots
    → is_slot_due due (slot_state_at slots place) ≡ false
    → ((other : ℕ) → other < MAX_SLOTS → other ≢ place → bit_at new other ≡ bit_at old other) → Covers due new slots
covered_without due old new slots place few covers idle others = λ other is. ⊎_elim
    (λ same. clash is (ap (λ at. is_slot_due due (slot_state_at slots at)) same ∙ idle))
    (λ apart. others other (omega (arith, there due slots other is)) apart ∙ covers other is)
    (cases_eq other place)

-- the first place at which something is due
pub none_due : (due : Due) (slots : SlotStates) → ((place : ℕ) → is_slot_due due (slot_state_at slots place) ≡ false) → position (is_slot_due due) slots ≡ None
none_due due slots none = none_at (is_slot_due due) (none-due due) slots none

pub first_due : (due : Due) (slots : SlotStates) (place : ℕ) → is_slot_due due (slot_state_at slots place) ≡ true
    → ((other : ℕ) → other < place → is_slot_due due (slot_state_at slots other) ≡ false) → position (is_slot_due due) slots ≡ Some place
first_due due slots place is before = first_at (is_slot_due due) (none-due due) slots place is before

-- what no slot is, none is after a change of one that was not, or is not then
module _ (test : Option SlotState → Bool) (slot : Option SlotState) where
  not-so : (old : Option SlotState) → test old ≡ false → (test slot ≡ true → test old ≡ true) → test slot ≡ false
  not-so old not keeps = elim (test slot) as (λ (it : Bool). (it ≡ true → test old ≡ true) → it ≡ false) [
    | true ↦ λ keeps. clash (keeps refl) not
    | false ↦ λ keeps. refl
  ] keeps

  pub none_with : (slots : SlotStates) (place : ℕ) → list_any test slots ≡ false → (test slot ≡ true → test (slot_state_at slots place) ≡ true)
      → list_any test (set slots place slot) ≡ false
  none_with [] place none keeps = refl
  none_with (first ∷ slots) zero none keeps =
      let parts = or_parts (test first) (list_any test slots) none in
      or_from (test slot) (list_any test slots) (not-so first parts.0 keeps) parts.1
  none_with (first ∷ slots) (suc place) none keeps =
      let parts = or_parts (test first) (list_any test slots) none in
      or_from (test first) (list_any test (set slots place slot)) parts.0 (none_with slots place parts.1 keeps)

-- the marks after a change of one slot
module _ (slots : SlotStates) (place : ℕ) (slot : Option SlotState) (old new : Marks) (marked : IsMarked slots old)
    (packets : bit_at new.packets.bits place ≡ 1) (other_packets : (other : ℕ) → other ≢ place → bit_at new.packets.bits other ≡ bit_at old.packets.bits other)
  where
    pub marked_with : bit_at new.commands.bits place ≡ 1 → ((other : ℕ) → other ≢ place → bit_at new.commands.bits other ≡ bit_at old.commands.bits other)
        → bit_at new.listening.bits place ≡ 1 → ((other : ℕ) → other ≢ place → bit_at new.listening.bits other ≡ bit_at old.listening.bits other)
        → bit_at new.waiting.bits place ≡ 1 → ((other : ℕ) → other ≢ place → bit_at new.waiting.bits other ≡ bit_at old.waiting.bits other)
        → (new.free ≡ false → list_any (λ it. is_none it) (set slots place slot) ≡ false)
        → IsMarked (set slots place slot) new
    marked_with commands other_commands listening other_listening waiting other_waiting free = record {
      few = omega (arith, marked.few, length-set slots place slot);
      commands = covered_with Command old.commands.bits new.commands.bits slots place slot marked.commands commands other_commands;
      packets = covered_with Packet old.packets.bits new.packets.bits slots place slot marked.packets packets other_packets;
      listening = covered_with Value old.listening.bits new.listening.bits slots place slot marked.listening listening other_listening;
      waiting = covered_with Indication old.waiting.bits new.waiting.bits slots place slot marked.waiting waiting other_waiting;
      free = free;
    }

    pub marked_on : new.commands ≡ old.commands → new.waiting ≡ old.waiting → new.free ≡ old.free → WaitsForNothingNew (slot_state_at slots place) slot
        → Covers Value new.listening.bits (set slots place slot) → IsMarked (set slots place slot) new
    marked_on commands waiting free goes listening = record {
      few = omega (arith, marked.few, length-set slots place slot);
      commands = subst (λ (it : Places). Covers Command it.bits (set slots place slot)) (sym commands)
          (covered_still Command old.commands.bits slots place slot marked.commands goes.command);
      packets = covered_with Packet old.packets.bits new.packets.bits slots place slot marked.packets packets other_packets;
      listening = listening;
      waiting = subst (λ (it : Places). Covers Indication it.bits (set slots place slot)) (sym waiting)
          (covered_still Indication old.waiting.bits slots place slot marked.waiting goes.waiting);
      free = λ none. none_with (λ it. is_none it) slot slots place (marked.free (sym free ∙ none)) goes.free;
    }

-- a connection has come to a slot, to which nothing is due
pub marked_still : (slots : SlotStates) (place : ℕ) (slot : Option SlotState) (marks : Marks) → IsMarked slots marks
    → ((due : Due) → is_slot_due due slot ≡ false)
    → is_none slot ≡ false → IsMarked (set slots place slot) marks
marked_still slots place slot marks marked idle taken = record {
  few = omega (arith, marked.few, length-set slots place slot);
  commands = covered_still Command marks.commands.bits slots place slot marked.commands (λ is. clash is (idle Command));
  packets = covered_still Packet marks.packets.bits slots place slot marked.packets (λ is. clash is (idle Packet));
  listening = covered_still Value marks.listening.bits slots place slot marked.listening (λ is. clash is (idle Value));
  waiting = covered_still Indication marks.waiting.bits slots place slot marked.waiting (λ is. clash is (idle Indication));
  free = λ none. none_with (λ it. is_none it) slot slots place (marked.free none) (λ is. clash is taken);
}

-- none may be given at it any more
pub marked_off : (slots : SlotStates) (place : ℕ) (slot : Option SlotState) (old new : Marks) → place < length slots → IsMarked slots old → gives slot ≡ false
    → ((other : ℕ) → other < MAX_SLOTS → other ≢ place → bit_at new.packets.bits other ≡ bit_at old.packets.bits other)
    → new.commands ≡ old.commands → new.waiting ≡ old.waiting → new.free ≡ old.free → WaitsForNothingNew (slot_state_at slots place) slot
    → Covers Value new.listening.bits (set slots place slot) → IsMarked (set slots place slot) new
marked_off slots place slot old new within marked idle others commands waiting free goes listening =
    let few : length (set slots place slot) ≤ MAX_SLOTS = omega (arith, marked.few, length-set slots place slot) in
    record {
      few = few;
      commands = subst (λ (it : Places). Covers Command it.bits (set slots place slot)) (sym commands)
          (covered_still Command old.commands.bits slots place slot marked.commands goes.command);
      packets = covered_without Packet old.packets.bits new.packets.bits (set slots place slot) place few
          (covered_still Packet old.packets.bits slots place slot marked.packets (λ is. clash is idle))
          (ap gives (at-same slots place slot within) ∙ idle) others;
      listening = listening;
      waiting = subst (λ (it : Places). Covers Indication it.bits (set slots place slot)) (sym waiting)
          (covered_still Indication old.waiting.bits slots place slot marked.waiting goes.waiting);
      free = λ none. none_with (λ it. is_none it) slot slots place (marked.free (sym free ∙ none)) goes.free;
    }

-- free slots, of which nothing is marked
free-at : (count place : ℕ) → slot_state_at (replicate count None) place ≡ None
free-at zero place = refl
free-at (suc count) zero = refl
free-at (suc count) (suc place) = free-at count place

none-covered-of-free : (due : Due) (count : ℕ) → Covers due 0 (replicate count None)
none-covered-of-free due count = λ place is. clash is (ap (is_slot_due due) (free-at count place) ∙ none-due due)

as-many-free : (count : ℕ) (slot : Option SlotState) → length (replicate count slot) ≡ count
as-many-free zero slot = refl
as-many-free (suc count) slot = ap suc (as-many-free count slot)

pub none_marked_of_free : (count : ℕ) → count ≤ MAX_SLOTS
    → IsMarked (replicate count None)
    (record { commands = record { bits = 0 }; packets = record { bits = 0 }; listening = record { bits = 0 }; waiting = record { bits = 0 }; free = true })
none_marked_of_free count few = record {
  few = omega (arith, few, as-many-free count None);
  commands = none-covered-of-free Command count;
  packets = none-covered-of-free Packet count;
  listening = none-covered-of-free Value count;
  waiting = none-covered-of-free Indication count;
  free = λ none. cc none;
}

-- the first ones, of which no more is marked
front-at : (due : Due) (slots : SlotStates) (count place : ℕ) → is_slot_due due (slot_state_at (take count slots) place) ≡ true
    → is_slot_due due (slot_state_at slots place) ≡ true
front-at due slots zero place is = clash is (none-due due)
front-at due [] (suc count) place is = clash is (none-due due)
front-at due (slot ∷ slots) (suc count) zero is = is
front-at due (slot ∷ slots) (suc count) (suc place) is = front-at due slots count place is

none-in-front : (test : Option SlotState → Bool) (slots : SlotStates) (count : ℕ) → list_any test slots ≡ false → list_any test (take count slots) ≡ false
none-in-front test slots zero none = refl
none-in-front test [] (suc count) none = refl
none-in-front test (slot ∷ slots) (suc count) none =
    let parts = or_parts (test slot) (list_any test slots) none in
    or_from (test slot) (list_any test (take count slots)) parts.0 (none-in-front test slots count parts.1)

pub front_marked : (slots : SlotStates) (count : ℕ) (marks : Marks) → length (take count slots) ≤ MAX_SLOTS → IsMarked slots marks
    → IsMarked (take count slots) marks
front_marked slots count marks few marked = record {
  few = few;
  commands = λ place is. marked.commands place (front-at Command slots count place is);
  packets = λ place is. marked.packets place (front-at Packet slots count place is);
  listening = λ place is. marked.listening place (front-at Value slots count place is);
  waiting = λ place is. marked.waiting place (front-at Indication slots count place is);
  free = λ unmarked. none-in-front (λ it. is_none it) slots count (marked.free unmarked);
}

-- where something happens to each connection by which nothing comes to be due, no more is marked
module _ (change : SlotState → SlotState) where
  each-at : (slots : SlotStates) (place : ℕ) → slot_state_at (map (λ (slot : Option SlotState). option_map change slot) slots) place
      ≡ option_map change (slot_state_at slots place)
  each-at [] place = refl
  each-at (slot ∷ slots) zero = refl
  each-at (slot ∷ slots) (suc place) = each-at slots place

  covered-each : (due : Due) → ((slot_state : SlotState) → is_slot_due due (Some (change slot_state)) ≡ true → is_slot_due due (Some slot_state) ≡ true)
      → (places : ℕ) (slots : SlotStates) → Covers due places slots → Covers due places (map (λ (slot : Option SlotState). option_map change slot) slots)
  covered-each due keeps places slots covers = λ place is. covers place (by (slot_state_at slots place) (ap (is_slot_due due) (sym (each-at slots place)) ∙ is))
    where
      by : (slot : Option SlotState) → is_slot_due due (option_map change slot) ≡ true → is_slot_due due slot ≡ true
      by None is = is
      by (Some slot_state) is = keeps slot_state is

  none-free : (slots : SlotStates) → list_any (λ it. is_none it) slots ≡ false
      → list_any (λ it. is_none it) (map (λ (slot : Option SlotState). option_map change slot) slots) ≡ false
  none-free [] none = refl
  none-free (slot ∷ slots) none =
      let parts = or_parts (is_none slot) (list_any (λ it. is_none it) slots) none in
      or_from (is_none (option_map change slot)) (list_any (λ it. is_none it) (map (λ (slot : Option SlotState). option_map change slot) slots))
      (stays slot ∙ parts.0) (none-free slots parts.1)
    where
      stays : (slot : Option SlotState) → is_none (option_map change slot) ≡ is_none slot
      stays None = refl
      stays (Some slot_state) = refl

  each_marked : (slots : SlotStates) (marks : Marks)
      → ((slot_state : SlotState) → has_command (Some (change slot_state)) ≡ true → has_command (Some slot_state) ≡ true)
      → ((slot_state : SlotState) → gives (Some (change slot_state)) ≡ true → gives (Some slot_state) ≡ true)
      → ((slot_state : SlotState) → may_listen (Some (change slot_state)) ≡ true → may_listen (Some slot_state) ≡ true)
      → ((slot_state : SlotState) → waits (Some (change slot_state)) ≡ true → waits (Some slot_state) ≡ true)
      → IsMarked slots marks → IsMarked (map (λ (slot : Option SlotState). option_map change slot) slots) marks
  each_marked slots marks command packet value indication marked = record {
    few = omega (arith, marked.few, length-map slots (λ (slot : Option SlotState). option_map change slot));
    commands = covered-each Command command marks.commands.bits slots marked.commands;
    packets = covered-each Packet packet marks.packets.bits slots marked.packets;
    listening = covered-each Value value marks.listening.bits slots marked.listening;
    waiting = covered-each Indication indication marks.waiting.bits slots marked.waiting;
    free = λ unmarked. none-free slots (marked.free unmarked);
  }

pub time_marked : (now : ℕ) (slots : SlotStates) (marks : Marks) → IsMarked slots marks
    → IsMarked (map (λ (slot : Option SlotState). option_map (after_time now) slot) slots) marks
time_marked now slots marks = each_marked (after_time now) slots marks (λ slot_state is. is) (λ slot_state is. is) (λ slot_state is. is)
    (λ slot_state. elim (times_out slot_state.pending now) as (λ (late : Bool).
    is_some_handle (if late then no-more else slot_state.pending).waiting ≡ true → is_some_handle slot_state.pending.waiting ≡ true) [
      | true ↦ λ is. cc is
      | false ↦ λ is. is
    ])
  where
    no-more : Indications
    no-more = record { waiting = []; unconfirmed = None; timed_out = true }

pub table_marked : (old new : List Attr) (slots : SlotStates) (marks : Marks) → IsMarked slots marks
    → IsMarked (map (λ (slot : Option SlotState). option_map (after_table old new) slot) slots) marks
table_marked old new slots marks = each_marked (after_table old new) slots marks
    (λ slot_state. elim slot_state.live as (λ (live : Bool). has_command (Some (after live slot_state)) ≡ true → has_command (Some slot_state) ≡ true) [
      | true ↦ λ is. is
      | false ↦ λ is. is
    ])
    (λ slot_state. elim slot_state.live as (λ (live : Bool). gives (Some (after live slot_state)) ≡ true → gives (Some slot_state) ≡ true) [
      | true ↦ λ is. is
      | false ↦ λ is. is
    ])
    (λ slot_state. elim slot_state.live as (λ (live : Bool). may_listen (Some (after live (record slot_state { live = live }))) ≡ true
    → may_listen (Some (record slot_state { live = live })) ≡ true) [
      | true ↦ λ is. configured (is_some slot_state.link.key) slot_state.row is
      | false ↦ λ is. is
    ])
    (λ slot_state. elim slot_state.live as (λ (live : Bool). waits (Some (after live slot_state)) ≡ true → waits (Some slot_state) ≡ true) [
      | true ↦ λ is. cc is
      | false ↦ λ is. is
    ])
  where
    after : Bool → SlotState → SlotState
    after live slot_state =
        let kept' : SlotState = record slot_state { row = kept_row old new slot_state.row } in
        if live then record kept' { queue = []; pending = after_replacement slot_state.pending } else kept'

    some : (count : ℕ) → not (suc count == 0) ≡ true
    some count = grind (arith, nat_tests)

    configured : (key : Bool) (row : Row) → (key || not (length (kept_row old new row) == 0)) ≡ true → (key || not (length row == 0)) ≡ true
    configured true row is = is
    configured false [] is = is
    configured false (entry ∷ row) is = some (length row)
