-- Sets of places, as the bits of a number, that cover what is pending in slots (of the code alone).
use Rattle.std.specs.Prelude.{◌≡◌, ℕ, ◌<◌, ◌≤◌, ◌==◌, ◌&&◌, ◌||◌, Bool, true, false, not, is_none, is_some, List, [], ◌∷◌, length, Option}
use Rattle.std.specs.Int.{bit_at}
use Rattle.std.specs.List.{list_any}
use Rattle.std.specs.Option.{option_map_or}
use Rattle.host_connections.specs.Commands.{gives, has_command}
use Rattle.host_connections.specs.declared.marks.Marks.{Marks}
use Rattle.host_connections.specs.declared.event_end.HeardPlaces.{HeardPlaces}
use Rattle.host_connections.specs.declared.places.Due.{Due}
use Rattle.host_connections.specs.declared.places.Due.TheVariants.{Command, Packet, Value, Indication}
use Rattle.host_connections.specs.SlotState.{SlotState}
use Rattle.host_connections.specs.Slots.{SlotStates, slot_state_at}
use Rattle.host_api.specs.declared.TheConstants.{MAX_SLOTS}

-- A connection may be notified if its link has a key, so that its bond's row is in force, or if it
-- has configured something.
abbrev pub may_listen : Option SlotState → Bool
may_listen slot =
    option_map_or
    (λ (slot_state : SlotState). slot_state.live
    && (is_some slot_state.link.key || not (length slot_state.row == 0))) slot false

abbrev pub is_some_handle : List ℕ → Bool
is_some_handle [] = false
is_some_handle (handle ∷ handles) = true

abbrev pub waits : Option SlotState → Bool
waits slot =
    option_map_or (λ (slot_state : SlotState). is_some_handle slot_state.pending.waiting) slot false

abbrev pub is_slot_due : Due → Option SlotState → Bool
is_slot_due Command slot = has_command slot
is_slot_due Packet slot = gives slot
is_slot_due Value slot = may_listen slot
is_slot_due Indication slot = waits slot

pub record IsFirstPlace (set place : ℕ) : Type 0 where
  pub few : place < MAX_SLOTS
  pub within : bit_at set place ≡ 1
  pub before : (other : ℕ) → other < place → bit_at set other ≡ 0

-- The set has each place at which something is pending.
abbrev pub Covers : Due → ℕ → SlotStates → Type 0
Covers due set slots = (place : ℕ) → is_slot_due due (slot_state_at slots place) ≡ true
    → bit_at set place ≡ 1

-- The marks cover everything that is pending or free.
pub record IsMarked (slots : SlotStates) (marks : Marks) : Type 0 where
  pub few : length slots ≤ MAX_SLOTS
  pub commands : Covers Command marks.commands.bits slots
  pub packets : Covers Packet marks.packets.bits slots
  pub listening : Covers Value marks.listening.bits slots
  pub waiting : Covers Indication marks.waiting.bits slots
  pub free : marks.free ≡ false → list_any (λ slot. is_none slot) slots ≡ false

pub record CoversHeard (slots : SlotStates) (heard : HeardPlaces) : Type 0 where
  pub packets : Covers Packet heard.packets.bits slots
  pub waiting : Covers Indication heard.waiting.bits slots

-- The slot is not freed, and no new command or value waits.
pub record WaitsForNothingNew (old new : Option SlotState) : Type 0 where
  pub command : has_command new ≡ true → has_command old ≡ true
  pub waiting : waits new ≡ true → waits old ≡ true
  pub free : is_none new ≡ true → is_none old ≡ true

-- The slot is not freed, and no new value waits.
pub record HasNoValueMore (old new : Option SlotState) : Type 0 where
  pub waiting : waits new ≡ true → waits old ≡ true
  pub free : is_none new ≡ true → is_none old ≡ true
