-- The first of a list that passes a test: what it is, and the list with it changed.
use Rattle.std.proofs.Common.{◌≡◌, ℕ, zero, suc, ◌+◌, ◌<◌, Bool, true, false, ◌||◌, List, [], ◌∷◌, length, Option, Some, None, refl, sym, ap, ◌∙◌, arith}
use Rattle.std.specs.Prelude.{cond, is_some, get_or}
use Rattle.std.specs.List.{list_any, position, position_from}
use Rattle.std.specs.Option.{option_and_then, option_map, option_map_or, option_or}
use Rattle.std.proofs.lemmas.Option.{slice_get-get_or}
use Rattle.std.proofs.lemmas.Iterator.Adapters.{position_from-zero}
use Rattle.std.proofs.lemmas.List.Quantifiers.{position-Some}
use Rattle.std.proofs.Math.ListN.{set}
use Rattle.gatt_host.specs.GoingOut.{with_first, first_slot_command, first_slot_packet}
use Rattle.host_connections.specs.Commands.{command_due, gives, slot_packet, has_command}
use Rattle.host_connections.specs.SlotState.{SlotState}
use Rattle.host_connections.specs.Slots.{slot_state_at, slots_at}
use Rattle.le_hci.specs.Command.{Commanded}

module _ {A : Type 0} (test : A → Bool) where
  -- none passes
  abbrev NonePasses : List A → Type 0
  NonePasses [] = Unit {0}
  NonePasses (x ∷ xs) = (test x ≡ false) × NonePasses xs

  none-from : (n : ℕ) (xs : List A) → position_from test n xs ≡ None → NonePasses xs
  none-from n [] none = tt
  none-from n (x ∷ xs) none =
      elim (test x) as (λ (is : Bool). test x ≡ is → cond is (Some n) (position_from test (n + 1) xs) ≡ None → (test x ≡ false) × NonePasses xs) [
        | true ↦ λ is found. absurd (some-none found)
        | false ↦ λ is later. (is, none-from (n + 1) xs later)
      ] refl none
    where
      some-none : {B : Type 0} {b : B} → Some b ≡ None → ⊥
      some-none e = cc e

  none-passes : (xs : List A) → position test xs ≡ None → NonePasses xs
  none-passes xs none = none-from 0 xs (sym (position_from-zero test xs) ∙ none)

  pub none_changed : (change : A → A) (xs : List A) → position test xs ≡ None → with_first test change xs ≡ xs
  none_changed change xs none = slot_state xs (none-passes xs none)
    where
      slot_state : (xs : List A) → NonePasses xs → with_first test change xs ≡ xs
      slot_state [] none = refl
      slot_state (x ∷ xs) none = rw none.0 (ap (λ later. x ∷ later) (slot_state xs none.1))

  -- the place of the first
  record IsFirstAt (xs : List A) (place : ℕ) (d : A) : Type 0 where
    within : place < length xs
    passes : test (get_or xs place d) ≡ true
    before : (k : ℕ) → k < place → test (get_or xs k d) ≡ false

  first-at : (xs : List A) (place : ℕ) (d : A) → position test xs ≡ Some place → IsFirstAt xs place d
  first-at xs place d is =
      let facts = position-Some test xs place d is in
      record { within = facts.0; passes = facts.1; before = facts.2 }

  later-at : (x : A) (xs : List A) (place : ℕ) (d : A) → IsFirstAt (x ∷ xs) (suc place) d → IsFirstAt xs place d
  later-at x xs place d is = record { within = omega (arith, is.within); passes = is.passes; before = λ k less. is.before (suc k) (omega (arith, less)) }

  changed-at : (change : A → A) (xs : List A) (place : ℕ) (d : A) → IsFirstAt xs place d → with_first test change xs ≡ set xs place (change (get_or xs place d))
  changed-at change [] place d is = absurd (omega (arith, is.within))
  changed-at change (x ∷ xs) zero d is = rw is.passes refl
  changed-at change (x ∷ xs) (suc place) d is =
      rw (is.before 0 (omega arith)) (ap (λ later. x ∷ later) (changed-at change xs place d (later-at x xs place d is)))

  pub first_changed : (change : A → A) (xs : List A) (place : ℕ) (d : A) → position test xs ≡ Some place
      → with_first test change xs ≡ set xs place (change (get_or xs place d))
  first_changed change xs place d is = changed-at change xs place d (first-at xs place d is)

  pub first_passes : (xs : List A) (place : ℕ) (d : A) → position test xs ≡ Some place → test (get_or xs place d) ≡ true
  first_passes xs place d is = (first-at xs place d is).passes

-- the first packet
packet-at : (slots : List (Option SlotState)) (place : ℕ) (d : Option SlotState) → IsFirstAt gives slots place d → first_slot_packet slots
    ≡ option_and_then slot_packet (get_or slots place d)
packet-at [] place d is = absurd (omega (arith, is.within))
packet-at (slot ∷ slots) zero d is = rw is.passes refl
packet-at (slot ∷ slots) (suc place) d is = rw (is.before 0 (omega arith)) (packet-at slots place d (later-at gives slot slots place d is))

pub first_packet : (slots : List (Option SlotState)) (place : ℕ) (d : Option SlotState) → position gives slots ≡ Some place
    → first_slot_packet slots ≡ option_and_then slot_packet (get_or slots place d)
first_packet slots place d is = packet-at slots place d (first-at gives slots place d is)

pub no_packet : (slots : List (Option SlotState)) → position gives slots ≡ None → first_slot_packet slots ≡ None
no_packet slots none = empty slots (none-passes gives slots none)
  where
    empty : (slots : List (Option SlotState)) → NonePasses gives slots → first_slot_packet slots ≡ None
    empty [] none = refl
    empty (slot ∷ slots) none = rw none.0 (empty slots none.1)

-- the first command
some-first : (due other : Option Commanded) → is_some due ≡ true → option_or due other ≡ due
some-first (Some command) other is = refl
some-first None other is = cc is

none-first : (due other : Option Commanded) → is_some due ≡ false → option_or due other ≡ other
none-first (Some command) other is = cc is
none-first None other is = refl

command-at : (slots : List (Option SlotState)) (place : ℕ) (d : Option SlotState) → IsFirstAt has_command slots place d → first_slot_command slots
    ≡ command_due (get_or slots place d)
command-at [] place d is = absurd (omega (arith, is.within))
command-at (slot ∷ slots) zero d is = some-first (command_due slot) (first_slot_command slots) is.passes
command-at (slot ∷ slots) (suc place) d is =
    none-first (command_due slot) (first_slot_command slots) (is.before 0 (omega arith)) ∙ command-at slots place d (later-at has_command slot slots place d is)

pub first_command : (slots : List (Option SlotState)) (place : ℕ) (d : Option SlotState) → position has_command slots ≡ Some place
    → first_slot_command slots ≡ command_due (get_or slots place d)
first_command slots place d is = command-at slots place d (first-at has_command slots place d is)

pub no_command : (slots : List (Option SlotState)) → position has_command slots ≡ None → first_slot_command slots ≡ None
no_command slots none = empty slots (none-passes has_command slots none)
  where
    empty : (slots : List (Option SlotState)) → NonePasses has_command slots → first_slot_command slots ≡ None
    empty [] none = refl
    empty (slot ∷ slots) none = none-first (command_due slot) (first_slot_command slots) none.0 ∙ empty slots none.1

-- what is found at the first place that passes
module _ (test : Option SlotState → Bool) (slots found : List (Option SlotState)) (same : found ≡ slots) (place : ℕ) (at : position test slots ≡ Some place)
  where
    pub found_at : slot_state_at found place ≡ get_or slots place None
    found_at =
        ap (λ (slots : List (Option SlotState)). slot_state_at slots place) same
        ∙ ap (λ (it : Option (Option SlotState)). option_map_or (λ (slot : Option SlotState). slot) it None)
        (slice_get-get_or slots place None (position-Some test slots place None at).0)

    pub found_passes : test (slot_state_at found place) ≡ true
    found_passes = ap test found_at ∙ first_passes test slots place None at

    pub found_changed : (change : SlotState → SlotState) → slots_at place change found ≡ with_first test (option_map change) slots
    found_changed change =
        ap (λ (slots : List (Option SlotState)). slots_at place change slots) same
        ∙ ap (λ (it : Option (Option SlotState)). option_map_or (λ (slot : Option SlotState). set slots place (option_map change slot)) it slots)
        (slice_get-get_or slots place None (position-Some test slots place None at).0)
        ∙ sym (first_changed test (option_map change) slots place None at)

-- some slot has a command where there is a first one
pub any_command : (slots : List (Option SlotState)) → list_any has_command slots ≡ is_some (first_slot_command slots)
any_command [] = refl
any_command (slot ∷ slots) = ap (λ rest. has_command slot || rest) (any_command slots) ∙ either (command_due slot) (first_slot_command slots)
  where
    either : (due other : Option Commanded) → (is_some due || is_some other) ≡ is_some (option_or due other)
    either (Some command) other = refl
    either None other = refl
