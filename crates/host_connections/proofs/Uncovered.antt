-- What is not in a set of places: nothing is due there, and where the set is empty, nowhere.
use Rattle.std.proofs.Common.{◌≡◌, ℕ, zero, suc, ◌==◌, Bool, true, false, ◌||◌, [], ◌∷◌, Option, None, refl, sym, ap, ◌∙◌, arith}
use Rattle.std.specs.Prelude.{not}
use Rattle.std.specs.Bool.{OnFalse, OnTrue}
use Rattle.std.specs.Int.{bit_at}
use Rattle.std.specs.List.{list_any, position}
use Rattle.std.proofs.lemmas.Bool.{OnFalse_from, OnTrue_at, not-false}
use Rattle.std.proofs.lemmas.Nat.Bits.{bit_at-zero}
use Rattle.host_connections.proofs.Found.{clash}
use Rattle.att_table.specs.Table.{Contents}
use Rattle.host_connections.proofs.Quiet.{nothing_heard_by_all, quiet_slot}
use Rattle.host_connections.specs.SlotState.{SlotState}
use Rattle.host_connections.specs.Places.{is_slot_due, waits, Covers}
use Rattle.host_connections.specs.Slots.{SlotStates, all_heard, slot_heard, is_in, slot_state_at}
use Rattle.gatt_subs.specs.Rows.{Subscriptions}
use Rattle.host_connections.specs.declared.places.Due.{Due}
use Rattle.host_connections.specs.declared.places.Due.TheVariants.{Indication}
use Rattle.host_connections.proofs.Covering.{none_due}

-- an empty set covers nothing, and so nothing is due
pub none_covered : (due : Due) (places : ℕ) (slots : SlotStates) → Covers due places slots → places ≡ 0 → position (is_slot_due due) slots ≡ None
none_covered due places slots covers empty = none_due due slots (λ place. idle place (is_slot_due due (slot_state_at slots place)) refl)
  where
    idle : (place : ℕ) (so : Bool) → is_slot_due due (slot_state_at slots place) ≡ so → is_slot_due due (slot_state_at slots place) ≡ false
    idle place false is = is
    idle place true is = bit (sym (covers place is) ∙ ap (λ (it : ℕ). bit_at it place) empty ∙ bit_at-zero place)
      where
        bit : ◌≡◌ {A = ℕ} 1 0 → is_slot_due due (slot_state_at slots place) ≡ false
        bit e = absurd (omega (arith, e))

-- nothing is due at a place that is not in the set
pub idle_outside : (due : Due) (places : ℕ) (slots : SlotStates) (place : ℕ) → Covers due places slots → bit_at places place ≡ 0
    → is_slot_due due (slot_state_at slots place) ≡ false
idle_outside due places slots place covers outside = by (is_slot_due due (slot_state_at slots place)) refl
  where
    by : (so : Bool) → is_slot_due due (slot_state_at slots place) ≡ so → is_slot_due due (slot_state_at slots place) ≡ false
    by false is = is
    by true is = absurd (omega (arith, covers place is, outside))

-- where no place is in the set, nothing is due at any slot
none-any : (due : Due) (slots : SlotStates) → ((place : ℕ) → is_slot_due due (slot_state_at slots place) ≡ false) → list_any (is_slot_due due) slots ≡ false
none-any due [] idle = refl
none-any due (slot ∷ slots) idle = λ i. idle zero i || none-any due slots (λ place. idle (suc place)) i

pub unmarked_idle : (due : Due) (places : ℕ) (slots : SlotStates) (place : ℕ) → Covers due places slots → is_in places place ≡ false
    → is_slot_due due (slot_state_at slots place) ≡ false
unmarked_idle due places slots place covers outside = by (is_slot_due due (slot_state_at slots place)) refl
  where
    by : (so : Bool) → is_slot_due due (slot_state_at slots place) ≡ so → is_slot_due due (slot_state_at slots place) ≡ false
    by false is = is
    by true is = clash (ap (λ (bit : ℕ). bit == 1) (covers place is)) outside

-- where none is marked at which a value waits, what is due of what waits is nothing
pub quiet_where_unmarked : (table : Contents) (now : ℕ) (rows : Subscriptions) (own : Option ℕ) (places : ℕ) (slots : SlotStates)
    → Covers Indication places slots → places ≡ 0
    → slots ≡ all_heard table now rows own [] [] slots
quiet_where_unmarked table now rows own places slots covers empty =
    nothing_heard_by_all table now rows own slots (none-any Indication slots (λ place.
    idle_outside Indication places slots place covers (ap (λ (it : ℕ). bit_at it place) empty ∙ bit_at-zero place)))

-- nor does a value come to wait by it
pub heard_waits : (table : Contents) (now : ℕ) (rows : Subscriptions) (slot : Option SlotState) → waits (slot_heard table now rows [] slot) ≡ true
    → waits slot ≡ true
heard_waits table now rows slot still = by (waits slot) refl
  where
    by : (so : Bool) → waits slot ≡ so → waits slot ≡ true
    by true is = is
    by false is = clash still (ap waits (quiet_slot table now rows slot is) ∙ is)

pub none_marked : (due : Due) (places : ℕ) (slots : SlotStates) (empty : Bool) → Covers due places slots → OnTrue empty (places ≡ 0)
    → OnFalse (not empty) (list_any (is_slot_due due) slots ≡ false)
none_marked due places slots empty covers is = OnFalse_from _ _ (λ lacks. none-any due slots (λ place.
    idle_outside due places slots place covers (ap (λ (it : ℕ). bit_at it place) (OnTrue_at (not-false empty lacks) is) ∙ bit_at-zero place)))
