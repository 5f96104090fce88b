-- A loop that changes the slots of a set, one by one.
use Rattle.std.proofs.Common.{◌≡◌, ◌≢◌, ℕ, zero, suc, ◌+◌, ◌<◌, ◌≤◌, ◌==◌, Bool, true, false, [], ◌∷◌, length, set, Option, None, refl, sym, ap, ◌∙◌, arith}
use Rattle.std.specs.Prelude.{◌&&◌, if◌then◌else◌, not}
use Rattle.std.specs.Int.{bit_at}
use Rattle.std.proofs.lemmas.Bool.{cases_eq, cases_lt}
use Rattle.std.proofs.lemmas.List.{length-set}
use Rattle.std.proofs.lemmas.Nat.Bits.{bit_at-zero}
use Rattle.std.proofs.Math.Logic.{⊎_elim}
use Rattle.host_api.specs.declared.TheConstants.{MAX_SLOTS}
use Rattle.host_connections.proofs.Covering.{at-other, at-same}
use Rattle.host_connections.proofs.HeardMarks.{heard-at}
use Rattle.host_connections.proofs.Found.{past}
use Rattle.host_connections.specs.SlotState.{SlotState}
use Rattle.host_connections.specs.Slots.{SlotStates, heard_from, is_in, slot_state_at}
use Rattle.octet_io.proofs.Choices.{and_with_false, and_with_true}

-- slots that are the same at each place
same-each : (one other : SlotStates) → length one ≡ length other → ((place : ℕ) → slot_state_at one place ≡ slot_state_at other place) → one ≡ other
same-each [] [] count same = refl
same-each [] (slot ∷ others) count same = absurd (omega (arith, count))
same-each (slot ∷ slots) [] count same = absurd (omega (arith, count))
same-each (slot ∷ slots) (other ∷ others) count same = λ i. same zero i ∷ same-each slots others (omega (arith, count)) (λ place. same (suc place)) i

count-heard : (hear : ℕ → Option SlotState → Option SlotState) (start : ℕ) (slots : SlotStates) → length (heard_from start hear slots) ≡ length slots
count-heard hear start [] = refl
count-heard hear start (slot ∷ slots) = ap suc (count-heard hear (start + 1) slots)

abbrev pub is_done : ℕ → ℕ → ℕ → Bool
is_done whom left place = is_in whom place && not (is_in left place)

abbrev pub heard_if : (Option SlotState → Option SlotState) → Bool → Option SlotState → Option SlotState
heard_if hear done slot = if done then hear slot else slot

-- the slots of a set have heard, but for those that are left
pub record IsSoFar (hear : Option SlotState → Option SlotState) (whom left : ℕ) (old now : SlotStates) : Type 0 where
  pub within : (place : ℕ) → place < MAX_SLOTS → is_in left place ≡ true → is_in whom place ≡ true
  pub count : length now ≡ length old
  pub each : (place : ℕ) → place < MAX_SLOTS → slot_state_at now place ≡ heard_if hear (is_done whom left place) (slot_state_at old place)

module _ (hear : Option SlotState → Option SlotState) (nobody : hear None ≡ None) where
  undone : (is : Bool) (slot : Option SlotState) → slot ≡ heard_if hear (is && not is) slot
  undone true slot = refl
  undone false slot = refl

  pub begins : (whom : ℕ) (old : SlotStates) → IsSoFar hear whom whom old old
  begins whom old = record {
    within = λ place few is. is;
    count = refl;
    each = λ place few. undone (is_in whom place) (slot_state_at old place);
  }

  on : (whom left place : ℕ) → is_in left place ≡ true → is_done whom left place ≡ false
  on whom left place is = ap (λ (it : Bool). is_in whom place && not it) is ∙ and_with_false (is_in whom place)

  off : (whom left place : ℕ) → is_in whom place ≡ true → is_in left place ≡ false → is_done whom left place ≡ true
  off whom left place is gone = λ i. is i && not (gone i)

  module _ (whom left rest place : ℕ) (old now : SlotStates) (so : IsSoFar hear whom left old now) (few : place < MAX_SLOTS) (is : bit_at left place ≡ 1)
      (gone : bit_at rest place ≡ 0)
      (others : (other : ℕ) → other < MAX_SLOTS → other ≢ place → bit_at rest other ≡ bit_at left other) where
    in-left : is_in left place ≡ true
    in-left = ap (λ (bit : ℕ). bit == 1) is

    not-in-rest : is_in rest place ≡ false
    not-in-rest = ap (λ (bit : ℕ). bit == 1) gone

    same-in : (other : ℕ) → other < MAX_SLOTS → other ≢ place → is_in rest other ≡ is_in left other
    same-in other within apart = ap (λ (bit : ℕ). bit == 1) (others other within apart)

    within-rest : (other : ℕ) → other < MAX_SLOTS → is_in rest other ≡ true → is_in whom other ≡ true
    within-rest other within in-it = ⊎_elim
        (λ same. ap (is_in whom) same ∙ so.within place few in-left)
        (λ apart. so.within other within (sym (same-in other within apart) ∙ in-it))
        (cases_eq other place)

    pub unheard : slot_state_at now place ≡ slot_state_at old place
    unheard = so.each place few ∙ ap (λ (done : Bool). heard_if hear done (slot_state_at old place)) (on whom left place in-left)

    heard-here : heard_if hear (is_done whom rest place) (slot_state_at old place) ≡ hear (slot_state_at old place)
    heard-here = ap (λ (done : Bool). heard_if hear done (slot_state_at old place)) (off whom rest place (so.within place few in-left) not-in-rest)

    there-too : (other : ℕ) → other < MAX_SLOTS → other ≢ place → slot_state_at now other ≡ heard_if hear (is_done whom rest other) (slot_state_at old other)
    there-too other within apart = so.each other within
        ∙ ap (λ (it : Bool). heard_if hear (is_in whom other && not it) (slot_state_at old other)) (sym (same-in other within apart))

    -- one of them hears
    pub goes_on : (slot : Option SlotState) → place < length now → slot ≡ hear (slot_state_at now place) → IsSoFar hear whom rest old (set now place slot)
    goes_on slot there heard = record {
      within = within-rest;
      count = length-set now place slot ∙ so.count;
      each = λ other within. ⊎_elim
          (λ same. ap (slot_state_at (set now place slot)) same ∙ at-same now place slot there ∙ heard ∙ ap hear unheard ∙ sym heard-here
          ∙ ap (λ (at : ℕ). heard_if hear (is_done whom rest at) (slot_state_at old at)) (sym same))
          (λ apart. at-other now place other slot apart ∙ there-too other within apart)
          (cases_eq other place);
    }

    -- or there is no such slot
    pub goes_past : length now ≤ place → IsSoFar hear whom rest old now
    goes_past beyond = record {
      within = within-rest;
      count = so.count;
      each = λ other within. ⊎_elim
          (λ same. ap (slot_state_at now) same ∙ past now place beyond
          ∙ sym (heard-here ∙ ap hear (past old place (omega (arith, beyond, so.count))) ∙ nobody)
          ∙ ap (λ (at : ℕ). heard_if hear (is_done whom rest at) (slot_state_at old at)) (sym same))
          (λ apart. there-too other within apart)
          (cases_eq other place);
    }

  -- until none is left
  pub ends : (whom left : ℕ) (old now : SlotStates) → length old ≤ MAX_SLOTS → IsSoFar hear whom left old now → left ≡ 0
      → now ≡ heard_from 0 (λ place slot. if is_in whom place then hear slot else slot) old
  ends whom left old now few so none =
      same-each now (heard_from 0 heard old) (so.count ∙ sym (count-heard heard 0 old)) (λ place.
      at place ∙ ap (λ (it : ℕ). heard it (slot_state_at old place)) (first place) ∙ sym (heard-at heard nobody-there 0 old place))
    where
      heard : ℕ → Option SlotState → Option SlotState
      heard place slot = if is_in whom place then hear slot else slot

      first : (place : ℕ) → place ≡ 0 + place
      first place = omega arith

      nobody-if : (is : Bool) → heard_if hear is None ≡ None
      nobody-if true = nobody
      nobody-if false = refl

      nobody-there : (place : ℕ) → heard place None ≡ None
      nobody-there place = nobody-if (is_in whom place)

      empty : (place : ℕ) → is_in left place ≡ false
      empty place = ap (λ (bits : ℕ). bit_at bits place == 1) none ∙ ap (λ (bit : ℕ). bit == 1) (bit_at-zero place)

      at : (place : ℕ) → slot_state_at now place ≡ heard place (slot_state_at old place)
      at place = ⊎_elim
          (λ within. so.each place within
          ∙ ap (λ (done : Bool). heard_if hear done (slot_state_at old place))
          (ap (λ (it : Bool). is_in whom place && not it) (empty place) ∙ and_with_true (is_in whom place)))
          (λ beyond. past now place (omega (arith, beyond, few, so.count))
          ∙ sym (ap (heard place) (past old place (omega (arith, beyond, few))) ∙ nobody-there place))
          (cases_lt place MAX_SLOTS)
