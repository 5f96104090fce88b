-- The slots of connections and what they keep: where each connection is found, and what becomes of all slots.
use Rattle.std.proofs.Common.{◌≡◌, ℕ, zero, suc, ◌+◌, Bool, true, false, List, [], ◌∷◌, length, map, set, Option, Some, None, refl, sym, ap, subst, ◌∙◌, arith, inl, inr}
use Rattle.std.specs.Prelude.{is_none, is_some, not, if◌then◌else◌, nat_lt, ◌==◌, ◌||◌, slice_get}
use Rattle.std.specs.List.{position, position_or_len}
use Rattle.std.specs.Option.{option_map, option_map_or}
use Rattle.std.proofs.lemmas.Bool.{cases_lt, lt-ltb, le-ltb, eq-eqb, ne_eqb, or_right, or_left}
use Rattle.std.proofs.lemmas.Option.{slice_get-map}
use Rattle.gatt_laws.specs.machine.Context.{ordinal_where}
use Rattle.gatt_laws.specs.machine.Controller.{Slots, has_free, with_taken, with_freed}
use Rattle.gatt_laws.specs.machine.Event.{Ordinal}
use Rattle.gatt_laws.specs.laws.Settled.{is_slot_of, has_slot, HaveOneSlotEach}
use Rattle.host_connections.specs.SlotState.{SlotState}
use Rattle.host_connections.specs.Slots.{SlotStates, place_free}
use Rattle.octet_io.proofs.Choices.{or_false_left, or_false_right}

-- the first place at which a test passes
next-place : (most place : ℕ) → (if nat_lt (1 + place) (suc most) then Some (1 + place) else None)
    ≡ option_map suc (if nat_lt place most then Some place else None)
next-place most place = elim (cases_lt place most) [
  | inl before ↦
      rw (lt-ltb place most before) (rw (lt-ltb (1 + place) (suc most) (omega arith)) (let next : 1 + place ≡ suc place = omega arith in
      ap (λ (at : ℕ). Some at) next))
  | inr past ↦ rw (le-ltb place most past) (rw (le-ltb (1 + place) (suc most) (omega arith)) refl)
]

pub position_step : {A : Type 0} (test : A → Bool) (x : A) (xs : List A)
    → position test (x ∷ xs) ≡ (if test x then Some 0 else option_map suc (position test xs))
position_step test x xs = elim (test x) as (λ (passes : Bool).
    (if nat_lt (if not passes then 1 + position_or_len test xs else 0) (suc (length xs)) then Some (if not passes then 1 + position_or_len test xs else 0)
    else None)
    ≡ (if passes then Some 0 else option_map suc (position test xs))) [
      | true ↦ rw (lt-ltb 0 (suc (length xs)) (omega arith)) refl
      | false ↦ next-place (length xs) (position_or_len test xs)
    ]

-- the place of a connection that a test finds, or that none is found
pub record IsFoundAt (slots : Slots) (ordinal : Ordinal) (place : Option ℕ) : Type 0 where
  pub at : ℕ
  pub is : place ≡ Some at
  pub has : slice_get slots at ≡ Some (Some ordinal)

abbrev pub Finds : Slots → Option Ordinal → Option ℕ → Type 0
Finds slots None place = place ≡ None
Finds slots (Some ordinal) place = IsFoundAt slots ordinal place

finds-later : (slot : Option Ordinal) (slots : Slots) (found : Option Ordinal) (place : Option ℕ) → Finds slots found place
    → Finds (slot ∷ slots) found (option_map suc place)
finds-later slot slots None place none = ap (λ (at : Option ℕ). option_map suc at) none
finds-later slot slots (Some ordinal) place found =
    record { at = suc found.at; is = ap (λ (at : Option ℕ). option_map suc at) found.is; has = found.has }

own-slot : (ordinal : Ordinal) (has : Bool) → ((ordinal == ordinal) || has) ≡ true
own-slot ordinal has = ap (λ (same : Bool). same || has) (eq-eqb ordinal ordinal refl)

-- who is at a place has a slot
pub placed : (slots : Slots) (at : ℕ) (ordinal : Ordinal) → slice_get slots at ≡ Some (Some ordinal) → has_slot ordinal slots ≡ true
placed [] at ordinal has = cc has
placed (None ∷ slots) zero ordinal has = cc has
placed (Some other ∷ slots) zero ordinal has =
    let same : other ≡ ordinal = cc has in or_left (other == ordinal) (has_slot ordinal slots) (eq-eqb other ordinal same)
placed (slot ∷ slots) (suc at) ordinal has = or_right (is_slot_of ordinal slot) (has_slot ordinal slots) (placed slots at ordinal has)

-- two connections that have slots of their own differ
apart : (other ordinal : Ordinal) (slots : Slots) → has_slot other slots ≡ false → has_slot ordinal slots ≡ true → (other == ordinal) ≡ false
apart other ordinal slots lacks has =
    ne_eqb other ordinal (λ same. cc (sym lacks ∙ ap (λ (one : Ordinal). has_slot one slots) same ∙ has))

module _ (keep : Option Ordinal → Option SlotState) where
  -- a test of what is kept finds whom the same test of connections finds
  module _ (test : Ordinal → Bool) (kept_test : Option SlotState → Bool) (free : kept_test (keep None) ≡ false) where
    finds-first : (slots : Slots) (slot : Option Ordinal) (passes : Bool) (ordinal : Ordinal) → slot ≡ Some ordinal
        → Finds slots (ordinal_where test slots) (position kept_test (map keep slots))
        → Finds (slot ∷ slots) (if passes then Some ordinal else ordinal_where test slots)
        (if passes then Some 0 else option_map suc (position kept_test (map keep slots)))
    finds-first slots slot true ordinal is found = record { at = 0; is = refl; has = ap (λ (one : Option Ordinal). Some one) is }
    finds-first slots slot false ordinal is found = finds-later slot slots (ordinal_where test slots) (position kept_test (map keep slots)) found

    pub finds_same : (slots : Slots) → ((ordinal : Ordinal) → has_slot ordinal slots ≡ true → kept_test (keep (Some ordinal)) ≡ test ordinal)
        → Finds slots (ordinal_where test slots) (position kept_test (map keep slots))
    finds_same [] same = refl
    finds_same (None ∷ slots) same =
        subst (λ (place : Option ℕ). Finds (None ∷ slots) (ordinal_where test slots) place)
        (sym (position_step kept_test (keep None) (map keep slots)
        ∙ ap (λ (passes : Bool). if passes then Some 0 else option_map suc (position kept_test (map keep slots))) free))
        (finds-later None slots (ordinal_where test slots) (position kept_test (map keep slots))
        (finds_same slots (λ ordinal has. same ordinal has)))
    finds_same (Some ordinal ∷ slots) same =
        subst (λ (place : Option ℕ). Finds (Some ordinal ∷ slots) (if test ordinal then Some ordinal else ordinal_where test slots) place)
        (sym (position_step kept_test (keep (Some ordinal)) (map keep slots)
        ∙ ap (λ (passes : Bool). if passes then Some 0 else option_map suc (position kept_test (map keep slots)))
        (same ordinal (own-slot ordinal (has_slot ordinal slots)))))
        (finds-first slots (Some ordinal) (test ordinal) ordinal refl
        (finds_same slots (λ other has. same other (or_right (ordinal == other) (has_slot other slots) has))))

  -- what is kept at a place
  pub kept_at_place : (slots : Slots) (at : ℕ) (ordinal : Ordinal) → slice_get slots at ≡ Some (Some ordinal)
      → slice_get (map keep slots) at ≡ Some (keep (Some ordinal))
  kept_at_place slots at ordinal has = slice_get-map keep slots at ∙ ap (λ (slot : Option (Option Ordinal)). option_map keep slot) has

  module _ (after : Option Ordinal → Option SlotState) (none : keep None ≡ after None) where
    -- slots that keep the same
    pub all_same : (slots : Slots) → ((ordinal : Ordinal) → has_slot ordinal slots ≡ true → keep (Some ordinal) ≡ after (Some ordinal))
        → map keep slots ≡ map after slots
    all_same [] same = refl
    all_same (None ∷ slots) same = λ i. none i ∷ all_same slots (λ ordinal has. same ordinal has) i
    all_same (Some ordinal ∷ slots) same =
        λ i. same ordinal (own-slot ordinal (has_slot ordinal slots)) i
        ∷ all_same slots (λ other has. same other (or_right (ordinal == other) (has_slot other slots) has)) i

    -- the slot of one connection changes
    pub one_changed : (next : Ordinal) (slots : Slots) (at : ℕ) (ordinal : Ordinal) → HaveOneSlotEach next slots → slice_get slots at ≡ Some (Some ordinal)
        → ((other : Ordinal) → has_slot other slots ≡ true → (other == ordinal) ≡ false → keep (Some other) ≡ after (Some other))
        → set (map keep slots) at (after (Some ordinal)) ≡ map after slots
    one_changed next [] at ordinal each has same = refl
    one_changed next (None ∷ slots) zero ordinal each has same = cc has
    one_changed next (Some first ∷ slots) zero ordinal each has same =
        let own : first ≡ ordinal = cc has in
        λ i. after (Some (sym own i)) ∷ all_same slots (λ other has_other. same other (or_right (first == other) (has_slot other slots) has_other)
        (ne_eqb other ordinal (λ is. cc (sym (ap (λ (one : Ordinal). has_slot one slots) (is ∙ sym own)) ∙ has_other, each.1)))) i
    one_changed next (None ∷ slots) (suc at) ordinal each has same =
        λ i. none i ∷ one_changed next slots at ordinal each has (λ other has_other. same other has_other) i
    one_changed next (Some first ∷ slots) (suc at) ordinal each has same =
        λ i. same first (own-slot first (has_slot first slots)) (apart first ordinal slots each.1 (placed slots at ordinal has)) i
        ∷ one_changed next slots at ordinal each.2 has (λ other has_other. same other (or_right (first == other) (has_slot other slots) has_other)) i

    -- it goes, and its slot is free
    freed-same : (ordinal : Ordinal) (slots : Slots) → has_slot ordinal slots ≡ false → with_freed ordinal slots ≡ slots
    freed-same ordinal [] lacks = refl
    freed-same ordinal (None ∷ slots) lacks = ap (λ (others : Slots). None ∷ others) (freed-same ordinal slots lacks)
    freed-same ordinal (Some other ∷ slots) lacks =
        λ i. (if or_false_left (other == ordinal) (has_slot ordinal slots) lacks i then None else Some other)
        ∷ freed-same ordinal slots (or_false_right (other == ordinal) (has_slot ordinal slots) lacks) i

    pub one_freed : (next : Ordinal) (slots : Slots) (at : ℕ) (ordinal : Ordinal) → HaveOneSlotEach next slots → slice_get slots at ≡ Some (Some ordinal)
        → ((other : Ordinal) → has_slot other slots ≡ true → (other == ordinal) ≡ false → keep (Some other) ≡ after (Some other))
        → set (map keep slots) at (after None) ≡ map after (with_freed ordinal slots)
    one_freed next [] at ordinal each has same = refl
    one_freed next (None ∷ slots) zero ordinal each has same = cc has
    one_freed next (Some first ∷ slots) zero ordinal each has same =
        let own : first ≡ ordinal = cc has in
        let lacks : has_slot ordinal slots ≡ false = ap (λ (one : Ordinal). has_slot one slots) (sym own) ∙ each.1 in
        (λ i. after (if sym (eq-eqb first ordinal own) i then None else Some first) ∷ all_same slots (λ other has_other.
        same other (or_right (first == other) (has_slot other slots) has_other)
        (ne_eqb other ordinal (λ is. cc (sym (ap (λ (one : Ordinal). has_slot one slots) is) ∙ has_other, lacks)))) i)
        ∙ ap (λ (others : Slots). after (if first == ordinal then None else Some first) ∷ map after others) (sym (freed-same ordinal slots lacks))
    one_freed next (None ∷ slots) (suc at) ordinal each has same =
        λ i. none i ∷ one_freed next slots at ordinal each has (λ other has_other. same other has_other) i
    one_freed next (Some first ∷ slots) (suc at) ordinal each has same =
        let differs : (first == ordinal) ≡ false = apart first ordinal slots each.1 (placed slots at ordinal has) in
        (λ i. same first (own-slot first (has_slot first slots)) differs i
        ∷ one_freed next slots at ordinal each.2 has (λ other has_other. same other (or_right (first == other) (has_slot other slots) has_other)) i)
        ∙ ap (λ (own : Bool). after (if own then None else Some first) ∷ map after (with_freed ordinal slots)) (sym differs)

module _ (keep after : Option Ordinal → Option SlotState) where
  -- what stands in a slot changes
  pub changed_at : (change : Option SlotState → Option SlotState) (next : Ordinal) (slots : Slots) (at : ℕ) (ordinal : Ordinal) → keep None ≡ after None
      → HaveOneSlotEach next slots
      → slice_get slots at ≡ Some (Some ordinal) → change (keep (Some ordinal)) ≡ after (Some ordinal)
      → ((other : Ordinal) → has_slot other slots ≡ true → (other == ordinal) ≡ false → keep (Some other) ≡ after (Some other))
      → option_map_or (λ slot. set (map keep slots) at (change slot)) (slice_get (map keep slots) at) (map keep slots) ≡ map after slots
  changed_at change next slots at ordinal none each has own same =
      let held : SlotStates = map keep slots in
      ap (λ (found : Option (Option SlotState)). option_map_or (λ slot. set held at (change slot)) found held) (kept_at_place keep slots at ordinal has)
      ∙ ap (λ (slot : Option SlotState). set held at slot) own
      ∙ one_changed keep after none next slots at ordinal each has same

  -- a connection takes the first slot that is free
  pub record TakesTheFirst (slots : Slots) (ordinal : Ordinal) : Type 0 where
    pub at : ℕ
    pub is : place_free (map keep slots) ≡ Some at
    pub free : slice_get slots at ≡ Some None
    pub taken : set (map keep slots) at (after (Some ordinal)) ≡ map after (with_taken ordinal slots)

  module _ (ordinal : Ordinal) (free : keep None ≡ None) (free_after : after None ≡ None) where
    free-first : (slots : Slots) → place_free (map keep (None ∷ slots)) ≡ Some 0
    free-first slots =
        position_step is_none (keep None) (map keep slots)
        ∙ ap (λ (slot : Option SlotState). if is_none slot then Some 0 else option_map suc (place_free (map keep slots))) free

    free-later : (first : Ordinal) (slots : Slots) → is_some (keep (Some first)) ≡ true
        → place_free (map keep (Some first ∷ slots)) ≡ option_map suc (place_free (map keep slots))
    free-later first slots there =
        position_step is_none (keep (Some first)) (map keep slots) ∙ if-there (keep (Some first)) there
      where
        if-there : (slot : Option SlotState) → is_some slot ≡ true
            → (if is_none slot then Some 0 else option_map suc (place_free (map keep slots))) ≡ option_map suc (place_free (map keep slots))
        if-there None there = cc there
        if-there (Some slot_state) there = refl

    pub takes_the_first : (slots : Slots) → has_free slots ≡ true → ((other : Ordinal) → has_slot other slots ≡ true → is_some (keep (Some other)) ≡ true)
        → ((other : Ordinal) → has_slot other slots ≡ true → keep (Some other) ≡ after (Some other)) → TakesTheFirst slots ordinal
    takes_the_first [] has there same = cc has
    takes_the_first (None ∷ slots) has there same = record {
      at = 0;
      is = free-first slots;
      free = refl;
      taken = ap (λ (others : SlotStates). after (Some ordinal) ∷ others)
          (all_same keep after (free ∙ sym free_after) slots (λ other other_has. same other other_has));
    }
    takes_the_first (Some first ∷ slots) has there same =
        let later = takes_the_first slots has
        (λ other other_has. there other (or_right (first == other) (has_slot other slots) other_has))
        (λ other other_has. same other (or_right (first == other) (has_slot other slots) other_has)) in
        record {
          at = suc later.at;
          is = free-later first slots (there first (own-slot first (has_slot first slots))) ∙ ap (λ (place : Option ℕ). option_map suc place) later.is;
          free = later.free;
          taken = λ i. same first (own-slot first (has_slot first slots)) i ∷ later.taken i;
        }

    pub none_free : (slots : Slots) → has_free slots ≡ false → ((other : Ordinal) → has_slot other slots ≡ true → is_some (keep (Some other)) ≡ true)
        → place_free (map keep slots) ≡ None
    none_free [] has there = refl
    none_free (None ∷ slots) has there = cc has
    none_free (Some first ∷ slots) has there =
        free-later first slots (there first (own-slot first (has_slot first slots)))
        ∙ ap (λ (place : Option ℕ). option_map suc place)
        (none_free slots has (λ other other_has. there other (or_right (first == other) (has_slot other slots) other_has)))
