-- Each connection that has a slot has one, so that what is done at its place is done to it and to no other.
use Rattle.std.proofs.Common.{◌≡◌, ℕ, zero, suc, Bool, true, false, List, [], ◌∷◌, map, set, slice_get, Option, Some, None, refl, sym, ap, ◌∙◌}
use Rattle.std.specs.Prelude.{◌==◌, if◌then◌else◌}
use Rattle.std.specs.Option.{option_map, option_map_or}
use Rattle.std.proofs.lemmas.Bool.{eq-eqb, eqb-true}
use Rattle.std.proofs.lemmas.Option.{slice_get-map}
use Rattle.att_numbers.specs.Types.{Handle, Row}
use Rattle.att_table.specs.Table.{Contents}
use Rattle.gatt_host.proofs.owing.Nexts.{clash}
use Rattle.gatt_host.proofs.refinement.Holding.{some-is, has_slot_there, hears_and_skips, HearsRaised}
use Rattle.gatt_laws.specs.machine.Controller.{Slots, is_ready}
use Rattle.gatt_laws.specs.machine.Event.{Ordinal}
use Rattle.gatt_laws.specs.laws.Settled.{has_slot, HaveOneSlotEach, IsSettled}
use Rattle.gatt_laws.specs.machine.State.{State, at_ordinal, all_to_notify}
use Rattle.host_connections.specs.SlotState.{SlotState}
use Rattle.host_connections.specs.Slots.{handles_for, at_place}
use Rattle.octet_io.proofs.Choices.{or_false_left, or_false_right}

-- a slot is taken only once the controller is initialised
ready-slots : (state : State) (settled : IsSettled state) (place : ℕ) (ordinal : Ordinal) (ready : Bool) → is_ready state.controller ≡ ready
    → slice_get state.slots place ≡ Some (Some ordinal) → is_ready state.controller ≡ true
ready-slots state settled place ordinal true is there = is
ready-slots state settled place ordinal false is there =
    absurd (none-some (sym (ap (λ (slots : Slots). slice_get slots place) (settled.early is)) ∙ there))
  where
    none-some : {A : Type 0} {x : A} → None ≡ Some x → ⊥
    none-some e = cc e

pub ready_where : (state : State) (settled : IsSettled state) (place : ℕ) (ordinal : Ordinal) → slice_get state.slots place ≡ Some (Some ordinal)
    → is_ready state.controller ≡ true
ready_where state settled place ordinal there = ready-slots state settled place ordinal (is_ready state.controller) refl there

pub apart : (one other : Ordinal) (slots : Slots) → has_slot one slots ≡ false → has_slot other slots ≡ true → (one == other) ≡ false
apart one other slots lacks has =
    elim (one == other) as (λ (is : Bool). (one == other) ≡ is → is ≡ false) [
      | true ↦ λ same. absurd (clash (sym lacks ∙ ap (λ (at : Ordinal). has_slot at slots) (eqb-true one other same) ∙ has))
      | false ↦ λ differs. refl
    ] refl

first-later : (next : Ordinal) (slot : Option Ordinal) (slots : Slots) (place : ℕ) (ordinal : Ordinal) → HaveOneSlotEach next (slot ∷ slots)
    → slot ≡ Some ordinal
    → slice_get slots place ≡ Some (Some ordinal) → ⊥
first-later next None slots place ordinal each is there = cc is
first-later next (Some first) slots place ordinal each is there =
    clash (sym each.1 ∙ ap (λ (at : Ordinal). has_slot at slots) (some-is is) ∙ has_slot_there ordinal slots place there)

pub same_place : (next : Ordinal) (slots : Slots) (one other : ℕ) (ordinal : Ordinal) → HaveOneSlotEach next slots → slice_get slots one ≡ Some (Some ordinal)
    → slice_get slots other ≡ Some (Some ordinal) → one ≡ other
same_place next [] one other ordinal each there too = cc there
same_place next (slot ∷ slots) zero zero ordinal each there too = refl
same_place next (slot ∷ slots) zero (suc other) ordinal each there too = absurd (first-later next slot slots other ordinal each (some-is there) too)
same_place next (slot ∷ slots) (suc one) zero ordinal each there too = absurd (first-later next slot slots one ordinal each (some-is too) there)
same_place next (None ∷ slots) (suc one) (suc other) ordinal each there too = ap (λ (k : ℕ). suc k) (same_place next slots one other ordinal each there too)
same_place next (Some first ∷ slots) (suc one) (suc other) ordinal each there too =
    ap (λ (k : ℕ). suc k) (same_place next slots one other ordinal each.2 there too)

-- what is set at its place is so of it alone
module _ (old new : Option Ordinal → Option SlotState) (ordinal : Ordinal) (none : old None ≡ new None)
    (others : (other : Ordinal) → (other == ordinal) ≡ false → old (Some other) ≡ new (Some other)) where
  pub map_lacking : (slots : Slots) → has_slot ordinal slots ≡ false → map old slots ≡ map new slots
  map_lacking [] lacks = refl
  map_lacking (None ∷ slots) lacks = λ i. none i ∷ map_lacking slots lacks i
  map_lacking (Some other ∷ slots) lacks =
      let first : old (Some other) ≡ new (Some other) = others other (or_false_left (other == ordinal) (has_slot ordinal slots) lacks) in
      let later : map old slots ≡ map new slots = map_lacking slots (or_false_right (other == ordinal) (has_slot ordinal slots) lacks) in
      λ i. first i ∷ later i

  lacks-later : (next : Ordinal) (slot : Option Ordinal) (slots : Slots) → HaveOneSlotEach next (slot ∷ slots) → slot ≡ Some ordinal → has_slot ordinal slots
      ≡ false
  lacks-later next None slots each is = cc is
  lacks-later next (Some first) slots each is = ap (λ (at : Ordinal). has_slot at slots) (sym (some-is is)) ∙ each.1

  set-one : (next : Ordinal) (slots : Slots) (place : ℕ) → HaveOneSlotEach next slots → slice_get slots place ≡ Some (Some ordinal)
      → set (map old slots) place (new (Some ordinal)) ≡ map new slots
  set-one next [] place each there = refl
  set-one next (slot ∷ slots) zero each there =
      let first : new (Some ordinal) ≡ new slot = ap new (sym (some-is there)) in
      let later : map old slots ≡ map new slots = map_lacking slots (lacks-later next slot slots each (some-is there)) in
      λ i. first i ∷ later i
  set-one next (None ∷ slots) (suc place) each there = λ i. none i ∷ set-one next slots place each there i
  set-one next (Some first ∷ slots) (suc place) each there =
      let same : old (Some first) ≡ new (Some first) = others first (apart first ordinal slots each.1 (has_slot_there ordinal slots place there)) in
      let later : set (map old slots) place (new (Some ordinal)) ≡ map new slots = set-one next slots place each.2 there in
      λ i. same i ∷ later i

  pub changed_one : (next : Ordinal) (slots : Slots) (place : ℕ) (change : Option SlotState → Option SlotState) → HaveOneSlotEach next slots
      → slice_get slots place ≡ Some (Some ordinal)
      → change (old (Some ordinal)) ≡ new (Some ordinal) → at_place place change (map old slots) ≡ map new slots
  changed_one next slots place change each there is =
      let read : slice_get (map old slots) place ≡ Some (old (Some ordinal)) = slice_get-map old slots place ∙ ap (λ found. option_map old found) there in
      ap (λ found. option_map_or (λ x. set (map old slots) place (change x)) found (map old slots)) read
      ∙ ap (λ slot. set (map old slots) place slot) is
      ∙ set-one next slots place each there

-- what is notified to it, and for the others
pub raised_at : (table : Contents) (now : ℕ) (next : Ordinal) (slots : Slots) (place : ℕ) (ordinal : Ordinal) (here handles raised_here raised : List Handle)
    → HaveOneSlotEach next slots → slice_get slots place ≡ Some (Some ordinal) → here ≡ raised_here
    → ((found : Option Row) (slot_state : SlotState) → hears_and_skips table now found handles slot_state ≡ hears_and_skips table now found raised slot_state)
    → HearsRaised table now slots (handles_for (Some place) here handles) (at_ordinal ordinal raised_here (all_to_notify raised))
raised_at table now next slots place ordinal here handles raised_here raised each there is alike =
    λ at other at_there found slot_state.
    elim (other == ordinal) as (λ (same : Bool). (other == ordinal) ≡ same
    → hears_and_skips table now found (if place == at then here else handles) slot_state
    ≡ hears_and_skips table now found (if same then raised_here else raised) slot_state) [
      | true ↦ λ same.
          let places : place ≡ at =
          same_place next slots place at ordinal each there (at_there ∙ ap (λ (one : Ordinal). Some (Some one)) (eqb-true other ordinal same)) in
          ap (λ (own : Bool). hears_and_skips table now found (if own then here else handles) slot_state) (eq-eqb place at places)
          ∙ ap (λ (those : List Handle). hears_and_skips table now found those slot_state) is
      | false ↦ λ differs.
          ap (λ (own : Bool). hears_and_skips table now found (if own then here else handles) slot_state) (elsewhere at other at_there differs)
          ∙ alike found slot_state
    ] refl
  where
    elsewhere : (at : ℕ) (other : Ordinal) → slice_get slots at ≡ Some (Some other) → (other == ordinal) ≡ false → (place == at) ≡ false
    elsewhere at other at_there differs =
        elim (place == at) as (λ (is : Bool). (place == at) ≡ is → is ≡ false) [
          | true ↦ λ same.
              let read : Some (Some ordinal) ≡ Some (Some other) = sym there ∙ ap (λ (k : ℕ). slice_get slots k) (eqb-true place at same) ∙ at_there in
              absurd (clash (sym differs ∙ eq-eqb other ordinal (sym (some-is (some-is read)))))
          | false ↦ λ other. refl
        ] refl

pub none_raised_at : (table : Contents) (now : ℕ) (slots : Slots) (ordinal : Ordinal) (raised_here raised : List Handle) → raised_here ≡ [] → raised ≡ []
    → HearsRaised table now slots (handles_for None [] []) (at_ordinal ordinal raised_here (all_to_notify raised))
none_raised_at table now slots ordinal raised_here raised none none' =
    λ at other at_there found slot_state.
    elim (other == ordinal) as
    (λ (same : Bool). hears_and_skips table now found [] slot_state ≡ hears_and_skips table now found (if same then raised_here else raised) slot_state) [
      | true ↦ ap (λ (those : List Handle). hears_and_skips table now found those slot_state) (sym none)
      | false ↦ ap (λ (those : List Handle). hears_and_skips table now found those slot_state) (sym none')
    ]
