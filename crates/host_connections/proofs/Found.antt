-- What is found among slots: it is there, and it is the first.
use Rattle.std.proofs.Common.{◌≡◌, ℕ, zero, suc, ◌+◌, ◌<◌, ◌≤◌, Bool, true, false, List, [], ◌∷◌, length, get_or, Option, Some, None, refl, sym, ap, subst, ◌∙◌, arith}
use Rattle.std.specs.Prelude.{cond, is_none, IsSome, IfSome}
use Rattle.std.specs.List.{position, position_from}
use Rattle.std.specs.Option.{option_map_or}
use Rattle.std.proofs.lemmas.Bool.{cases_lt}
use Rattle.std.proofs.lemmas.Iterator.Adapters.{position_from-zero}
use Rattle.std.proofs.lemmas.List.Quantifiers.{position-Some}
use Rattle.std.proofs.lemmas.Option.{slice_get-get_or}
use Rattle.std.proofs.Math.Logic.{⊎_elim}
use Rattle.host_connections.specs.SlotState.{SlotState}
use Rattle.host_connections.specs.Slots.{SlotStates, is_serving, is_holding, slot_state_at, place_serving, place_holding, place_free, IsThere}

-- what is read at a place is what stands there
pub kept-is : (slots : SlotStates) (place : ℕ) → place < length slots → slot_state_at slots place ≡ get_or slots place None
kept-is slots place within =
    ap (λ (found : Option (Option SlotState)). option_map_or (λ (slot : Option SlotState). slot) found None) (slice_get-get_or slots place None within)

pub clash : {X : Type 0} {test : Bool} → test ≡ true → test ≡ false → X
clash is not = absurd (no (sym is ∙ not))
  where
    no : true ≡ false → ⊥
    no e = cc e

-- what a slot keeps beyond the last: nothing
pub past : (slots : SlotStates) (place : ℕ) → length slots ≤ place → slot_state_at slots place ≡ None
past [] place beyond = refl
past (slot ∷ slots) zero beyond = absurd (omega arith)
past (slot ∷ slots) (suc place) beyond = past slots place (omega arith)

pub some-passes : {A : Type 0} (test : A → Bool) (d : A) (n : ℕ) (xs : List A) (place : ℕ) → place < length xs → test (get_or xs place d) ≡ true
    → position_from test n xs ≡ None → ⊥
some-passes test d n [] place within is none = absurd (omega (arith, within))
some-passes test d n (x ∷ xs) zero within is none = found (sym (ap (λ (it : Bool). cond it (Some n) (position_from test (n + 1) xs)) is) ∙ none)
  where
    found : Some n ≡ None → ⊥
    found e = cc e
some-passes test d n (x ∷ xs) (suc place) within is none =
    elim (test x) as (λ (it : Bool). cond it (Some n) (position_from test (n + 1) xs) ≡ None → ⊥) [
      | true ↦ λ found. no found
      | false ↦ λ later. some-passes test d (n + 1) xs place (omega (arith, within)) is later
    ] none
  where
    no : Some n ≡ None → ⊥
    no e = cc e

-- the first slot that passes a test, which a free one does not
module _ (test : Option SlotState → Bool) (free : test None ≡ false) where
  pub within : (slots : SlotStates) (place : ℕ) → test (slot_state_at slots place) ≡ true → place < length slots
  within slots place is = ⊎_elim (λ less. less)
      (λ beyond. clash is (ap test (past slots place (omega (arith, beyond))) ∙ free))
      (cases_lt place (length slots))

  pub none_at : (slots : SlotStates) → ((place : ℕ) → test (slot_state_at slots place) ≡ false) → position test slots ≡ None
  none_at slots none =
      elim (position test slots) as (λ (found : Option ℕ). position test slots ≡ found → found ≡ None) [
        | None ↦ λ is. refl
        | Some place ↦ λ is.
            let at = position-Some test slots place None is in
            clash at.1 (ap test (sym (kept-is slots place at.0)) ∙ none place)
      ] refl

  pub first_at : (slots : SlotStates) (place : ℕ) → test (slot_state_at slots place) ≡ true
      → ((other : ℕ) → other < place → test (slot_state_at slots other) ≡ false) → position test slots ≡ Some place
  first_at slots place is before =
      let there = within slots place is in
      elim (position test slots) as (λ (found : Option ℕ). position test slots ≡ found → found ≡ Some place) [
        | None ↦ λ none. absurd (some-passes test None 0 slots place there (ap test (sym (kept-is slots place there)) ∙ is)
            (sym (position_from-zero test slots) ∙ none))
        | Some other ↦ λ at.
            let found = position-Some test slots other None at in
            let passes : test (slot_state_at slots other) ≡ true = ap test (kept-is slots other found.0) ∙ found.1 in
            ap Some (⊎_elim (λ less. clash passes (before other less))
            (λ least. ⊎_elim (λ more. clash (ap test (sym (kept-is slots place there)) ∙ is) (found.2 place more))
            (λ most. omega (arith, least, most)) (cases_lt place other)) (cases_lt other place))
      ] refl

serves-some : (handle : ℕ) (slot : Option SlotState) → is_serving handle slot ≡ true → IsSome slot
serves-some handle None is = cc is
serves-some handle (Some slot_state) is = refl

holds-some : (handle : ℕ) (slot : Option SlotState) → is_holding handle slot ≡ true → IsSome slot
holds-some handle None is = cc is
holds-some handle (Some slot_state) is = refl

pub serving_there : (slots : SlotStates) (handle : ℕ) (found : Option ℕ) → found ≡ place_serving slots handle → IfSome found (IsThere slots)
serving_there slots handle None is = tt
serving_there slots handle (Some place) is =
    let at = position-Some (is_serving handle) slots place None (sym is) in
    record {
      within = at.0;
      some = subst (λ (slot : Option SlotState). IsSome slot) (sym (kept-is slots place at.0))
          (serves-some handle (get_or slots place None) at.1);
    }

pub holding_there : (slots : SlotStates) (handle : ℕ) (found : Option ℕ) → found ≡ place_holding slots handle → IfSome found (IsThere slots)
holding_there slots handle None is = tt
holding_there slots handle (Some place) is =
    let at = position-Some (is_holding handle) slots place None (sym is) in
    record {
      within = at.0;
      some = subst (λ (slot : Option SlotState). IsSome slot) (sym (kept-is slots place at.0))
          (holds-some handle (get_or slots place None) at.1);
    }

pub free_within : (slots : SlotStates) (found : Option ℕ) → found ≡ place_free slots → IfSome found (λ place. place < length slots)
free_within slots None is = tt
free_within slots (Some place) is = (position-Some is_none slots place None (sym is)).0
