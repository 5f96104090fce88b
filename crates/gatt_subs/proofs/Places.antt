-- Distinct handles from 1 to the largest that there may be are no more than that.
use Rattle.std.proofs.Common.{◌≡◌, ℕ, zero, suc, ◌+◌, ◌<◌, ◌≤◌, Bool, true, false, ◌==◌, if◌then◌else◌, ◌||◌, nat_lt, List, [], ◌∷◌, ◌++◌, length, refl, sym, ap, ◌∙◌, arith}
use Rattle.std.proofs.lemmas.Bool.{lt-ltb, ltb-true}
use Rattle.std.proofs.lemmas.Bool.Decides.{nat_tests}
use Rattle.std.proofs.lemmas.Grind.{common_steps}
use Rattle.att_numbers.specs.declared.limit.TheConstants.{MAX_ATTRIBUTES}
use Rattle.gatt_subs.specs.Indications.{is_waiting, HaveOnePlace}
use Rattle.gatt_subs.specs.Room.{has_room_to_wait}

-- the handles but for one of them
abbrev without : ℕ → List ℕ → List ℕ
without handle [] = []
without handle (first ∷ rest) = if first == handle then rest else first ∷ without handle rest

length_without : (handle : ℕ) (handles : List ℕ) → length handles ≤ length (without handle handles) + 1
length_without handle [] = omega arith
length_without handle (first ∷ rest) = grind (arith, nat_tests, length_without handle rest)

-- distinct handles that are at most a number
abbrev AreAtMost : ℕ → List ℕ → Type 0
AreAtMost most [] = Unit
AreAtMost most (first ∷ rest) = (is_waiting rest first ≡ false) × (0 < first) × (first ≤ most) × AreAtMost most rest

still_absent : (handle other : ℕ) (handles : List ℕ) → is_waiting handles other ≡ false → is_waiting (without handle handles) other ≡ false
still_absent handle other [] absent = refl
still_absent handle other (first ∷ rest) absent = grind (arith, nat_tests, still_absent handle other rest)

less_last : (most : ℕ) (handles : List ℕ) → is_waiting handles (suc most) ≡ false → AreAtMost (suc most) handles → AreAtMost most handles
less_last most [] absent all = tt
less_last most (first ∷ rest) absent all =
    let differs : first ≤ most = grind (arith, nat_tests, all.2) in
    (all.0, all.1, differs, less_last most rest (grind (arith, nat_tests)) all.3)

less_first : (most first : ℕ) (rest : List ℕ) (same : Bool) → (first == suc most) ≡ same → AreAtMost (suc most) (first ∷ rest)
    → AreAtMost most (without (suc most) rest)
    → AreAtMost most (if same then rest else first ∷ without (suc most) rest)
less_first most first rest true is all later =
    let equal : first ≡ suc most = grind (arith, nat_tests) in
    less_last most rest (sym (ap (is_waiting rest) equal) ∙ all.0) all.3
less_first most first rest false is all later =
    let differs : first ≤ most = grind (arith, nat_tests, all.2) in
    (still_absent (suc most) first rest all.0, all.1, differs, later)

less : (most : ℕ) (handles : List ℕ) → AreAtMost (suc most) handles → AreAtMost most (without (suc most) handles)
less most [] all = tt
less most (first ∷ rest) all = less_first most first rest (first == suc most) refl all (less most rest all.3)

at_most : (most : ℕ) (handles : List ℕ) → AreAtMost most handles → length handles ≤ most
at_most zero [] all = omega arith
at_most zero (first ∷ rest) all = absurd (omega (arith, all.1, all.2))
at_most (suc most) handles all =
    let fewer = at_most most (without (suc most) handles) (less most handles all) in
    let counted = length_without (suc most) handles in
    omega arith

placed : (handles : List ℕ) → HaveOnePlace handles → AreAtMost MAX_ATTRIBUTES handles
placed [] all = tt
placed (first ∷ rest) all = (all.0, all.1, all.2, placed rest all.3)

-- so there is room for a handle that does not wait
room_for : (handles : List ℕ) (handle : ℕ) → HaveOnePlace handles → is_waiting handles handle ≡ false → 0 < handle → handle ≤ MAX_ATTRIBUTES
    → length handles < MAX_ATTRIBUTES
room_for handles handle all absent is_used most =
    let more = at_most MAX_ATTRIBUTES (handle ∷ handles) (absent, is_used, most, placed handles all) in
    omega arith

-- of those that may be, and so there is room for any
pub room_for_any : (handles : List ℕ) (handle : ℕ) → 0 < handle → handle ≤ MAX_ATTRIBUTES → HaveOnePlace handles
    → has_room_to_wait MAX_ATTRIBUTES handles handle ≡ true
room_for_any handles handle is_used most all =
    elim (is_waiting handles handle) as (λ (waits : Bool). is_waiting handles handle ≡ waits → (waits || nat_lt (length handles) MAX_ATTRIBUTES) ≡ true) [
      | true ↦ λ waits. refl
      | false ↦ λ absent. lt-ltb (length handles) MAX_ATTRIBUTES (room_for handles handle all absent is_used most)
    ] refl

-- there is room for one more where there is room for one that does not wait
pub room_where : (room : ℕ) (handles : List ℕ) (handle : ℕ) → is_waiting handles handle ≡ false → has_room_to_wait room handles handle ≡ true
    → length handles < room
room_where room handles handle absent fits =
    ltb-true (length handles) room (sym (ap (λ (waits : Bool). waits || nat_lt (length handles) room) absent) ∙ fits)

absent_more : (handles : List ℕ) (handle other : ℕ) → is_waiting handles other ≡ false → (other == handle) ≡ false → is_waiting (handles ++ handle ∷ []) other
    ≡ false
absent_more handles handle other absent differs = grind (arith, nat_tests, common_steps)

pub placed_more : (handles : List ℕ) (handle : ℕ) → HaveOnePlace handles → is_waiting handles handle ≡ false → 0 < handle → handle ≤ MAX_ATTRIBUTES
    → HaveOnePlace (handles ++ handle ∷ [])
placed_more [] handle all absent is_used most = (refl, is_used, most, tt)
placed_more (first ∷ rest) handle all absent is_used most =
    (absent_more rest handle first all.0 (grind (arith, nat_tests)), all.1, all.2, placed_more rest handle all.3 (grind (arith, nat_tests)) is_used most)

pub ruleset places = (room_where, placed_more)
