-- The connections that a moment times out, slot by slot.
use Rattle.std.proofs.Common.{◌≡◌, ℕ, zero, suc, ◌+◌, ◌≤◌, ◌<◌, List, [], ◌∷◌, ◌++◌, map, take, drop, length, get_or, Option, Some, None, refl, sym, ap, ◌∙◌, arith, append-nil, append_assoc, length-append}
use Rattle.std.specs.Prelude.{Bool, true, false, if◌then◌else◌}
use Rattle.std.specs.Option.{option_map_or}
use Rattle.host_connections.specs.SlotState.{SlotState}
use Rattle.host_connections.specs.Slots.{SlotStates, late_handle, late_handles}
use Rattle.gatt_subs.specs.Indications.{times_out}
use Rattle.host_api.specs.declared.TheConstants.{MAX_SLOTS}

module _ (now : ℕ) (change : Option SlotState → Option SlotState) where
  abbrev late : Option SlotState → List ℕ
  late slot = option_map_or (late_handle now) slot []

  late-more : (old slots : SlotStates) (place : ℕ) (slot : Option SlotState) → place < length old
      → slots ≡ map change (take place old) ++ drop place old → slot ≡ get_or slots place slot
      → late_handles now (take (suc place) old) ≡ late_handles now (take place old) ++ late slot
  late-more [] slots place slot within is read = absurd (omega (arith, within))
  late-more (first ∷ old) slots zero slot within is read =
      append-nil (late first) ∙ ap late (sym (read ∙ ap (λ (it : SlotStates). get_or it 0 slot) is))
  late-more (first ∷ old) slots (suc place) slot within is read =
      ap (λ (rest : List ℕ). late first ++ rest)
      (late-more old (map change (take place old) ++ drop place old) place slot (omega (arith, within)) refl
      (read ∙ ap (λ (it : SlotStates). get_or it (suc place) slot) is))
      ∙ sym (append_assoc (late first) (late_handles now (take place old)) (late slot))

  pub late_more : (old slots : SlotStates) (place : ℕ) (slot : Option SlotState) (handles told : List ℕ) → place < length old
      → slots ≡ map change (take place old) ++ drop place old → slot ≡ get_or slots place slot
      → handles ≡ late_handles now (take place old) → told ≡ late slot
      → handles ++ told ≡ late_handles now (take (place + 1) old)
  late_more old slots place slot handles told within is read so_far then_is =
      let next : suc place ≡ place + 1 = omega arith in
      (λ i. so_far i ++ then_is i) ∙ sym (late-more old slots place slot within is read)
      ∙ ap (λ (k : ℕ). late_handles now (take k old)) next

-- of each slot there is one at most
one-late : (now : ℕ) (slot : Option SlotState) → length (option_map_or (late_handle now) slot []) ≤ 1
one-late now None = omega arith
one-late now (Some slot_state) = elim (times_out slot_state.pending now) as (λ (is : Bool). length (if is then slot_state.handle ∷ [] else []) ≤ 1) [
  | true ↦ omega arith
  | false ↦ omega arith
]

few-late : (now : ℕ) (slots : SlotStates) → length (late_handles now slots) ≤ length slots
few-late now [] = omega arith
few-late now (slot ∷ slots) =
    let first = one-late now slot in
    let later = few-late now slots in
    let whole = length-append (option_map_or (late_handle now) slot []) (late_handles now slots) in
    omega (arith, first, later, whole)

few-taken : (now : ℕ) (place : ℕ) (slots : SlotStates) → length (late_handles now (take place slots)) ≤ place
few-taken now zero slots = omega arith
few-taken now (suc place) [] = omega arith
few-taken now (suc place) (slot ∷ slots) =
    let first = one-late now slot in
    let later = few-taken now place slots in
    let whole = length-append (option_map_or (late_handle now) slot []) (late_handles now (take place slots)) in
    omega (arith, first, later, whole)

pub late_room : (now place : ℕ) (slots : SlotStates) (handles : List ℕ) → place < length slots → length slots ≤ MAX_SLOTS
    → handles ≡ late_handles now (take place slots) → length handles < MAX_SLOTS
late_room now place slots handles within few is =
    let count : length handles ≡ length (late_handles now (take place slots)) = ap (λ (it : List ℕ). length it) is in
    let most = few-taken now place slots in
    omega (arith, within, few, count, most)
