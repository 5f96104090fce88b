-- The entries of Number Of Completed Packets, as chunks of four octets.
use Rattle.std.proofs.Common.{◌≡◌, ℕ, zero, suc, ◌*◌, ◌<◌, ◌≤◌, List, [], ◌∷◌, length, refl, ap, sym, ◌∙◌, ◌/◌, ◌⊎◌, inl, inr, arith}
use Rattle.std.proofs.Math.Nat.{sub-zero}
use Rattle.std.specs.Prelude.{map, take, Option, Some, None}
use Rattle.std.specs.Option.{option_map}
use Rattle.std.specs.Borrow.{Bor}
use Rattle.std.specs.Slice.{IsGetRangeResult}
use Rattle.std.specs.Simd.{first_chunks}
use Rattle.le_hci.specs.Event.{completed_packets_of, completed_entries}

-- too few octets hold no such number of entries
pub too_few : (count : ℕ) (octets : List ℕ) → length octets < 4 * count → completed_entries count octets ≡ None
too_few zero octets h = absurd (omega arith)
too_few (suc n) [] h = refl
too_few (suc n) (a ∷ []) h = refl
too_few (suc n) (a ∷ b ∷ []) h = refl
too_few (suc n) (a ∷ b ∷ c ∷ []) h = refl
too_few (suc n) (a ∷ b ∷ c ∷ d ∷ rest) h =
    ap (option_map (λ entries. completed_packets_of (a ∷ b ∷ c ∷ d ∷ []) ∷ entries)) (too_few n rest (omega arith))

-- enough octets hold them
pub enough : (count chunks : ℕ) (octets : List ℕ) → count ≤ chunks → 4 * chunks ≤ length octets
    → completed_entries count octets ≡ Some (map completed_packets_of (take count (first_chunks 4 chunks octets)))
enough zero chunks octets h k = refl
enough (suc n) zero octets h k = absurd (omega arith)
enough (suc n) (suc m) [] h k = absurd (omega arith)
enough (suc n) (suc m) (a ∷ []) h k = absurd (omega arith)
enough (suc n) (suc m) (a ∷ b ∷ []) h k = absurd (omega arith)
enough (suc n) (suc m) (a ∷ b ∷ c ∷ []) h k = absurd (omega arith)
enough (suc n) (suc m) (a ∷ b ∷ c ∷ d ∷ rest) h k =
    ap (option_map (λ entries. completed_packets_of (a ∷ b ∷ c ∷ d ∷ []) ∷ entries)) (enough n m rest (omega arith) (omega arith))

-- more entries than chunks are more than the octets hold
short : (count chunks : ℕ) (octets : List ℕ) → chunks ≡ length octets / 4 → (count < 0) ⊎ (chunks < count) → length octets < 4 * count
short count chunks octets e (inl h) = absurd (omega arith)
short count chunks octets e (inr h) = omega arith

-- what a look-up of the first chunks gives
pub looked_up : (count : ℕ) (octets : List ℕ) (chunks : List (List ℕ)) (found : Option (Bor (List (List ℕ))))
    → chunks ≡ first_chunks 4 (length octets / 4) octets → length chunks ≡ length octets / 4 → IsGetRangeResult chunks 0 count found
    → option_map (λ (entries : Bor (List (List ℕ))). map completed_packets_of entries.now) found ≡ completed_entries count octets
looked_up count octets chunks None e l h = sym (too_few count octets (short count (length chunks) octets l h.0))
looked_up count octets chunks (Some entries) e l h =
    let same : entries.now ≡ take count (first_chunks 4 (length octets / 4) octets) = h.0.2 ∙ rw (sub-zero count) (ap (take count) e) in
    ap (λ xs. Some (map completed_packets_of xs)) same ∙ sym (enough count (length octets / 4) octets (omega arith) (omega arith))
