-- An octet of those of two places, one behind the other.
use Rattle.std.proofs.Common.{◌≡◌, ℕ, zero, suc, ◌-◌, ◌<◌, ◌≤◌, List, [], ◌∷◌, ◌++◌, length, refl, ◌∙◌, ap, arith}
use Rattle.std.specs.Prelude.{slice_get}

pub get_first : (first second : List ℕ) (index : ℕ) → index < length first → slice_get (first ++ second) index ≡ slice_get first index
get_first [] second index h = absurd (omega arith)
get_first (x ∷ first) second zero h = refl
get_first (x ∷ first) second (suc index) h = get_first first second index (omega arith)

pub get_second : (first second : List ℕ) (index : ℕ) → length first ≤ index
    → slice_get (first ++ second) index ≡ slice_get second (index - length first)
get_second [] second index h = let same : index ≡ index - 0 = omega arith in ap (slice_get second) same
get_second (x ∷ first) second zero h = absurd (omega arith)
get_second (x ∷ first) second (suc index) h =
    let same : index - length first ≡ suc index - length (x ∷ first) = omega arith in
    get_second first second index (omega arith) ∙ ap (slice_get second) same
