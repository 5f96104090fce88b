-- An element of one list behind another.
use Rattle.std.proofs.Common.{◌≡◌, ℕ, zero, suc, ◌-◌, ◌≤◌, List, [], ◌∷◌, ◌++◌, length, slice_get, ap, ◌∙◌, arith}

pub behind : {A : Type 0} (xs ys : List A) (at : ℕ) → length xs ≤ at → slice_get (xs ++ ys) at ≡ slice_get ys (at - length xs)
behind [] ys at past = ap (λ (k : ℕ). slice_get ys k) (omega arith)
behind (x ∷ xs) ys zero past = absurd (omega (arith, past))
behind (x ∷ xs) ys (suc at) past =
    let less : at - length xs ≡ suc at - suc (length xs) = omega arith in
    behind xs ys at (omega (arith, past)) ∙ ap (λ (k : ℕ). slice_get ys k) less
