-- A number among others that are compared at once.
use Rattle.std.proofs.Common.{◌≡◌, ℕ, ◌≤◌, Bool, List, [], ◌∷◌, length, map, refl, arith}
use Rattle.std.specs.List.{position_or_len}
use Rattle.std.proofs.lemmas.Grind.{common_steps}
use lib.Lanes.{mask_l}

-- where none passes, no bit of the mask is set
pub none_masked : (test : ℕ → Bool) (xs : List ℕ) → length xs ≤ position_or_len test xs → mask_l (map test xs) ≡ 0
none_masked test [] all = refl
none_masked test (x ∷ xs) all = grind (arith, common_steps, none_masked test xs)
