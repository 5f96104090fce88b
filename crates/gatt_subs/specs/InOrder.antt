-- Lists in ascending order of a number for each element.
use Rattle.std.specs.Prelude.{ℕ, ◌≤◌, All, nat_lt, if◌then◌else◌, List, [], ◌∷◌}

-- The element is inserted after all elements that do not exceed it.
abbrev pub in_order : {X : Type 0} → (X → ℕ) → X → List X → List X
in_order order x [] = x ∷ []
in_order order x (y ∷ ys) =
    if nat_lt (order x) (order y) then x ∷ y ∷ ys else y ∷ in_order order x ys

-- No element exceeds a later one.
abbrev pub Ascends : {X : Type 0} → (X → ℕ) → List X → Type 0
Ascends order [] = Unit
Ascends order (x ∷ xs) = All (λ y. order x ≤ order y) xs × Ascends order xs
