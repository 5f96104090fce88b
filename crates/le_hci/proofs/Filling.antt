-- Octets that are filled up with zeros.
use Rattle.std.proofs.Common.{◌≡◌, ℕ, ◌-◌, ◌∙◌, ap, arith}
use Rattle.std.specs.Prelude.{take, drop, replicate}
use Rattle.std.proofs.lemmas.List.{drop-replicate, take-replicate}

-- what is left of so many zeros
pub rest_of_zeros : (all used : ℕ) → take {A = ℕ} (all - used) (drop used (replicate all 0)) ≡ replicate (all - used) 0
rest_of_zeros all used =
    ap (take {A = ℕ} (all - used)) (drop-replicate used all 0) ∙ take-replicate (all - used) (all - used) 0 (omega arith)
