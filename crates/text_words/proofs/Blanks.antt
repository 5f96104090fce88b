-- Blanks of a constant.
use Rattle.std.proofs.Common.{◌≡◌, ◌≤◌, ℕ, take}
use Rattle.std.specs.Prelude.{replicate}
use Rattle.std.proofs.lemmas.List.{take-replicate}

pub some_blanks : (count : ℕ) → count ≤ 64 → take {A = ℕ} count (replicate {A = ℕ} 64 32) ≡ replicate {A = ℕ} count 32
some_blanks count within = take-replicate {X = ℕ} count 64 32 within
