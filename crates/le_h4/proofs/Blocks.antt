-- Octets that are copied as a block, of which some are meant.
use Rattle.std.proofs.Common.{◌≡◌, ℕ, zero, suc, ◌≤◌, [], ◌∷◌, ◌++◌, length, take, refl, ap, arith}
use Rattle.octet_io.specs.Number.{Octets}

pub front_of_block : (count size : ℕ) (octets behind : Octets) → count ≤ size → size ≤ length octets
    → take count (take size octets ++ behind) ≡ take count octets
front_of_block zero size octets behind few there = refl
front_of_block (suc count) zero octets behind few there = absurd (omega arith)
front_of_block (suc count) (suc size) [] behind few there = absurd (omega arith)
front_of_block (suc count) (suc size) (octet ∷ octets) behind few there =
    ap (λ (rest : Octets). octet ∷ rest) (front_of_block count size octets behind (omega arith) (omega arith))
