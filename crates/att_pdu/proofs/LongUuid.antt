-- Types of 128 bits as they are sent, by way of the recursion on their octets.
use Rattle.std.proofs.Common.{◌≡◌, ℕ, zero, suc, ◌+◌, ◌*◌, ◌/◌, ◌%◌, ◌<◌, ◌^◌, List, [], ◌∷◌, length, get_or, arith, refl, ap, sym, ◌∙◌}
use Rattle.std.proofs.Math.Nat.{div-div-eq-div-mul, pow-suc}
use Rattle.std.proofs.lemmas.Nat.{div_below}
use Rattle.std.specs.Int.{w128, from_le_bytes, to_le_bytes, bytes_low_first}

abbrev number : List ℕ → ℕ
number [] = 0
number (octet ∷ octets) = octet + 256 * number octets

abbrev octets_of : ℕ → ℕ → List ℕ
octets_of zero n = []
octets_of (suc count) n = (n % 256) ∷ octets_of count (n / 256)

octets_of-number : (octets : List ℕ) → ((i : ℕ) → get_or octets i 0 < 256) → octets_of (length octets) (number octets) ≡ octets
octets_of-number [] small = refl
octets_of-number (octet ∷ octets) small =
    let below : octet < 256 = small 0 in
    let low : (octet + 256 * number octets) % 256 ≡ octet = omega arith in
    let high : (octet + 256 * number octets) / 256 ≡ number octets = omega arith in
    λ i. low i ∷ (ap (octets_of (length octets)) high ∙ octets_of-number octets (λ j. small (suc j))) i

number-octets_of : (count n : ℕ) → n < 256 ^ count → number (octets_of count n) ≡ n
number-octets_of zero n fits = omega arith
number-octets_of (suc count) n fits =
    let power : 256 ^ suc count ≡ 256 ^ count * 256 = pow-suc 256 count in
    let below : n < 256 ^ count * 256 = omega (arith, power) in
    let rest : number (octets_of count (n / 256)) ≡ n / 256 = number-octets_of count (n / 256) (div_below n 256 (256 ^ count) (omega arith) below) in
    omega (arith, rest)

bytes_low_first-octets_of : (i count n : ℕ) → bytes_low_first (suc i) count n ≡ octets_of count (n / 256 ^ suc i)
bytes_low_first-octets_of i zero n = refl
bytes_low_first-octets_of i (suc count) n =
    let next : n / 256 ^ suc i / 256 ≡ n / 256 ^ suc (suc i) = div-div-eq-div-mul n (256 ^ suc i) 256 ∙ ap (λ p. n / p) (sym (pow-suc 256 (suc i))) in
    ap (λ octets. (n / 256 ^ suc i % 256) ∷ octets) (bytes_low_first-octets_of (suc i) count n ∙ ap (octets_of count) (sym next))

to_le_bytes-octets_of : (n : ℕ) → to_le_bytes w128 n ≡ octets_of 16 n
to_le_bytes-octets_of n = λ i. (n % 256) ∷ bytes_low_first-octets_of 0 15 n i

from_le_bytes-number : (a b c d e f g h i j k l m n o p : ℕ) → let octets = a ∷ b ∷ c ∷ d ∷ e ∷ f ∷ g ∷ h ∷ i ∷ j ∷ k ∷ l ∷ m ∷ n ∷ o ∷ p ∷ [] in
    from_le_bytes w128 octets ≡ number octets
from_le_bytes-number a b c d e f g h i j k l m n o p = omega arith

pub long_spelled : (octets : List ℕ) (long : ℕ) → length octets ≡ 16 → ((i : ℕ) → get_or octets i 0 < 256) → long ≡ from_le_bytes w128 octets
    → to_le_bytes w128 long ≡ octets
long_spelled (a ∷ b ∷ c ∷ d ∷ e ∷ f ∷ g ∷ h ∷ i ∷ j ∷ k ∷ l ∷ m ∷ n ∷ o ∷ p ∷ []) long size small is =
    to_le_bytes-octets_of long ∙ ap (octets_of 16) (is ∙ from_le_bytes-number a b c d e f g h i j k l m n o p)
    ∙ octets_of-number (a ∷ b ∷ c ∷ d ∷ e ∷ f ∷ g ∷ h ∷ i ∷ j ∷ k ∷ l ∷ m ∷ n ∷ o ∷ p ∷ []) small
long_spelled octets long size small is = absurd (omega arith)

pub long_read : (long : ℕ) → long < 2 ^ 128 → from_le_bytes w128 (to_le_bytes w128 long) ≡ long
long_read long fits = ap (from_le_bytes w128) (to_le_bytes-octets_of long) ∙ from_le_bytes-number _ _ _ _ _ _ _ _ _ _ _ _ _ _ _ _
    ∙ number-octets_of 16 long fits
