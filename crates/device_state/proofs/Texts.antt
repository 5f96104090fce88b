-- Octets that are UTF-8 or not.
use Rattle.std.proofs.Common.{◌≡◌, ℕ, true, false, List, refl}
use Rattle.std.specs.Prelude.{Bool}
use Rattle.std.specs.Str.{IsUtf8, is_utf8}
use Rattle.std.proofs.lemmas.Str.{IsUtf8-from_is_utf8}

pub not_utf8 : (octets : List ℕ) → (IsUtf8 octets → ⊥) → is_utf8 octets ≡ false
not_utf8 octets other = by (is_utf8 octets) refl
  where
    by : (is : Bool) → is_utf8 octets ≡ is → is_utf8 octets ≡ false
    by true is = absurd (other (IsUtf8-from_is_utf8 octets is))
    by false is = is
