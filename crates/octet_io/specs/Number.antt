-- 16-bit numbers as sent, low octet first (Core 5.0, Vol 2 Part E, 5.2, and Vol 3 Part F, 3.3.1).
use Rattle.std.specs.Prelude.{ℕ, ◌+◌, ◌*◌, ◌/◌, ◌%◌, List, [], ◌∷◌}

-- Octets, each a number below 256.
abbrev pub Octets : Type 0
Octets = List ℕ

abbrev pub two_octets : ℕ → Octets
two_octets n = (n % 256) ∷ (n / 256) ∷ []

abbrev pub from_two : ℕ → ℕ → ℕ
from_two low high = low + 256 * high
