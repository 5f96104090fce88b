-- The address of a device (Core 5.0, Vol 6 Part B, 1.3.2.1).
use Rattle.std.specs.Prelude.{Bool, not, ◌&&◌, nat_le, if◌then◌else◌, [], ◌∷◌, Option, Some, None, slice_index}
use Rattle.std.specs.Str.{bytes_eq}
use Rattle.octet_io.specs.Missing.{◌>>=◌}
use Rattle.octet_io.specs.Number.{Octets}
use Rattle.le_security.specs.Address.{address_of}

-- The two highest bits of a static random address are set, and its other bits are neither all 0
-- nor all 1. The least significant octet is first.
abbrev pub is_static : Octets → Bool
is_static address =
    nat_le 0xC0 (slice_index address 5)
    && (not (bytes_eq address (0xFF ∷ 0xFF ∷ 0xFF ∷ 0xFF ∷ 0xFF ∷ 0xFF ∷ []))
    && not (bytes_eq address (0 ∷ 0 ∷ 0 ∷ 0 ∷ 0 ∷ 0xC0 ∷ [])))

abbrev pub static_of : Octets → Option Octets
static_of word = address_of word >>= (λ address. if is_static address then Some address else None)

-- Without the option the controller's public address is used.
abbrev pub own_address_of : Option Octets → Option (Option Octets)
own_address_of None = Some None
own_address_of (Some word) = static_of word >>= (λ address. Some (Some address))
