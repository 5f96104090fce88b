-- The socket of the program's supervisor, and its watchdog (sd_notify(3),
-- sd_watchdog_enabled(3)).
use Rattle.std.specs.Prelude.{ℕ, ◌/◌, ◌&&◌, ◌||◌, ◌==◌, nat_le, if◌then◌else◌, Bool, false, [], ◌∷◌, length}
use Rattle.octet_io.specs.Number.{Octets}

-- A text names a socket by a path from the root, or by `@` and a name that is no file's.
abbrev pub names_a_socket : Octets → Bool
names_a_socket [] = false
names_a_socket (first ∷ rest) = (first == 0x2F || first == 0x40) && nat_le (length rest) 107

-- The family and the path, or the family, a zero and the name (unix(7)).
abbrev pub address_of : Octets → Octets
address_of [] = []
address_of (first ∷ rest) = 0x01 ∷ 0x00 ∷ (if first == 0x40 then 0x00 else first) ∷ rest

-- Half of a time in microseconds, in milliseconds, and at least one.
abbrev pub half_in_millis : ℕ → ℕ
half_in_millis micros = if micros / 2000 == 0 then 1 else micros / 2000
