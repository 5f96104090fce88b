-- Decimal numbers (this profile's own).
use Rattle.std.specs.Prelude.{ℕ, ◌&&◌, nat_lt, if◌then◌else◌, length, Option, Some, None}
use Rattle.std.specs.Str.{all_ascii_digits}
use Rattle.std.specs.Str.Parse.{digits_value}
use Rattle.octet_io.specs.Number.{Octets}

-- The number, below a limit, of at least one digit.
unfoldable pub numeral_of : ℕ → Octets → Option ℕ
numeral_of limit word =
    if nat_lt 0 (length word) && (all_ascii_digits word && nat_lt (digits_value 10 word) limit)
    then Some (digits_value 10 word) else None
