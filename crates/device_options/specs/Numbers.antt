-- The numbers among the options of `host` (this profile's own).
use Rattle.std.specs.Prelude.{ℕ, ◌*◌, ◌^◌, ◌&&◌, nat_lt, nat_le, if◌then◌else◌, Option, Some, None}
use Rattle.std.specs.Option.{option_map}
use Rattle.octet_io.specs.Missing.{◌>>=◌}
use Rattle.octet_io.specs.Number.{Octets}
use Rattle.text_words.specs.Numeral.{numeral_of}
use Rattle.host_api.specs.declared.TheConstants.{MAX_SLOTS}
use Rattle.device_options.specs.declared.numbers.TheConstants.{CAPTURE_SIZE, SLOTS}

-- A decimal number from 1 to a largest one.
abbrev pub number_up_to : ℕ → Octets → Option ℕ
number_up_to most word =
    numeral_of (2 ^ 64) word
    >>= (λ number. if nat_lt 0 number && nat_le number most then Some number else None)

-- A time limit, written in seconds, is a number of milliseconds. Without the option there is none.
abbrev pub limit_of : Option Octets → Option (Option ℕ)
limit_of None = Some None
limit_of (Some word) =
    option_map (λ seconds. Some (seconds * 1000)) (number_up_to 4294967295 word)

-- The number of slots.
abbrev pub slots_of : Option Octets → Option ℕ
slots_of None = Some SLOTS
slots_of (Some word) = number_up_to MAX_SLOTS word

-- The largest size of a capture, in octets.
abbrev pub size_of : Option Octets → Option ℕ
size_of None = Some CAPTURE_SIZE
size_of (Some word) = number_up_to 18446744073709551615 word
