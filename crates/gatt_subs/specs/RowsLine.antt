-- The lines of a subscriptions file (this profile's own).
use Rattle.std.specs.Prelude.{ℕ, Bool, ◌==◌, ◌&&◌, nat_lt, nat_le, if◌then◌else◌, length, slice_index, codes, Option, Some, None}
use Rattle.std.specs.Option.{option_map}
use Rattle.std.specs.Str.{bytes_eq, all_ascii_digits}
use Rattle.std.specs.Str.Parse.{digits_value}
use Rattle.octet_io.specs.Missing.{◌>>=◌}
use Rattle.octet_io.specs.Number.{Octets}
use Rattle.text_words.specs.Split.{parts_of}
use Rattle.att_numbers.specs.Types.{Handle}
use Rattle.le_security.specs.Address.{peer_of}
use Rattle.gatt_subs.specs.declared.rows_line.Line.{Line}
use Rattle.gatt_subs.specs.declared.rows_line.Line.TheVariants.{Entry, Owed}

abbrev pub space : ℕ
space = 32

-- A handle is decimal digits without leading zeros.
abbrev pub is_from_one : ℕ → Bool
is_from_one digit = nat_le 49 digit && nat_le digit 57

unfoldable pub handle_of_row : Octets → Option Handle
handle_of_row word =
    if is_from_one (slice_index word 0)
    && (all_ascii_digits word && nat_lt (digits_value 10 word) 65536)
    then Some (digits_value 10 word) else None

-- Bits are one nonzero digit.
unfoldable pub bits_of : Octets → Option ℕ
bits_of word =
    if bytes_eq word (codes "1") then Some 1
    else if bytes_eq word (codes "2") then Some 2
    else if bytes_eq word (codes "3") then Some 3
    else None

-- An entry is `kind address handle value`.
abbrev pub entry_of : Octets → Octets → Octets → Octets → Option Line
entry_of kind address handle value = do
  peer ← peer_of kind address
  handle ← handle_of_row handle
  bits ← bits_of value
  Some (Entry (record { peer = peer; handle = handle; bits = bits }))

-- A pending indication is `! kind address`; anything longer is an entry.
abbrev pub line_behind : Octets → Octets → Octets → Option (Octets × Octets) → Option Line
line_behind mark kind address None =
    if bytes_eq mark (codes "!") then option_map Owed (peer_of kind address) else None
line_behind kind address rest (Some last) = entry_of kind address last.0 last.1

unfoldable pub rows_line_of : Octets → Option Line
rows_line_of line = do
  first ← parts_of line
  second ← parts_of first.1
  line_behind first.0 second.0 second.1 (parts_of second.1)
