-- The line of a saved value (this profile's own).
use Rattle.std.specs.Prelude.{◌<◌, ◌≤◌, ◌++◌, ◌^◌, [], ◌∷◌, length, Option, Some}
use Rattle.std.specs.Fmt.{decimal}
use Rattle.std.specs.List.{All}
use Rattle.octet_io.specs.Missing.{◌>>=◌}
use Rattle.octet_io.specs.Number.{Octets}
use Rattle.octet_io.specs.declared.pdu.TheConstants.{MAX_PDU}
use Rattle.att_numbers.specs.Types.{Handle, AttributeType}
use Rattle.att_table.specs.file.TypeText.{type_named}
use Rattle.text_words.specs.Split.{parts_of}
use Rattle.app_lines.specs.NoticeText.{value_text}
use Rattle.text_words.specs.Numeral.{numeral_of}
use Rattle.text_words.specs.Payload.{payload_of}
use Rattle.saved_values.specs.TypeText.{type_text}

pub record Saved : Type 0 where
  pub handle : Handle
  pub kind : AttributeType
  pub octets : Octets

-- The numbers are those of a `u16`, a `u128` and octets.
pub record IsTyped (value : Saved) : Type 0 where
  pub handle : value.handle < 2 ^ 16
  pub kind : value.kind < 2 ^ 128
  pub octets : All (λ octet. octet < 256) value.octets

-- A line can write this value.
pub record IsSavedValue (value : Saved) : Type 0 where
  pub handle : value.handle < 2 ^ 16
  pub kind : value.kind < 2 ^ 128
  pub few : length value.octets ≤ MAX_PDU
  pub octets : All (λ octet. octet < 256) value.octets

-- The line is `HANDLE TYPE OCTETS`: a decimal handle, and octets in hexadecimal, or a hyphen for
-- none.
unfoldable pub value_line : Saved → Octets
value_line value =
    decimal value.handle ++ 32 ∷ type_text value.kind ++ 32 ∷ value_text value.octets ++ 10 ∷ []

abbrev pub value_of_words : Octets → Octets → Octets → Option Saved
value_of_words handle kind octets = do
  handle ← numeral_of (2 ^ 16) handle
  kind ← type_named kind
  octets ← payload_of octets
  Some (record { handle = handle; kind = kind; octets = octets })

-- The value of a line without its line feed.
unfoldable pub value_of_line : Octets → Option Saved
value_of_line line = do
  first ← parts_of line
  second ← parts_of first.1
  value_of_words first.0 second.0 second.1
