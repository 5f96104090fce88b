-- The state of a text (this profile's own).
use Rattle.std.specs.Prelude.{◌+◌, ◌-◌, ◌==◌, ◌&&◌, Bool, nat_le, if◌then◌else◌, [], ◌∷◌, length, take, drop, codes, Result, Ok, Err}
use Rattle.std.specs.List.{starts_with, ends_with}
use Rattle.std.specs.Str.{bytes_eq, is_utf8}
use Rattle.octet_io.specs.Number.{Octets}
use Rattle.toml_schema.specs.Reading.{◌>>=◌, unless}
use Rattle.device_state.specs.Reading.{state_of}
use Rattle.device_state.specs.SavedState.{SavedState}
use Rattle.device_state.specs.StateText.{checksum}
use Rattle.device_state.specs.declared.state_fault.StateFault.{StateFault}
use Rattle.device_state.specs.declared.state_fault.StateFault.TheVariants.{Unended, OtherChecksum, NotText}

-- The last 72 octets are a line feed, `[end] `, 64 octets and a line feed.
abbrev pub end_of : Octets → Octets
end_of text = drop (length text - 72) text

abbrev pub is_end : Octets → Bool
is_end octets = starts_with ◌==◌ octets (10 ∷ codes "[end] ") && ends_with ◌==◌ octets (10 ∷ [])

abbrev pub is_ended : Octets → Bool
is_ended text = nat_le 72 (length text) && is_end (end_of text)

abbrev pub before_end : Octets → Octets
before_end text = take (length text - 72 + 1) text

abbrev pub checksum_in : Octets → Octets
checksum_in text = take 64 (drop 7 (end_of text))

-- The lines before the last one, without the final line feed, if their checksum matches.
abbrev pub lines_checked : Octets → Result Octets StateFault
lines_checked text = do
  _ ← unless (is_ended text) Unended
  _ ← unless (bytes_eq (checksum_in text) (checksum (before_end text))) OtherChecksum
  Ok (take (length text - 72) text)

abbrev pub state_of_lines : Octets → Result SavedState StateFault
state_of_lines lines = if is_utf8 lines then state_of lines else Err NotText

abbrev pub state_read : Octets → Result SavedState StateFault
state_read text = lines_checked text >>= state_of_lines
