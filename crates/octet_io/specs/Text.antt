-- Bytes of a file that are text.
use Rattle.std.specs.Prelude.{if◌then◌else◌, Result, Err}
use Rattle.std.specs.Str.{is_utf8}
use Rattle.octet_io.specs.Number.{Octets}

-- The result of a reader of text; bytes that are not UTF-8 are a fault.
unfoldable pub as_text : {A E : Type 0} → (Octets → Result A E) → E → Octets → Result A E
as_text read fault octets = if is_utf8 octets then read octets else Err fault
