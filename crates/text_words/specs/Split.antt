-- The lines of a text and the words of a line (this profile's own).
use Rattle.std.specs.Prelude.{◌==◌, nat_lt, if◌then◌else◌, List, length, Option, Some, None}
use Rattle.std.specs.Borrow.{Bor}
use Rattle.std.specs.List.{position_or_len, before_first, after_first, slice_split}
use Rattle.octet_io.specs.Number.{Octets}

-- Line feeds separate lines; the text after the last is also a line, possibly blank.
abbrev pub lines_of : Octets → List Octets
lines_of text = slice_split (λ octet. octet == 10) text

-- Single spaces separate the words of a line.
abbrev pub words_of : Octets → List Octets
words_of line = slice_split (λ octet. octet == 32) line

-- The text before the first space and the text after it, if there is a space.
unfoldable pub parts_of : Octets → Option (Octets × Octets)
parts_of text =
    if nat_lt (position_or_len (λ octet. octet == 32) text) (length text)
    then Some (before_first (λ octet. octet == 32) text, after_first (λ octet. octet == 32) text)
    else None

abbrev pub parts_view : Bor Octets × Bor Octets → Octets × Octets
parts_view parts = (parts.0.now, parts.1.now)
