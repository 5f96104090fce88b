-- Cells of a line (this profile's own).
use Rattle.std.specs.Prelude.{ℕ, ◌-◌, ◌++◌, length, replicate}
use Rattle.octet_io.specs.Number.{Octets}

-- Spaces pad a text to a width, after or before it.
abbrev pub blanks_for : ℕ → Octets → Octets
blanks_for width text = replicate (width - length text) 32

abbrev pub left : ℕ → Octets → Octets
left width text = text ++ blanks_for width text

abbrev pub right : ℕ → Octets → Octets
right width text = blanks_for width text ++ text
