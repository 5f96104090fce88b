-- Lines with words before their ends, as texts of bytes (this profile's own).
use Rattle.std.specs.Prelude.{◌≡◌, ◌⊎◌, ◌==◌, ◌&&◌, ℕ, Bool, true, false, not, Option, [], ◌∷◌, ◌++◌}
use Rattle.std.specs.List.{list_all}
use Rattle.std.specs.Io.KnownBytes.{Appends}
use Rattle.octet_io.specs.Number.{Octets}
use Rattle.octet_io.specs.Stream.{WritesFront}

-- The bytes have no line feed.
abbrev pub is_in_one_line : Octets → Bool
is_in_one_line octets = list_all (λ octet. not (octet == 10)) octets

-- The text is two spaces and the words of one line.
abbrev pub has_words : Octets → Bool
has_words (first ∷ second ∷ words) =
    (first == 32) && ((second == 32) && is_in_one_line words)
has_words _ = false

-- A text before a byte: words before the end of a line, or nothing.
abbrev pub IsBefore : ℕ → Octets → Type 0
IsBefore octet text = (text ≡ []) ⊎ ((octet ≡ 10) × (has_words text ≡ true))

-- The output is the input with words before ends of lines.
unfoldable pub IsWorded : Octets → Octets → Type 0
IsWorded [] output = output ≡ []
IsWorded (octet ∷ input) output =
    (text : Octets) × (rest : Octets)
    × ((output ≡ text ++ octet ∷ rest) × (IsBefore octet text × IsWorded input rest))

-- These bytes are written, with words before the ends of their lines.
pub record AddsWords (input : Octets) (held holds : Option Octets) : Type 0 where
  pub output : Octets
  pub worded : IsWorded input output
  pub appended : Appends held holds output

-- Only a prefix of that is written.
pub record AddsPartOf (input : Octets) (held holds : Option Octets) : Type 0 where
  pub output : Octets
  pub worded : IsWorded input output
  pub front : WritesFront output held holds

-- Only the words of a line are written, or nothing.
pub record AddsText (held holds : Option Octets) : Type 0 where
  pub text : Octets
  pub words : IsBefore 10 text
  pub appended : Appends held holds text

-- All of an input is written with words, also with those of a last line without an end.
pub record AddsWordsOf (input : Octets) (held holds : Option Octets) : Type 0 where
  pub output : Octets
  pub text : Octets
  pub worded : IsWorded input output
  pub words : IsBefore 10 text
  pub appended : Appends held holds (output ++ text)
