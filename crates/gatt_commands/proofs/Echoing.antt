-- The lines of a script are printed one after the other.
use Rattle.std.proofs.Common.{◌≡◌, ℕ, ◌+◌, ◌<◌, ◌==◌, Bool, true, false, List, [], ◌∷◌, ◌++◌, length, take, drop, Option, Some, None, refl, sym, ap, subst, ◌∙◌, arith}
use Rattle.std.specs.Prelude.{◌≢◌, if◌then◌else◌, slice_index}
use Rattle.std.specs.List.{position_or_len, slice_split}
use Rattle.memchr.specs.Find.{IsFirstByte, is_byte}
use Rattle.text_words.specs.Split.{lines_of}
use Rattle.gatt_commands.proofs.Telling.{any_default}
use Rattle.std.specs.Io.KnownBytes.{Appends}
use Rattle.std.proofs.lemmas.List.Splits.{slice_split_first, slice_split_none}
use Rattle.std.proofs.lemmas.List.Sums.{position_or_len_is}
use Rattle.octet_io.specs.Number.{Octets}
use Rattle.octet_io.specs.Stream.{WritesFront}
use Rattle.shell_files.proofs.Appending.{appends-append}
use Rattle.shell_files.proofs.Fronts.{front_then}
use Rattle.gatt_commands.specs.Echo.{lines_behind, echo_of, says}
use Rattle.gatt_commands.specs.Lines.{line_feed}

abbrev pub is_line_feed : ℕ → Bool
is_line_feed octet = octet == 10

not-so : (test : Bool) → ¬ (test ≡ true) → test ≡ false
not-so true unless = absurd (unless refl)
not-so false unless = refl

-- a text with a line feed is its first line, and the lines behind that; one without is one line
pub first_of_lines : (text : Octets) (end : ℕ) → IsFirstByte (is_byte 10) text (Some end) → lines_of text ≡ take end text
    ∷ lines_of (drop (end + 1) text)
first_of_lines text end found =
    let place : position_or_len is_line_feed text ≡ end =
    position_or_len_is is_line_feed text end 0 (omega (arith, found.0.high))
    (λ (k : ℕ) (below : k < end). not-so (is_line_feed (slice_index text k)) (found.0.before k (omega arith) below)) (λ below. found.1) in
    slice_split_first is_line_feed text 0 (subst (λ (place : ℕ). place < length text) (sym place) found.0.high)
    ∙ ap (λ (place : ℕ). take place text ∷ slice_split is_line_feed (drop (place + 1) text)) place

pub only_line : (text : Octets) → IsFirstByte (is_byte 10) text None → lines_of text ≡ text ∷ []
only_line text nowhere = slice_split_none is_line_feed text
    (λ (k : ℕ) (default : ℕ) (below : k < length text).
    ap is_line_feed (any_default text k default 0 below) ∙ not-so (is_line_feed (slice_index text k)) (nowhere k (omega arith) below))

-- what is echoed of a line that says nothing
echo-unsaid : (line : Octets) (lines : List Octets) → says line ≡ false → echo_of (line ∷ lines) ≡ (line ++ line_feed) ++ echo_of lines
echo-unsaid line lines silent = ap (λ (said : Bool). (line ++ line_feed) ++ (if said then [] else echo_of lines)) silent

behind-unsaid : (line : Octets) (lines : List Octets) → says line ≡ false → lines_behind (line ∷ lines) ≡ lines_behind lines
behind-unsaid line lines silent = ap (λ (said : Bool). if said then lines else lines_behind lines) silent

-- where there is a line there are lines
pub has_line : (lines : List Octets) (line : Octets) (rest : List Octets) → lines ≡ line ∷ rest → lines ≢ []
has_line lines line rest is none = cc (is, none)

-- of some lines these are left: whoever echoes them has echoed all
pub record HasEchoed (lines left : List Octets) (held holds : Option Octets) : Type 0 where
  pub all : (last : Option Octets) → Appends holds last (echo_of left) → Appends held last (echo_of lines)
  pub front : (last : Option Octets) → WritesFront (echo_of left) holds last → WritesFront (echo_of lines) held last
  pub behind_them : lines_behind left ≡ lines_behind lines

module _ (lines left : List Octets) (line : Octets) (rest : List Octets) (held between holds : Option Octets) (so_far : HasEchoed lines left held between)
    (is : left ≡ line ∷ rest) where
  first-of : HasEchoed lines (line ∷ rest) held between
  first-of = subst (λ (left : List Octets). HasEchoed lines left held between) is so_far

  pub echo_more : says line ≡ false → Appends between holds (line ++ line_feed) → HasEchoed lines rest held holds
  echo_more silent appended = record {
    all = λ last appends. first-of.all last
        (subst (λ (octets : Octets). Appends between last octets) (sym (echo-unsaid line rest silent))
        (appends-append between holds last (line ++ line_feed) (echo_of rest) appended appends));
    front = λ last front. first-of.front last
        (subst (λ (octets : Octets). WritesFront octets between last) (sym (echo-unsaid line rest silent))
        (front_then (line ++ line_feed) (echo_of rest) between holds last appended front));
    behind_them = sym (behind-unsaid line rest silent) ∙ first-of.behind_them;
  }
