-- The lines of a script, if printed before their outcomes (this profile's own).
use Rattle.std.specs.Prelude.{◌==◌, ◌++◌, Bool, false, not, if◌then◌else◌, List, [], ◌∷◌, Option}
use Rattle.std.specs.Borrow.{Bor}
use Rattle.std.specs.Option.{option_map_or}
use Rattle.octet_io.specs.Number.{Octets}
use Rattle.scripts.specs.Script.{number_sign}
use Rattle.text_words.specs.Split.{lines_of}
use Rattle.scripts.specs.declared.act.Act.{Act}
use Rattle.gatt_commands.specs.declared.script_text.Shown as written
use Rattle.gatt_commands.specs.Lines.{line_feed}

-- A blank line or a comment says nothing.
abbrev pub says : Octets → Bool
says [] = false
says (octet ∷ octets) = not (octet == number_sign)

-- The lines up to the first that says something.
abbrev pub echo_of : List Octets → Octets
echo_of [] = []
echo_of (line ∷ lines) = (line ++ line_feed) ++ (if says line then [] else echo_of lines)

abbrev pub lines_behind : List Octets → List Octets
lines_behind [] = []
lines_behind (line ∷ lines) = if says line then lines else lines_behind lines

abbrev pub lines_left : Option (Bor Octets) → List Octets
lines_left text = option_map_or (λ text. lines_of text.now) text []

abbrev pub lines_shown : Bool → Octets → List Octets
lines_shown shows text = if shows then lines_of text else []

-- The output besides the frames of clients: notices if requested, and the remaining script.
pub record Shown : Type 0 where
  pub notices : Bool
  pub lines : List Octets

abbrev pub shown_of : written.Shown → Shown
shown_of shown = record { notices = shown.notices; lines = lines_left shown.lines }

-- The output after one line, and after one line per act.
abbrev pub shown_behind : Shown → Shown
shown_behind shown = record shown { lines = lines_behind shown.lines }

abbrev pub shown_after : List Act → Shown → Shown
shown_after [] shown = shown
shown_after (act ∷ acts) shown = shown_after acts (shown_behind shown)
