-- Scripts (this profile's own).
use Rattle.std.specs.Prelude.{ℕ, ◌+◌, ◌==◌, Bool, nat_lt, if◌then◌else◌, List, [], ◌∷◌, ◌++◌, length, unwrap_or, Result, Ok}
use Rattle.std.specs.List.{position}
use Rattle.std.specs.Str.{bytes_eq}
use Rattle.octet_io.specs.Number.{Octets}
use Rattle.text_words.specs.Split.{lines_of}
use Rattle.toml_schema.specs.Reading.{◌>>=◌, unless, require}
use Rattle.scripts.specs.declared.act.Act.{Act}
use Rattle.scripts.specs.declared.act.Act.TheVariants as act
use Rattle.scripts.specs.declared.line.Line.{Line}
use Rattle.scripts.specs.declared.line.Line.TheVariants as line
use Rattle.scripts.specs.declared.script.TheConstants.{MAX_PHONES}
use Rattle.scripts.specs.declared.script_fault.ScriptFault.{ScriptFault}
use Rattle.scripts.specs.declared.script_fault.ScriptFault.TheVariants.{BadLine}
use Rattle.scripts.specs.Line.{line_of}

-- The acts in order, and the clients' names by number.
pub record Acts : Type 0 where
  pub acts : List Act
  pub names : List Octets

abbrev pub no_acts : Acts
no_acts = record { acts = []; names = [] }

-- The number of a name: its place, or the next number if it is new.
abbrev pub phone_number_in : List Octets → Octets → ℕ
phone_number_in names name = unwrap_or (position (bytes_eq name) names) (length names)

abbrev pub with_name : List Octets → Octets → List Octets
with_name names name = if phone_number_in names name == length names then names ++ name ∷ []
    else names

abbrev pub with_act : Acts → Act → Acts
with_act script act = record script { acts = script.acts ++ act ∷ [] }

-- A ninth name is a fault of its line.
abbrev pub with_act_of : ℕ → Acts → Octets → (ℕ → Act) → Result Acts ScriptFault
with_act_of number script name act = do
  _ ← unless (nat_lt (phone_number_in script.names name) MAX_PHONES) (BadLine number)
  Ok (record {
    acts = script.acts ++ act (phone_number_in script.names name) ∷ [];
    names = with_name script.names name;
  })

-- A replacement without another table is a fault of its line.
abbrev pub script_with_said : Bool → ℕ → Acts → Line → Result Acts ScriptFault
script_with_said has_next number script (line.Phone name does) =
    with_act_of number script name (λ phone. act.Phone phone does)
script_with_said has_next number script (line.Authorize name until) =
    with_act_of number script name (λ phone. act.Authorize phone until)
script_with_said has_next number script (line.Update handle value) =
    Ok (with_act script (act.Update handle value))
script_with_said has_next number script (line.Tick time) = Ok (with_act script (act.Tick time))
script_with_said has_next number script line.Replace = do
  _ ← unless has_next (BadLine number)
  Ok (with_act script act.Replace)

-- A comment begins with this.
abbrev pub number_sign : ℕ
number_sign = 35

-- Blank lines and comments add nothing.
abbrev pub script_with_line : Bool → ℕ → Acts → Octets → Result Acts ScriptFault
script_with_line has_next number script [] = Ok script
script_with_line has_next number script (octet ∷ octets) =
    if octet == number_sign then Ok script
    else (require (line_of (octet ∷ octets)) (BadLine number) >>=
    (λ said. script_with_said has_next number script said))

-- Lines, counted from `number`, after others.
abbrev pub script_with_lines : Bool → ℕ → Acts → List Octets → Result Acts ScriptFault
script_with_lines has_next number script [] = Ok script
script_with_lines has_next number script (line ∷ lines) =
    script_with_line has_next number script line >>=
    (λ next. script_with_lines has_next (number + 1) next lines)

-- A script, or its first line with a fault.
unfoldable pub script_of : Bool → Octets → Result Acts ScriptFault
script_of has_next text = script_with_lines has_next 1 no_acts (lines_of text)
