-- The state that lines contain (this profile's own).
use Rattle.std.specs.Prelude.{ℕ, ◌+◌, ◌++◌, if◌then◌else◌, List, [], ◌∷◌, Result, Ok, Err}
use Rattle.std.specs.Str.{bytes_eq}
use Rattle.octet_io.specs.Number.{Octets}
use Rattle.toml_schema.specs.Reading.{◌>>=◌, require}
use Rattle.gatt_subs.specs.Rows.{Subscriptions, subscriptions_read}
use Rattle.gatt_subs.specs.declared.rows_fault.RowsFault.{RowsFault}
use Rattle.device_state.specs.SavedState.{SavedState}
use Rattle.saved_values.specs.SavedValue.{Saved, value_of_line}
use Rattle.text_words.specs.Split.{lines_of}
use Rattle.device_state.specs.StateText.{first_line, piece_of, subscriptions_heading, table_heading, values_heading}
use Rattle.device_state.specs.declared.reading.Next.{Next}
use Rattle.device_state.specs.declared.reading.Next.TheVariants as next
use Rattle.device_state.specs.declared.state_fault.StateFault.{StateFault}
use Rattle.device_state.specs.declared.state_fault.StateFault.TheVariants.{OtherFormat, BadLine, Subscriptions as InSubscriptions, BadValue}

-- The kind of the next line, and the parts read so far; `heading` is the line of the subscriptions'
-- heading.
pub record LinesRead : Type 0 where
  pub next : Next
  pub table_text : Octets
  pub rows_text : Octets
  pub heading : ℕ
  pub values : List Saved

abbrev pub nothing_read : LinesRead
nothing_read =
    record { next = next.First; table_text = []; rows_text = []; heading = 0; values = [] }

abbrev pub with_piece : ℕ → LinesRead → Octets → Result LinesRead StateFault
with_piece number read line = do
  piece ← require (piece_of line) (BadLine number)
  Ok (record read { next = next.Table; table_text = read.table_text ++ piece })

-- Each line adds to the state by its kind.
abbrev pub line_in : Next → ℕ → LinesRead → Octets → Result LinesRead StateFault
line_in next.First number read line =
    if bytes_eq line first_line then Ok (record read { next = next.Heading }) else Err OtherFormat
line_in next.Heading number read line =
    if bytes_eq line table_heading then Ok (record read { next = next.Opening })
    else Err (BadLine number)
line_in next.Opening number read line = with_piece number read line
line_in next.Table number read line =
    if bytes_eq line subscriptions_heading
    then Ok (record read { next = next.Subscriptions; heading = number })
    else with_piece number (record read { table_text = read.table_text ++ 10 ∷ [] }) line
line_in next.Subscriptions number read line =
    if bytes_eq line values_heading then Ok (record read { next = next.Values })
    else Ok (record read { rows_text = read.rows_text ++ line ++ 10 ∷ [] })
line_in next.Values number read line = do
  value ← require (value_of_line line) (BadValue number)
  Ok (record read { values = read.values ++ value ∷ [] })

abbrev pub with_line : ℕ → LinesRead → Octets → Result LinesRead StateFault
with_line number read line = line_in read.next number read line

abbrev pub rows_or_fault : ℕ → Result Subscriptions RowsFault → Result Subscriptions StateFault
rows_or_fault heading (Ok rows) = Ok rows
rows_or_fault heading (Err fault) = Err (InSubscriptions heading fault)

abbrev pub rows_in : ℕ → Octets → Result Subscriptions StateFault
rows_in heading text = rows_or_fault heading (subscriptions_read text)

-- The state is complete once the heading of its values is read.
abbrev pub finished_in : Next → ℕ → LinesRead → Result SavedState StateFault
finished_in next.Values number read = do
  rows ← rows_in read.heading read.rows_text
  Ok (record { table_text = read.table_text; rows = rows; values = read.values })
finished_in _ number read = Err (BadLine number)

abbrev pub finished : ℕ → LinesRead → Result SavedState StateFault
finished number read = finished_in read.next number read

-- The state after lines that count from a number.
abbrev pub state_from : ℕ → LinesRead → List Octets → Result SavedState StateFault
state_from number read [] = finished number read
state_from number read (line ∷ lines) =
    with_line number read line >>= (λ next. state_from (number + 1) next lines)

-- The text has no line feed at its end.
unfoldable pub state_of : Octets → Result SavedState StateFault
state_of text = state_from 1 nothing_read (lines_of text)
