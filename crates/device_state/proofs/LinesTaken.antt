-- The lines of a state are read as its parts.
use Rattle.std.proofs.Common.{◌≡◌, ℕ, ◌+◌, false, if◌then◌else◌, List, [], ◌∷◌, ◌++◌, map, Option, sym, ap, subst, ◌∙◌, append_assoc}
use Rattle.std.specs.Prelude.{Bool, Result, Ok}
use Rattle.std.specs.List.{All, flat_map, join_with_byte}
use Rattle.std.specs.Str.{bytes_eq}
use Rattle.std.proofs.lemmas.List.{append-nil}
use Rattle.std.proofs.lemmas.List.Elements.{All-head, All-tail}
use Rattle.octet_io.specs.Number.{Octets}
use Rattle.toml_schema.specs.Reading.{◌>>=◌, require}
use Rattle.gatt_subs.specs.Rows.{Subscriptions, subscriptions_read}
use Rattle.gatt_subs.specs.declared.rows_fault.RowsFault.{RowsFault}
use Rattle.device_state.specs.Reading.{LinesRead, nothing_read, rows_or_fault, state_from}
use Rattle.device_state.specs.SavedState.{SavedState}
use Rattle.saved_values.specs.SavedValue.{Saved, IsSavedValue}
use Rattle.saved_values.specs.ValuesText.{line_of}
use Rattle.device_state.specs.StateText.{bar, first_line, subscriptions_heading, table_heading, values_heading}
use Rattle.device_state.specs.declared.reading.Next.{Next}
use Rattle.device_state.specs.declared.reading.Next.TheVariants as next
use Rattle.device_state.specs.declared.state_fault.StateFault.{StateFault}
use Rattle.device_state.specs.declared.state_fault.StateFault.TheVariants.{BadValue}
use Rattle.saved_values.proofs.ValuesBack.{value_back, value_words}

-- what was read so far, and the state that is read
abbrev reading : Next → Octets → Octets → ℕ → List Saved → LinesRead
reading next table_text rows_text heading values =
    record { next = next; table_text = table_text; rows_text = rows_text; heading = heading; values = values }

abbrev pub the_state : Octets → Subscriptions → List Saved → Result SavedState StateFault
the_state table_text rows values = Ok (record { table_text = table_text; rows = rows; values = values })

values_taken : (number heading : ℕ) (table_text rows_text : Octets) (rows : Subscriptions) (seen values : List Saved) → subscriptions_read rows_text ≡ Ok rows
    → All IsSavedValue values → state_from number (reading next.Values table_text rows_text heading seen) (map value_words values)
    ≡ the_state table_text rows (seen ++ values)
values_taken number heading table_text rows_text rows seen [] is good =
    ap (λ (read : Result Subscriptions RowsFault). rows_or_fault heading read >>= (λ (rows : Subscriptions). the_state table_text rows seen)) is
    ∙ ap (the_state table_text rows) (sym (append-nil seen))
values_taken number heading table_text rows_text rows seen (value ∷ values) is good =
    ap (λ (read : Option Saved).
    (require read (BadValue number) >>= (λ (value : Saved). Ok (reading next.Values table_text rows_text heading (seen ++ value ∷ [])))) >>=
    (λ (read : LinesRead). state_from (number + 1) read (map value_words values)))
    (value_back value (All-head IsSavedValue value values good))
    ∙ values_taken (number + 1) heading table_text rows_text rows (seen ++ value ∷ []) values is (All-tail IsSavedValue value values good)
    ∙ ap (the_state table_text rows) (append_assoc seen (value ∷ []) values)

-- a line that is not the heading of the values
abbrev pub IsOther : Octets → Type 0
IsOther line = bytes_eq line values_heading ≡ false

one_more : (before line rest : Octets) → ((before ++ line) ++ 10 ∷ []) ++ rest ≡ before ++ ((line ++ 10 ∷ []) ++ rest)
one_more before line rest =
    append_assoc (before ++ line) (10 ∷ []) rest ∙ append_assoc before line (10 ∷ rest)
    ∙ ap (λ (behind : Octets). before ++ behind) (sym (append_assoc line (10 ∷ []) rest))

abbrev pub behind_rows : List Octets → List Saved → List Octets
behind_rows lines values = lines ++ values_heading ∷ map value_words values

rows_taken : (number heading : ℕ) (table_text rows_text : Octets) (rows : Subscriptions) (lines : List Octets) (values : List Saved) → All IsOther lines
    → subscriptions_read (rows_text ++ flat_map line_of lines) ≡ Ok rows → All IsSavedValue values
    → state_from number (reading next.Subscriptions table_text rows_text heading []) (behind_rows lines values) ≡ the_state table_text rows values
rows_taken number heading table_text rows_text rows [] values other is good =
    values_taken (number + 1) heading table_text rows_text rows [] values
    (subst (λ (text : Octets). subscriptions_read text ≡ Ok rows) (append-nil rows_text) is) good
rows_taken number heading table_text rows_text rows (line ∷ lines) values other is good =
    ap (λ (same : Bool).
    (if same then Ok (reading next.Values table_text rows_text heading [])
    else Ok (reading next.Subscriptions table_text ((rows_text ++ line) ++ 10 ∷ []) heading [])) >>=
    (λ (read : LinesRead). state_from (number + 1) read (behind_rows lines values)))
    (All-head IsOther line lines other)
    ∙ rows_taken (number + 1) heading table_text ((rows_text ++ line) ++ 10 ∷ []) rows lines values (All-tail IsOther line lines other)
    (subst (λ (text : Octets). subscriptions_read text ≡ Ok rows) (sym (one_more rows_text line (flat_map line_of lines))) is) good

-- a piece of the table text behind its bar, and behind its line feed
abbrev pub barred : Octets → Octets
barred piece = bar ∷ piece

abbrev fed : Octets → Octets
fed piece = 10 ∷ piece

abbrev pub behind_table : List Octets → List Octets → List Saved → List Octets
behind_table pieces lines values = map barred pieces ++ subscriptions_heading ∷ behind_rows lines values

table_taken : (number heading : ℕ) (table_text : Octets) (rows : Subscriptions) (pieces lines : List Octets) (values : List Saved) → All IsOther lines
    → subscriptions_read (flat_map line_of lines) ≡ Ok rows → All IsSavedValue values
    → state_from number (reading next.Table table_text [] heading []) (behind_table pieces lines values)
    ≡ the_state (table_text ++ flat_map fed pieces) rows values
table_taken number heading table_text rows [] lines values other is good =
    rows_taken (number + 1) number table_text [] rows lines values other is good
    ∙ ap (λ (text : Octets). the_state text rows values) (sym (append-nil table_text))
table_taken number heading table_text rows (piece ∷ pieces) lines values other is good =
    table_taken (number + 1) heading ((table_text ++ 10 ∷ []) ++ piece) rows pieces lines values other is good
    ∙ ap (λ (text : Octets). the_state text rows values)
    (append_assoc (table_text ++ 10 ∷ []) piece (flat_map fed pieces) ∙ append_assoc table_text (10 ∷ []) (piece ++ flat_map fed pieces))

joined : (piece : Octets) (pieces : List Octets) → piece ++ flat_map fed pieces ≡ join_with_byte 10 (piece ∷ pieces)
joined piece [] = append-nil piece
joined piece (next ∷ pieces) = ap (λ (rest : Octets). piece ++ 10 ∷ rest) (joined next pieces)

-- all lines: the first one, and the sections behind their headings
abbrev pub all_lines : List Octets → List Octets → List Saved → List Octets
all_lines pieces lines values = first_line ∷ table_heading ∷ behind_table pieces lines values

pub lines_taken : (rows : Subscriptions) (piece : Octets) (pieces lines : List Octets) (values : List Saved) → All IsOther lines
    → subscriptions_read (flat_map line_of lines) ≡ Ok rows → All IsSavedValue values
    → state_from 1 nothing_read (all_lines (piece ∷ pieces) lines values) ≡ the_state (join_with_byte 10 (piece ∷ pieces)) rows values
lines_taken rows piece pieces lines values other is good =
    table_taken 4 0 piece rows pieces lines values other is good
    ∙ ap (λ (text : Octets). the_state text rows values) (joined piece pieces)
