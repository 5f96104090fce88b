-- The contents of a subscriptions file (this profile's own).
use Rattle.std.specs.Prelude.{ℕ, ◌+◌, Bool, not, nat_lt, List, [], ◌∷◌, length, Result, Ok}
use Rattle.std.specs.List.{list_any}
use Rattle.octet_io.specs.Number.{Octets}
use Rattle.text_words.specs.Split.{lines_of}
use Rattle.toml_schema.specs.Reading.{◌>>=◌, unless, require}
use Rattle.att_numbers.specs.Types.{Handle}
use Rattle.le_hci.specs.declared.peer.Peer.{Peer}
use Rattle.le_security.specs.Entry.{same_peer}
use Rattle.gatt_subs.specs.declared.row_entry.RowEntry.{RowEntry}
use Rattle.gatt_subs.specs.declared.rows_fault.RowsFault.{RowsFault}
use Rattle.gatt_subs.specs.declared.rows_fault.RowsFault.TheVariants.{BadLine, Twice, TooMany}
use Rattle.gatt_subs.specs.declared.rows_line.Line.{Line}
use Rattle.gatt_subs.specs.declared.rows_line.Line.TheVariants.{Entry, Owed}
use Rattle.gatt_subs.specs.declared.unfitted.TheConstants.{MAX_ENTRIES, MAX_OWED}
use Rattle.gatt_subs.specs.InOrder.{in_order}
use Rattle.gatt_subs.specs.RowEntry.{is_at, order_of, rank_of}
use Rattle.gatt_subs.specs.RowsLine.{rows_line_of}

-- The entries, and the peers with a pending Service Changed indication, both in file order.
pub record WrittenRows : Type 0 where
  pub entries : List RowEntry
  pub owed : List Peer

abbrev pub nothing_written : WrittenRows
nothing_written = record { entries = []; owed = [] }

abbrev pub has_row_entry : List RowEntry → Peer → Handle → Bool
has_row_entry entries peer handle = list_any (is_at peer handle) entries

abbrev pub has_peer : List Peer → Peer → Bool
has_peer peers peer = list_any (λ other. same_peer other peer) peers

abbrev pub rows_with_said : ℕ → WrittenRows → Line → Result WrittenRows RowsFault
rows_with_said number written (Entry entry) = do
  _ ← unless (not (has_row_entry written.entries entry.peer entry.handle)) (Twice number)
  _ ← unless (nat_lt (length written.entries) MAX_ENTRIES) TooMany
  Ok (record written { entries = in_order order_of entry written.entries })
rows_with_said number written (Owed peer) = do
  _ ← unless (not (has_peer written.owed peer)) (Twice number)
  _ ← unless (nat_lt (length written.owed) MAX_OWED) TooMany
  Ok (record written { owed = in_order rank_of peer written.owed })

-- A blank line adds nothing.
abbrev pub rows_with_line : ℕ → WrittenRows → Octets → Result WrittenRows RowsFault
rows_with_line number written [] = Ok written
rows_with_line number written (octet ∷ octets) = do
  said ← require (rows_line_of (octet ∷ octets)) (BadLine number)
  rows_with_said number written said

abbrev pub rows_with_lines : ℕ → WrittenRows → List Octets → Result WrittenRows RowsFault
rows_with_lines number written [] = Ok written
rows_with_lines number written (line ∷ lines) =
    rows_with_line number written line >>= (λ next. rows_with_lines (number + 1) next lines)

unfoldable pub rows_read : Octets → Result WrittenRows RowsFault
rows_read text = rows_with_lines 1 nothing_written (lines_of text)
