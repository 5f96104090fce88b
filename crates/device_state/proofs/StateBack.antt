-- The text of a state is read as what it was written of.
use Rattle.std.proofs.Common.{◌≡◌, ℕ, ◌+◌, ◌-◌, ◌<◌, ◌≤◌, ◌==◌, ◌&&◌, Bool, true, false, not, nat_eq, nat_le, if◌then◌else◌, List, [], ◌∷◌, ◌++◌, length, take, drop, map, refl, sym, ap, ◌∙◌, append_assoc, arith}
use Rattle.std.specs.Prelude.{codes, Result, Ok, Err}
use Rattle.std.specs.List.{All, flat_map, join_with_byte, list_all, onto_first}
use Rattle.std.specs.Cmp.Lexicographic.{pointwise}
use Rattle.std.specs.Str.{bytes_eq, IsUtf8}
use Rattle.std.proofs.lemmas.Str.{is_utf8-from_IsUtf8}
use Rattle.std.proofs.lemmas.Bool.Decides.{nat_tests}
use Rattle.std.proofs.lemmas.List.{append-nil, append_cancel_right, drop_at, length-append, take_at}
use Rattle.std.proofs.lemmas.List.Concat.{flat_map-append}
use Rattle.std.proofs.lemmas.List.Elements.{All-append, All-nil, All-cons, All-head, All-tail}
use Rattle.std.proofs.lemmas.Fmt.{decimal_digit}
use Rattle.std.proofs.lemmas.List.Sums.{AllPass-from_list_all}
use Rattle.std.proofs.lemmas.List.Splits.{join_with_byte-slice_split, length-slice_split}
use Rattle.std.proofs.lemmas.Slice.Eq.{bytes_eq-Decides}
use Rattle.hex.specs.Hex.{lower_digits}
use Rattle.hex.proofs.HexLemmas.{length-encode_with}
use Rattle.sha2.specs.Sha256.{sha256}
use Rattle.sha2.proofs.Facts256.{length-sha256}
use Rattle.octet_io.specs.Number.{Octets}
use Rattle.toml_schema.specs.Reading.{◌>>=◌, unless}
use Rattle.le_hci.specs.declared.peer.Peer.{Peer}
use Rattle.gatt_subs.specs.ReadBack.{IsConfigured, IsNamed, IsOfAFile, written_by}
use Rattle.gatt_subs.specs.Rows.{Subscriptions, subscriptions_read, unfitted_rows}
use Rattle.gatt_subs.specs.RowsText.{configured, entry_line, owed_in, owed_line, rows_text}
use Rattle.gatt_subs.specs.Unfitted.{WrittenRows}
use Rattle.gatt_subs.specs.declared.row_entry.RowEntry.{RowEntry}
use Rattle.gatt_subs.specs.declared.rows_fault.RowsFault.{RowsFault}
use Rattle.gatt_subs.proofs.LinesBack.{HasNoFeed, entry_ended, entry_feedless, entry_words, owed_ended, owed_feedless, owed_words}
use Rattle.gatt_subs.proofs.ReadBack.{reads_back as rows_read_back}
use Rattle.device_state.specs.ReadBack.{ReadsBack}
use Rattle.device_state.specs.Reading.{nothing_read, state_from, state_of}
use Rattle.saved_values.specs.SavedValue.{Saved, value_line, IsSavedValue}
use Rattle.device_state.specs.State.{is_end, is_ended, end_of, before_end, checksum_in, lines_checked, state_of_lines, state_read}
use Rattle.saved_values.specs.ValuesText.{line_of, values_text}
use Rattle.text_words.specs.Split.{lines_of}
use Rattle.device_state.specs.StateText.{checksum, end_line, ended, first_line, lines_of_state, state_text, piece_line, subscriptions_heading, table_heading, table_lines, values_heading}
use Rattle.device_state.specs.declared.state_fault.StateFault.{StateFault}
use Rattle.device_state.specs.declared.state_fault.StateFault.TheVariants.{Unended, OtherChecksum, NotText}
use Rattle.device_state.proofs.LinesTaken.{IsOther, all_lines, behind_rows, behind_table, barred, lines_taken, the_state}
use Rattle.device_state.proofs.Utf8Lines.{barred_utf8, entry_utf8, heading_utf8, joined_utf8, owed_utf8, pieces_utf8, value_utf8}
use Rattle.saved_values.proofs.Restored.{divided}
use Rattle.saved_values.proofs.ValuesBack.{value_ended, value_feedless, value_words}

-- lines without the last line feed divide at the others
onto_more : (octet : ℕ) (pieces : List Octets) (last : Octets) → 0 < length pieces → onto_first octet (pieces ++ last ∷ []) ≡ onto_first octet pieces ++ last
    ∷ []
onto_more octet [] last some = absurd (omega (arith, some))
onto_more octet (piece ∷ pieces) last some = refl

last_feed : (text : Octets) → lines_of (text ++ 10 ∷ []) ≡ lines_of text ++ [] ∷ []
last_feed [] = refl
last_feed (octet ∷ text) = by (octet == 10) refl (last_feed text)
  where
    some : 0 < length (lines_of text)
    some = omega (arith, length-slice_split (λ (octet : ℕ). octet == 10) text)

    by : (is : Bool) → (octet == 10) ≡ is → lines_of (text ++ 10 ∷ []) ≡ lines_of text ++ [] ∷ []
        → (if is then [] ∷ lines_of (text ++ 10 ∷ []) else onto_first octet (lines_of (text ++ 10 ∷ [])))
        ≡ (if is then [] ∷ lines_of text else onto_first octet (lines_of text)) ++ [] ∷ []
    by true is rest = ap (λ (pieces : List Octets). [] ∷ pieces) rest
    by false is rest = ap (onto_first octet) rest ∙ onto_more octet (lines_of text) [] some

pieces_before : (text : Octets) (lines : List Octets) → All HasNoFeed lines → text ++ 10 ∷ [] ≡ flat_map line_of lines → lines_of text ≡ lines
pieces_before text lines feedless is =
    append_cancel_right (lines_of text) lines ([] ∷ []) (sym (last_feed text) ∙ ap lines_of is ∙ divided lines feedless)

-- the lines of subscriptions
row_lines : Subscriptions → List Octets
row_lines rows = map entry_words (configured rows) ++ map owed_words (owed_in rows)

module _ (X : Type 0) (words : X → Octets) (text : X → Octets) (ended : (x : X) → text x ≡ line_of (words x)) where
  lines_of_each : (xs : List X) → flat_map text xs ≡ flat_map line_of (map words xs)
  lines_of_each [] = refl
  lines_of_each (x ∷ xs) =
      ap (λ (first : Octets). first ++ flat_map text xs) (ended x) ∙ ap (λ (rest : Octets). line_of (words x) ++ rest) (lines_of_each xs)

rows_lines : (rows : Subscriptions) → rows_text rows ≡ flat_map line_of (row_lines rows)
unfolding rows_text row_lines
rows_lines rows =
    ap (λ (text : Octets). text ++ flat_map owed_line (owed_in rows)) (lines_of_each RowEntry entry_words entry_line entry_ended (configured rows))
    ∙ ap (λ (text : Octets). flat_map line_of (map entry_words (configured rows)) ++ text) (lines_of_each Peer owed_words owed_line owed_ended (owed_in rows))
    ∙ sym (flat_map-append line_of (map entry_words (configured rows)) (map owed_words (owed_in rows)))

-- no line has a line feed
all_of_each : {X Y : Type 0} (P : X → Type 0) (Q : Y → Type 0) (f : X → Y) → ((x : X) → P x → Q (f x)) → (xs : List X) → All P xs → All Q (map f xs)
all_of_each P Q f implies [] all = All-nil Q
all_of_each P Q f implies (x ∷ xs) all = All-cons Q (f x) (map f xs) (implies x (All-head P x xs all)) (all_of_each P Q f implies xs (All-tail P x xs all))

rows_feedless : (rows : Subscriptions) → IsOfAFile (written_by rows) → All HasNoFeed (row_lines rows)
unfolding row_lines
rows_feedless rows is =
    All-append HasNoFeed (map entry_words (configured rows)) (map owed_words (owed_in rows))
    (all_of_each IsConfigured HasNoFeed entry_words entry_feedless (configured rows) is.entries)
    (all_of_each IsNamed HasNoFeed owed_words owed_feedless (owed_in rows) is.owed)

onto_feedless : (octet : ℕ) (pieces : List Octets) → (octet == 10) ≡ false → All HasNoFeed pieces → All HasNoFeed (onto_first octet pieces)
onto_feedless octet [] other feedless =
    All-cons HasNoFeed (octet ∷ []) [] (All-cons (λ octet. (octet == 10) ≡ false) octet [] other (All-nil (λ octet. (octet == 10) ≡ false))) (All-nil HasNoFeed)
onto_feedless octet (piece ∷ pieces) other feedless =
    All-cons HasNoFeed (octet ∷ piece) pieces (All-cons (λ octet. (octet == 10) ≡ false) octet piece other (All-head HasNoFeed piece pieces feedless))
    (All-tail HasNoFeed piece pieces feedless)

pieces_feedless : (text : Octets) → All HasNoFeed (lines_of text)
pieces_feedless [] = All-cons HasNoFeed [] [] (All-nil (λ octet. (octet == 10) ≡ false)) (All-nil HasNoFeed)
pieces_feedless (octet ∷ text) = by (octet == 10) refl (pieces_feedless text)
  where
    by : (is : Bool) → (octet == 10) ≡ is → All HasNoFeed (lines_of text)
        → All HasNoFeed (if is then [] ∷ lines_of text else onto_first octet (lines_of text))
    by true is rest = All-cons HasNoFeed [] (lines_of text) (All-nil (λ octet. (octet == 10) ≡ false)) rest
    by false is rest = onto_feedless octet (lines_of text) is rest

barred_feedless : (piece : Octets) → HasNoFeed piece → HasNoFeed (barred piece)
barred_feedless piece feedless = All-cons (λ octet. (octet == 10) ≡ false) 124 piece refl feedless

no_feed : (octet : ℕ) → not (octet == 10) ≡ true → (octet == 10) ≡ false
no_feed octet is = by (octet == 10) is
  where
    by : (same : Bool) → not same ≡ true → same ≡ false
    by true is = cc is
    by false is = refl

weakened : {X : Type 0} (P Q : X → Type 0) → ((x : X) → P x → Q x) → (xs : List X) → All P xs → All Q xs
weakened P Q implies [] all = All-nil Q
weakened P Q implies (x ∷ xs) all = All-cons Q x xs (implies x (All-head P x xs all)) (weakened P Q implies xs (All-tail P x xs all))

heading_feedless : (words : Octets) → list_all (λ octet. not (octet == 10)) words ≡ true → HasNoFeed words
heading_feedless words is =
    weakened (λ octet. not (octet == 10) ≡ true) (λ octet. (octet == 10) ≡ false) no_feed words (AllPass-from_list_all (λ octet. not (octet == 10)) words is)

lines_feedless : (pieces lines : List Octets) (values : List Saved) → All HasNoFeed pieces → All HasNoFeed lines → All IsSavedValue values
    → All HasNoFeed (all_lines pieces lines values)
lines_feedless pieces lines values pieces_are lines_are good =
    All-cons HasNoFeed first_line (table_heading ∷ behind_table pieces lines values) (heading_feedless first_line refl)
    (All-cons HasNoFeed table_heading (behind_table pieces lines values) (heading_feedless table_heading refl)
    (All-append HasNoFeed (map barred pieces) (subscriptions_heading ∷ (lines ++ values_heading ∷ map value_words values))
    (all_of_each HasNoFeed HasNoFeed barred barred_feedless pieces pieces_are)
    (All-cons HasNoFeed subscriptions_heading (lines ++ values_heading ∷ map value_words values) (heading_feedless subscriptions_heading refl)
    (All-append HasNoFeed lines (values_heading ∷ map value_words values) lines_are
    (All-cons HasNoFeed values_heading (map value_words values) (heading_feedless values_heading refl)
    (all_of_each IsSavedValue HasNoFeed value_words value_feedless values good))))))

-- no subscription is the heading of the values
entry_other : (entry : RowEntry) → IsConfigured entry → IsOther (entry_words entry)
entry_other entry is =
    let kind : nat_eq (48 + entry.peer.kind) 91 ≡ false = grind (arith, nat_tests, is.peer.kind) in
    rw (decimal_digit entry.peer.kind (omega (arith, is.peer.kind)), kind) refl

owed_other : (peer : Peer) → IsNamed peer → IsOther (owed_words peer)
owed_other peer is = refl

rows_other : (rows : Subscriptions) → IsOfAFile (written_by rows) → All IsOther (row_lines rows)
unfolding row_lines
rows_other rows is =
    All-append IsOther (map entry_words (configured rows)) (map owed_words (owed_in rows))
    (all_of_each IsConfigured IsOther entry_words entry_other (configured rows) is.entries)
    (all_of_each IsNamed IsOther owed_words owed_other (owed_in rows) is.owed)

-- the text is that of all lines
seven_parts : (a b c d e f g : Octets) → (((((a ++ b) ++ c) ++ d) ++ e) ++ f) ++ g ≡ a ++ (b ++ (c ++ (d ++ (e ++ (f ++ g)))))
seven_parts a b c d e f g =
    append_assoc ((((a ++ b) ++ c) ++ d) ++ e) f g ∙ append_assoc (((a ++ b) ++ c) ++ d) e (f ++ g) ∙ append_assoc ((a ++ b) ++ c) d (e ++ (f ++ g))
    ∙ append_assoc (a ++ b) c (d ++ (e ++ (f ++ g))) ∙ append_assoc a b (c ++ (d ++ (e ++ (f ++ g))))

piece_ended : (piece : Octets) → piece_line piece ≡ line_of (barred piece)
unfolding piece_line
piece_ended piece = refl

lines_parted : (pieces lines : List Octets) (values : List Saved)
    → flat_map line_of (all_lines pieces lines values)
    ≡ line_of first_line
    ++ (line_of table_heading
    ++ (flat_map line_of (map barred pieces)
    ++ (line_of subscriptions_heading ++ (flat_map line_of lines ++ (line_of values_heading ++ flat_map line_of (map value_words values))))))
lines_parted pieces lines values =
    ap (λ (rest : Octets). line_of first_line ++ (line_of table_heading ++ rest))
    (flat_map-append line_of (map barred pieces) (subscriptions_heading ∷ (lines ++ values_heading ∷ map value_words values))
    ∙ ap (λ (rest : Octets). flat_map line_of (map barred pieces) ++ (line_of subscriptions_heading ++ rest))
    (flat_map-append line_of lines (values_heading ∷ map value_words values)))

state_lines : (table_text : Octets) (rows : Subscriptions) (values : List Saved)
    → lines_of_state table_text rows values ≡ flat_map line_of (all_lines (lines_of table_text) (row_lines rows) values)
unfolding lines_of_state
state_lines table_text rows values =
    seven_parts (line_of first_line) (line_of table_heading) (table_lines table_text) (line_of subscriptions_heading) (rows_text rows) (line_of values_heading)
    (values_text values)
    ∙ ap (λ (text : Octets). line_of first_line
    ++ (line_of table_heading ++ (text ++ (line_of subscriptions_heading ++ (rows_text rows ++ (line_of values_heading ++ values_text values))))))
    (lines_of_each Octets barred piece_line piece_ended (lines_of table_text))
    ∙ ap (λ (text : Octets). line_of first_line
    ++ (line_of table_heading
    ++ (flat_map line_of (map barred (lines_of table_text)) ++ (line_of subscriptions_heading ++ (text ++ (line_of values_heading ++ values_text values))))))
    (rows_lines rows)
    ∙ ap (λ (text : Octets). line_of first_line
    ++ (line_of table_heading
    ++ (flat_map line_of (map barred (lines_of table_text))
    ++ (line_of subscriptions_heading ++ (flat_map line_of (row_lines rows) ++ (line_of values_heading ++ text))))))
    (lines_of_each Saved value_words value_line value_ended values)
    ∙ sym (lines_parted (lines_of table_text) (row_lines rows) values)

-- without the line feed of the last of them
joined_ended : (line : Octets) (lines : List Octets) → flat_map line_of (line ∷ lines) ≡ join_with_byte 10 (line ∷ lines) ++ 10 ∷ []
joined_ended line [] = append-nil (line ++ 10 ∷ [])
joined_ended line (next ∷ lines) =
    ap (λ (rest : Octets). (line ++ 10 ∷ []) ++ rest) (joined_ended next lines)
    ∙ append_assoc line (10 ∷ []) (join_with_byte 10 (next ∷ lines) ++ 10 ∷ [])
    ∙ sym (append_assoc line (10 ∷ join_with_byte 10 (next ∷ lines)) (10 ∷ []))

-- the text of a table is joined from its pieces
pieces_joined : (rows : Subscriptions) (pieces lines : List Octets) (values : List Saved) → 0 < length pieces → All IsOther lines
    → subscriptions_read (flat_map line_of lines) ≡ Ok rows → All IsSavedValue values
    → state_from 1 nothing_read (all_lines pieces lines values) ≡ the_state (join_with_byte 10 pieces) rows values
pieces_joined rows [] lines values some other is good = absurd (omega (arith, some))
pieces_joined rows (piece ∷ pieces) lines values some other is good = lines_taken rows piece pieces lines values other is good

rows_back : (rows : Subscriptions) → IsOfAFile (written_by rows) → subscriptions_read (rows_text rows) ≡ Ok (unfitted_rows (written_by rows))
rows_back rows is =
    ap (λ (read : Result WrittenRows RowsFault). read >>= (λ (written : WrittenRows). Ok (unfitted_rows written))) (rows_read_back rows is)

lines_back : (front table_text : Octets) (rows : Subscriptions) (values : List Saved) → IsOfAFile (written_by rows) → All IsSavedValue values
    → front ++ 10 ∷ [] ≡ lines_of_state table_text rows values → state_of front ≡ the_state table_text (unfitted_rows (written_by rows)) values
unfolding state_of
lines_back front table_text rows values is good same =
    let lines = all_lines (lines_of table_text) (row_lines rows) values in
    let some : 0 < length (lines_of table_text) = omega (arith, length-slice_split (λ (octet : ℕ). octet == 10) table_text) in
    ap (state_from 1 nothing_read)
    (pieces_before front lines (lines_feedless (lines_of table_text) (row_lines rows) values (pieces_feedless table_text) (rows_feedless rows is) good)
    (same ∙ state_lines table_text rows values))
    ∙ pieces_joined (unfitted_rows (written_by rows)) (lines_of table_text) (row_lines rows) values some (rows_other rows is)
    (ap subscriptions_read (sym (rows_lines rows)) ∙ rows_back rows is) good
    ∙ ap (λ (text : Octets). the_state text (unfitted_rows (written_by rows)) values) (join_with_byte-slice_split 10 table_text)

-- the last line
sum_count : (text : Octets) → length (checksum text) ≡ 64
sum_count text = omega (arith, length-encode_with lower_digits (sha256 text), length-sha256 text)

behind : Octets → Octets
behind sum = (10 ∷ codes "[end] " ++ sum) ++ 10 ∷ []

behind_count : (sum : Octets) → length sum ≡ 64 → length (behind sum) ≡ 72
unfolding behind
behind_count sum count = omega (arith, count, length-append sum (10 ∷ []))

ends : (sum : Octets) → length sum ≡ 64 → is_end (behind sum) ≡ true
unfolding behind
ends sum count =
    let last : drop (length (behind sum) - 1) (behind sum) ≡ 10 ∷ [] =
    drop_at (10 ∷ codes "[end] " ++ sum) (10 ∷ []) (length (behind sum) - 1) (omega (arith, length-append (10 ∷ codes "[end] " ++ sum) (10 ∷ []))) in
    ap (λ (octets : Octets). pointwise nat_eq (10 ∷ []) octets) last

sum_found : (front sum : Octets) → end_of (front ++ behind sum) ≡ behind sum → length sum ≡ 64 → checksum_in (front ++ behind sum) ≡ sum
unfolding behind
sum_found front sum end count = ap (λ (octets : Octets). take 64 (drop 7 octets)) end ∙ take_at sum (10 ∷ []) 64 count

-- the lines before a last line with their checksum
checked : (front body sum rest : Octets) → length sum ≡ 64 → front ++ behind sum ≡ body ++ rest → length body ≡ length front + 1 → sum ≡ checksum body
    → lines_checked (front ++ behind sum) ≡ Ok front
checked front body sum rest count same longer is =
    let text = front ++ behind sum in
    let whole : length text ≡ length front + 72 = omega (arith, length-append front (behind sum), behind_count sum count) in
    let end : end_of text ≡ behind sum = drop_at front (behind sum) (length text - 72) (omega (arith, whole)) in
    let long : is_ended text ≡ true =
    ap (λ (long : Bool). long && is_end (end_of text)) (at_least (length text) (omega (arith, whole))) ∙ ap is_end end ∙ ends sum count in
    let found : checksum_in text ≡ sum = sum_found front sum end count in
    let before : before_end text ≡ body = ap (take (length text - 72 + 1)) same ∙ take_at body rest (length text - 72 + 1) (omega (arith, whole, longer)) in
    let equal : bytes_eq (checksum_in text) (checksum (before_end text)) ≡ true =
    (bytes_eq-Decides (checksum_in text) (checksum (before_end text))).1 (found ∙ is ∙ ap checksum (sym before)) in
    ap (λ (ended : Bool).
    unless ended Unended >>=
    (λ (_ : Bool). unless (bytes_eq (checksum_in text) (checksum (before_end text))) OtherChecksum >>= (λ (_ : Bool). Ok (take (length text - 72) text)))) long
    ∙ ap (λ (same : Bool). unless same OtherChecksum >>= (λ (_ : Bool). Ok (take (length text - 72) text))) equal
    ∙ ap Ok (take_at front (behind sum) (length text - 72) (omega (arith, whole)))
  where
    at_least : (count : ℕ) → 72 ≤ count → nat_le 72 count ≡ true
    at_least count long = grind (arith, nat_tests, long)

-- the front of a text that has a last line feed, and the text with its last line
text_ended : (front body : Octets) → front ++ 10 ∷ [] ≡ body → ended body ≡ front ++ behind (checksum body)
unfolding end_line behind
text_ended front body same =
    ap (λ (text : Octets). text ++ end_line body) (sym same) ∙ append_assoc front (10 ∷ []) ((codes "[end] " ++ checksum body) ++ 10 ∷ [])

all_back : (front table_text : Octets) (rows : Subscriptions) (values : List Saved) → IsOfAFile (written_by rows) → All IsSavedValue values
    → front ++ 10 ∷ [] ≡ lines_of_state table_text rows values → IsUtf8 front
    → state_read (state_text table_text rows values) ≡ the_state table_text (unfitted_rows (written_by rows)) values
all_back front table_text rows values is good same utf8 =
    let body = lines_of_state table_text rows values in
    let text : ended body ≡ front ++ behind (checksum body) = text_ended front body same in
    ap state_read text
    ∙ ap (λ (lines : Result Octets StateFault). lines >>= state_of_lines)
    (checked front body (checksum body) (end_line body) (sum_count body) (sym text)
    (ap length (sym same) ∙ length-append front (10 ∷ [])) refl)
    ∙ ap (λ (known : Bool). if known then state_of front else Err NotText) (is_utf8-from_IsUtf8 front utf8)
    ∙ lines_back front table_text rows values is good same

-- the octets before the last line feed
front_of : List Octets → List Octets → List Saved → Octets
front_of pieces lines values = join_with_byte 10 (all_lines pieces lines values)

front_utf8 : (table_text : Octets) (rows : Subscriptions) (values : List Saved) → IsUtf8 table_text → IsOfAFile (written_by rows) → All IsSavedValue values
    → IsUtf8 (front_of (lines_of table_text) (row_lines rows) values)
unfolding front_of row_lines
front_utf8 table_text rows values utf8 is good =
    let lines = row_lines rows in
    let pieces = lines_of table_text in
    joined_utf8 first_line (table_heading ∷ behind_table pieces lines values)
    (All-cons IsUtf8 first_line (table_heading ∷ behind_table pieces lines values) (heading_utf8 first_line refl)
    (All-cons IsUtf8 table_heading (behind_table pieces lines values) (heading_utf8 table_heading refl)
    (All-append IsUtf8 (map barred pieces) (subscriptions_heading ∷ behind_rows lines values)
    (all_of_each IsUtf8 IsUtf8 barred barred_utf8 pieces (pieces_utf8 table_text utf8))
    (All-cons IsUtf8 subscriptions_heading (behind_rows lines values) (heading_utf8 subscriptions_heading refl)
    (All-append IsUtf8 lines (values_heading ∷ map value_words values)
    (All-append IsUtf8 (map entry_words (configured rows)) (map owed_words (owed_in rows))
    (all_of_each IsConfigured IsUtf8 entry_words entry_utf8 (configured rows) is.entries)
    (all_of_each IsNamed IsUtf8 owed_words owed_utf8 (owed_in rows) is.owed))
    (All-cons IsUtf8 values_heading (map value_words values) (heading_utf8 values_heading refl)
    (all_of_each IsSavedValue IsUtf8 value_words value_utf8 values good)))))))

pub reads_back : (table_text : Octets) (rows : Subscriptions) (values : List Saved) (text : Octets) → IsUtf8 table_text → All IsSavedValue values
    → text ≡ state_text table_text rows values → ReadsBack table_text rows values text
unfolding front_of
reads_back table_text rows values text utf8 good same is =
    let lines = behind_table (lines_of table_text) (row_lines rows) values in
    ap state_read same
    ∙ all_back (front_of (lines_of table_text) (row_lines rows) values) table_text rows values is good
    (sym (joined_ended first_line (table_heading ∷ lines)) ∙ sym (state_lines table_text rows values)) (front_utf8 table_text rows values utf8 is good)
