-- The lines of a state are UTF-8 where its table text is.
use Rattle.std.proofs.Common.{◌≡◌, ℕ, zero, suc, ◌+◌, ◌<◌, ◌==◌, ◌/◌, ◌^◌, Bool, true, false, not, nat_lt, if◌then◌else◌, List, [], ◌∷◌, ◌++◌, length, get_or, map, slice_index, None, inl, refl, sym, subst, arith}
use Rattle.std.specs.Fmt.{decimal}
use Rattle.std.specs.Int.{w16, w128, to_be_bytes}
use Rattle.std.specs.List.{All, join_with_byte, list_all, position_or_len, before_first, after_first}
use Rattle.std.specs.Str.{IsAscii, IsUtf8}
use Rattle.std.proofs.lemmas.Bool.Decides.{nat_tests}
use Rattle.std.proofs.lemmas.Fmt.{IsAscii-decimal}
use Rattle.std.proofs.lemmas.List.{length-drop}
use Rattle.std.proofs.lemmas.List.Elements.{All-nil, All-cons, All-head, All-tail}
use Rattle.std.proofs.lemmas.List.Splits.{slice_split_first}
use Rattle.std.proofs.lemmas.List.Sums.{AllPass-from_list_all, prefix_len-le-length, prefix_len_stops}
use Rattle.std.proofs.lemmas.Str.{IsAscii-append, IsUtf8-append, IsUtf8-drop, IsUtf8-from_ascii, IsUtf8-take, IsCharBoundary-after_ascii, IsCharBoundary-before_ascii}
use Rattle.std.proofs.lemmas.Str.Ascii.{IsAscii-nil, IsAscii-cons}
use Rattle.hex.specs.Hex.{encode_lower, lower_digits}
use Rattle.hex.proofs.HexLemmas.{IsAscii-encode_with}
use Rattle.uuid.specs.Text.{lower}
use Rattle.uuid.proofs.TextLemmas.{hyphenated_ascii}
use Rattle.octet_io.specs.Number.{Octets}
use Rattle.octet_io.proofs.Parts.{only_part}
use Rattle.le_hci.specs.declared.peer.Peer.{Peer}
use Rattle.att_numbers.specs.AttributeType.{is_of_16_bits}
use Rattle.app_lines.specs.NoticeText.{value_text}
use Rattle.gatt_subs.specs.ReadBack.{IsConfigured, IsNamed}
use Rattle.gatt_subs.specs.RowsText.{address_text, joined_by_colons}
use Rattle.gatt_subs.specs.declared.row_entry.RowEntry.{RowEntry}
use Rattle.gatt_subs.proofs.LinesBack.{entry_words, owed_words}
use Rattle.saved_values.specs.SavedValue.{Saved, IsSavedValue}
use Rattle.text_words.specs.Split.{lines_of}
use Rattle.saved_values.specs.TypeText.{short_type_text, long_type_text, type_text}
use Rattle.device_state.proofs.LinesTaken.{barred}
use Rattle.saved_values.proofs.Ascii.{digits_ascii, spaced, tested, value_ascii}
use Rattle.saved_values.proofs.ValuesBack.{value_words}

-- the lines of subscriptions and of values
joined_ascii : (octets : Octets) → IsAscii (joined_by_colons octets)
joined_ascii [] = IsAscii-nil
joined_ascii (octet ∷ []) = digits_ascii (octet ∷ [])
joined_ascii (octet ∷ next ∷ octets) =
    IsAscii-append (encode_lower (octet ∷ [])) (58 ∷ joined_by_colons (next ∷ octets)) (digits_ascii (octet ∷ []))
    (IsAscii-cons 58 (joined_by_colons (next ∷ octets)) (omega arith) (joined_ascii (next ∷ octets)))

address_ascii : (address : Octets) → IsAscii (address_text address)
unfolding address_text
address_ascii address = joined_ascii (map (slice_index address) (5 ∷ 4 ∷ 3 ∷ 2 ∷ 1 ∷ 0 ∷ []))

pub entry_utf8 : (entry : RowEntry) → IsConfigured entry → IsUtf8 (entry_words entry)
entry_utf8 entry is =
    IsUtf8-from_ascii (entry_words entry)
    (spaced (decimal entry.peer.kind) (address_text entry.peer.address ++ 32 ∷ (decimal entry.handle ++ 32 ∷ decimal entry.bits))
    (IsAscii-decimal entry.peer.kind (omega (arith, is.peer.kind)))
    (spaced (address_text entry.peer.address) (decimal entry.handle ++ 32 ∷ decimal entry.bits) (address_ascii entry.peer.address)
    (spaced (decimal entry.handle) (decimal entry.bits) (IsAscii-decimal entry.handle (omega (arith, is.handle)))
    (IsAscii-decimal entry.bits (omega (arith, is.bits))))))

pub owed_utf8 : (peer : Peer) → IsNamed peer → IsUtf8 (owed_words peer)
owed_utf8 peer is =
    IsUtf8-from_ascii (owed_words peer)
    (IsAscii-cons 33 (32 ∷ (decimal peer.kind ++ 32 ∷ address_text peer.address)) (omega arith)
    (IsAscii-cons 32 (decimal peer.kind ++ 32 ∷ address_text peer.address) (omega arith)
    (spaced (decimal peer.kind) (address_text peer.address) (IsAscii-decimal peer.kind (omega (arith, is.kind))) (address_ascii peer.address))))

pub value_utf8 : (value : Saved) → IsSavedValue value → IsUtf8 (value_words value)
value_utf8 value is = IsUtf8-from_ascii (value_words value) (value_ascii value is)

-- the headings
pub heading_utf8 : (words : Octets) → list_all (λ octet. nat_lt octet 128) words ≡ true → IsUtf8 words
heading_utf8 words is = IsUtf8-from_ascii words (tested words is)

-- the pieces of a text
feed_found : (octet : ℕ) → not (octet == 10) ≡ false → octet < 128
feed_found octet is = by (octet == 10) refl is
  where
    by : (same : Bool) → (octet == 10) ≡ same → not same ≡ false → octet < 128
    by true same is = let equal : octet ≡ 10 = grind (arith, nat_tests, same) in omega (arith, equal)
    by false same is = cc is

pieces_within : (most : ℕ) (text : Octets) → length text < most → IsUtf8 text → All IsUtf8 (lines_of text)
pieces_within zero text few is = absurd (omega (arith, few))
pieces_within (suc most) text few is =
    by (nat_lt (position_or_len (λ octet. octet == 10) text) (length text)) refl (pieces_within most (after_first (λ octet. octet == 10) text))
  where
    by : (within : Bool) → nat_lt (position_or_len (λ octet. octet == 10) text) (length text) ≡ within
        → (length (after_first (λ octet. octet == 10) text) < most → IsUtf8 (after_first (λ octet. octet == 10) text)
        → All IsUtf8 (lines_of (after_first (λ octet. octet == 10) text)))
        → All IsUtf8 (lines_of text)
    by true within rest =
        let below : position_or_len (λ octet. octet == 10) text < length text = grind (arith, nat_tests, within) in
        let feed : get_or text (position_or_len (λ octet. octet == 10) text) 0 < 128 =
        feed_found (get_or text (position_or_len (λ octet. octet == 10) text) 0) (prefix_len_stops (λ octet. not (octet == 10)) text 0 below) in
        let left : length (after_first (λ octet. octet == 10) text) < most =
        omega (arith, below, few, length-drop (position_or_len (λ octet. octet == 10) text + 1) text) in
        subst (All IsUtf8) (sym (slice_split_first (λ octet. octet == 10) text 0 below))
        (All-cons IsUtf8 (before_first (λ octet. octet == 10) text) (lines_of (after_first (λ octet. octet == 10) text))
        (IsUtf8-take text (position_or_len (λ octet. octet == 10) text) is
        (IsCharBoundary-before_ascii text (position_or_len (λ octet. octet == 10) text) below feed))
        (rest left
        (IsUtf8-drop text (position_or_len (λ octet. octet == 10) text + 1) is
        (IsCharBoundary-after_ascii text (position_or_len (λ octet. octet == 10) text) is below feed))))
    by false within rest =
        let all : position_or_len (λ octet. octet == 10) text ≡ length text =
        grind (arith, nat_tests, within, prefix_len-le-length (λ octet. not (octet == 10)) text) in
        subst (All IsUtf8) (sym (only_part 10 text None all)) (All-cons IsUtf8 text [] is (All-nil IsUtf8))

pub pieces_utf8 : (text : Octets) → IsUtf8 text → All IsUtf8 (lines_of text)
pieces_utf8 text is = pieces_within (length text + 1) text (omega arith) is

pub barred_utf8 : (piece : Octets) → IsUtf8 piece → IsUtf8 (barred piece)
barred_utf8 piece is = IsUtf8-append (124 ∷ []) piece (IsUtf8-from_ascii (124 ∷ []) (IsAscii-cons 124 [] (omega arith) IsAscii-nil)) is

-- lines that are joined
pub joined_utf8 : (line : Octets) (lines : List Octets) → All IsUtf8 (line ∷ lines) → IsUtf8 (join_with_byte 10 (line ∷ lines))
joined_utf8 line [] all = All-head IsUtf8 line [] all
joined_utf8 line (next ∷ lines) all =
    IsUtf8-append line (10 ∷ join_with_byte 10 (next ∷ lines)) (All-head IsUtf8 line (next ∷ lines) all)
    (IsUtf8-append (10 ∷ []) (join_with_byte 10 (next ∷ lines)) (IsUtf8-from_ascii (10 ∷ []) (IsAscii-cons 10 [] (omega arith) IsAscii-nil))
    (joined_utf8 next lines (All-tail IsUtf8 line (next ∷ lines) all)))
