-- A value is read from its line.
use Rattle.std.proofs.Common.{◌≡◌, ℕ, zero, suc, ◌*◌, ◌/◌, ◌%◌, ◌^◌, ◌<◌, ◌≤◌, ◌==◌, ◌&&◌, Bool, true, false, nat_eq, nat_lt, nat_le, if◌then◌else◌, [], ◌∷◌, ◌++◌, length, slice_index, Some, inl, refl, sym, ap, subst, append_assoc, arith}
use Rattle.std.specs.Prelude.{codes}
use Rattle.std.specs.Fmt.{decimal}
use Rattle.std.specs.Int.{w16, w128, byte_at, bytes_high_first, to_be_bytes}
use Rattle.std.specs.List.{All}
use Rattle.std.specs.Str.{all_ascii_digits, bytes_eq}
use Rattle.std.proofs.lemmas.Bool.Decides.{nat_tests}
use Rattle.std.proofs.lemmas.Fmt.{decimal_is_IsNumeral}
use Rattle.std.proofs.lemmas.List.{get_or_past}
use Rattle.std.proofs.lemmas.List.Elements.{All-append, All-nil, All-cons, All-head, All-tail, All-get_or, All-from_get_or}
use Rattle.std.proofs.lemmas.List.Sums.{AllPass-from_list_all}
use Rattle.std.proofs.lemmas.Nat.{from_be_bytes-to_be_bytes_2, mod_below}
use Rattle.std.proofs.lemmas.Str.Parse.{numerals_by_value, tells_all_ascii_digits}
use Rattle.hex.specs.Hex.{encode_with, encode_lower, lower_digits, IsBytes}
use Rattle.hex.proofs.HexLemmas.{decode_of-encode_lower, decode_sized-encode_lower, decode_sized-other, length-encode_with}
use Rattle.uuid.specs.Text.{lower, nibble, hex_digit, digit_place, is_hyphen_place}
use Rattle.uuid.proofs.OrderLemmas.{from_be_bytes-to_be_bytes_16}
use Rattle.uuid.proofs.RoundTrips.{parses_hyphenated}
use Rattle.uuid.proofs.TextLemmas.{by_index_length, by_index_at, nibble_small}
use Rattle.octet_io.specs.Number.{Octets}
use Rattle.att_numbers.specs.AttributeType.{is_of_16_bits, of_16_bits}
use Rattle.att_table.specs.file.TypeText.{type_named}
use Rattle.app_lines.specs.NoticeText.{value_text}
use Rattle.text_words.specs.Numeral.{numeral_of}
use Rattle.text_words.specs.Payload.{decoded, payload_of}
use Rattle.gatt_subs.specs.RowsLine.{space}
use Rattle.gatt_subs.proofs.LinesBack.{HasNoFeed, IsWord, lacks, number_seen, parted}
use Rattle.saved_values.specs.SavedValue.{Saved, value_line, value_of_line, IsSavedValue}
use Rattle.saved_values.specs.ValuesText.{line_of}
use Rattle.saved_values.specs.TypeText.{short_type_text, long_type_text, type_text}

-- a handle from its digits
handle_back : (handle : ℕ) → handle < 2 ^ 16 → numeral_of (2 ^ 16) (decimal handle) ≡ Some handle
unfolding numeral_of
handle_back handle small =
    let numeral = decimal_is_IsNumeral handle (omega (arith, small)) in
    let digits : all_ascii_digits (decimal handle) ≡ true =
    (numerals_by_value (λ ds. all_ascii_digits ds ≡ true) tells_all_ascii_digits).from (decimal handle) numeral.0.1 in
    let some : nat_lt 0 (length (decimal handle)) ≡ true = grind (arith, nat_tests, numeral.0.0) in
    let below : nat_lt handle (2 ^ 16) ≡ true = grind (arith, nat_tests, small) in
    rw (some, digits, numeral.1, below) refl

-- a type from its text
small_bytes : (octets : Octets) → All (λ octet. octet < 256) octets → IsBytes octets
small_bytes octets small = λ i. elim (nat_lt i (length octets)) as (λ within. nat_lt i (length octets) ≡ within → slice_index octets i < 256) [
  | true ↦ λ within. All-get_or (λ octet. octet < 256) octets i 0 (grind (arith, nat_tests)) small
  | false ↦ λ past. rw (get_or_past octets i 0 (grind (arith, nat_tests))) (omega arith)
] refl

byte_small : (i number : ℕ) → byte_at i number < 256
byte_small zero number = mod_below number 256 (omega arith)
byte_small (suc i) number = mod_below (number / 256 ^ suc i) 256 (omega arith)

bytes_small : (count number : ℕ) → All (λ octet. octet < 256) (bytes_high_first count number)
bytes_small zero number = All-nil (λ octet. octet < 256)
bytes_small (suc count) number =
    All-cons (λ octet. octet < 256) (byte_at count number) (bytes_high_first count number) (byte_small count number) (bytes_small count number)

bytes_count : (count number : ℕ) → length (bytes_high_first count number) ≡ count
bytes_count zero number = refl
bytes_count (suc count) number = omega (arith, bytes_count count number)

short_number : (kind : ℕ) → is_of_16_bits kind ≡ true → (kind / 2 ^ 96 < 2 ^ 16) × (of_16_bits (kind / 2 ^ 96) ≡ kind)
short_number kind is = grind (arith, nat_tests, is)

short_back : (kind : ℕ) → is_of_16_bits kind ≡ true → type_named (short_type_text kind) ≡ Some kind
short_back kind is =
    let number = short_number kind is in
    let octets = to_be_bytes w16 (kind / 2 ^ 96) in
    rw (
      decode_sized-encode_lower octets 2 refl (small_bytes octets (bytes_small 2 (kind / 2 ^ 96))),
      from_be_bytes-to_be_bytes_2 (kind / 2 ^ 96) number.0,
      number.1,
    ) refl

long_back : (kind : ℕ) → kind < 2 ^ 128 → type_named (long_type_text kind) ≡ Some kind
long_back kind small =
    let octets = to_be_bytes w128 kind in
    let text = long_type_text kind in
    let count : length text ≡ 36 = by_index_length 36 _ in
    let no_number = decode_sized-other text 2 (omega (arith, count)) (λ half. omega (arith, count, half)) in
    let uuid = parses_hyphenated lower octets (inl refl) (bytes_count 16 kind) (bytes_small 16 kind) in
    rw (no_number, sym uuid, from_be_bytes-to_be_bytes_16 kind small) refl

type_back : (kind : ℕ) → kind < 2 ^ 128 → type_named (type_text kind) ≡ Some kind
type_back kind small = by (is_of_16_bits kind) refl
  where
    by : (is : Bool) → is_of_16_bits kind ≡ is → type_named (if is then short_type_text kind else long_type_text kind) ≡ Some kind
    by true is = short_back kind is
    by false is = long_back kind small

-- octets from their text
digits_some : (octet : ℕ) (octets : Octets) → bytes_eq (encode_lower (octet ∷ octets)) (codes "-") ≡ false
unfolding encode_with
digits_some octet octets = by (nat_eq (slice_index lower_digits (octet / 16)) 45)
  where
    by : (is : Bool) → (is && false) ≡ false
    by true = refl
    by false = refl

octets_back : (octets : Octets) → length octets ≤ 517 → All (λ octet. octet < 256) octets → payload_of (value_text octets) ≡ Some octets
unfolding payload_of decoded
octets_back [] few small = refl
octets_back (octet ∷ octets) few small =
    let count = length-encode_with lower_digits (octet ∷ octets) in
    let some : nat_lt 0 (length (encode_lower (octet ∷ octets))) ≡ true = grind (arith, nat_tests, count) in
    let most : nat_le (length (encode_lower (octet ∷ octets))) (2 * 517) ≡ true = grind (arith, nat_tests, count, few) in
    rw (digits_some octet octets, some, most, decode_of-encode_lower (octet ∷ octets) (small_bytes (octet ∷ octets) small)) refl

-- the words of a line are of visible characters
digit_seen : (digit : ℕ) → digit < 16 → 33 ≤ slice_index lower_digits digit
digit_seen digit small =
    let seen : nat_le 33 (slice_index lower_digits digit) ≡ true =
    All-get_or (λ octet. nat_le 33 octet ≡ true) lower_digits digit 0 small (AllPass-from_list_all (nat_le 33) lower_digits refl) in
    grind (arith, nat_tests)

digits_seen : (octets : Octets) → All (λ octet. octet < 256) octets → IsWord (encode_lower octets)
unfolding encode_with
digits_seen [] small = All-nil (λ octet. 33 ≤ octet)
digits_seen (octet ∷ octets) small =
    let first : octet < 256 = All-head (λ octet. octet < 256) octet octets small in
    All-cons (λ octet. 33 ≤ octet) (slice_index lower_digits (octet / 16)) (slice_index lower_digits (octet % 16) ∷ encode_lower octets)
    (digit_seen (octet / 16) (omega (arith, first)))
    (All-cons (λ octet. 33 ≤ octet) (slice_index lower_digits (octet % 16)) (encode_lower octets) (digit_seen (octet % 16) (mod_below octet 16 (omega arith)))
    (digits_seen octets (All-tail (λ octet. octet < 256) octet octets small)))

place_seen : (digit : ℕ) (hyphen : Bool) → digit < 16 → 33 ≤ (if hyphen then 45 else hex_digit lower digit)
place_seen digit true small = omega arith
place_seen digit false small = grind (arith, nat_tests, small)

long_seen : (kind : ℕ) → IsWord (long_type_text kind)
long_seen kind =
    let text = long_type_text kind in
    let octets = to_be_bytes w128 kind in
    let character : ℕ → ℕ = λ i. if is_hyphen_place i then 45 else hex_digit lower (nibble octets (digit_place i)) in
    let count : length text ≡ 36 = by_index_length 36 character in
    All-from_get_or (λ octet. 33 ≤ octet) text 0
    (λ i within. subst (λ octet. 33 ≤ octet) (sym (by_index_at 36 character i 0 (omega (arith, within, count))))
    (place_seen (nibble octets (digit_place i)) (is_hyphen_place i) (nibble_small octets (digit_place i))))

type_seen : (kind : ℕ) → IsWord (type_text kind)
type_seen kind = by (is_of_16_bits kind)
  where
    by : (is : Bool) → IsWord (if is then short_type_text kind else long_type_text kind)
    by true = digits_seen (to_be_bytes w16 (kind / 2 ^ 96)) (bytes_small 2 (kind / 2 ^ 96))
    by false = long_seen kind

octets_seen : (octets : Octets) → All (λ octet. octet < 256) octets → IsWord (value_text octets)
octets_seen [] small = All-cons (λ octet. 33 ≤ octet) 45 [] (omega arith) (All-nil (λ octet. 33 ≤ octet))
octets_seen (octet ∷ octets) small = digits_seen (octet ∷ octets) small

-- a line without its line feed
abbrev pub value_words : Saved → Octets
value_words value = decimal value.handle ++ space ∷ (type_text value.kind ++ space ∷ value_text value.octets)

pub value_back : (value : Saved) → IsSavedValue value → value_of_line (value_words value) ≡ Some value
unfolding value_of_line
value_back value is =
    rw (
      parted (decimal value.handle) (type_text value.kind ++ space ∷ value_text value.octets) (number_seen value.handle is.handle),
      parted (type_text value.kind) (value_text value.octets) (type_seen value.kind),
      handle_back value.handle is.handle,
      type_back value.kind is.kind,
      octets_back value.octets is.few is.octets,
    ) refl

pub value_ended : (value : Saved) → value_line value ≡ line_of (value_words value)
unfolding value_line
value_ended value = ap line_of (append_assoc (decimal value.handle) (32 ∷ type_text value.kind) (32 ∷ value_text value.octets))

joined_feedless : (word rest : Octets) → IsWord word → HasNoFeed rest → HasNoFeed (word ++ space ∷ rest)
joined_feedless word rest seen other =
    All-append (λ octet. (octet == 10) ≡ false) word (space ∷ rest) (lacks word 10 (omega arith) seen)
    (All-cons (λ octet. (octet == 10) ≡ false) space rest refl other)

pub value_feedless : (value : Saved) → IsSavedValue value → HasNoFeed (value_words value)
value_feedless value is =
    joined_feedless (decimal value.handle) (type_text value.kind ++ space ∷ value_text value.octets) (number_seen value.handle is.handle)
    (joined_feedless (type_text value.kind) (value_text value.octets) (type_seen value.kind)
    (lacks (value_text value.octets) 10 (omega arith) (octets_seen value.octets is.octets)))
