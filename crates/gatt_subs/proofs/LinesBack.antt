-- A line that is written is read as what it says.
use Rattle.std.proofs.Common.{◌≡◌, ℕ, zero, suc, ◌/◌, ◌%◌, ◌<◌, ◌≤◌, ◌==◌, Bool, true, false, nat_lt, nat_le, [], ◌∷◌, ◌++◌, length, map, slice_index, Some, None, refl, ap, ◌∙◌, append_assoc, arith}
use Rattle.std.specs.Prelude.{reverse, Result}
use Rattle.std.specs.Option.{option_map}
use Rattle.std.specs.Result.{result_ok}
use Rattle.hex.specs.declared.error.FromHexError.{FromHexError}
use Rattle.std.proofs.lemmas.List.{get_or_past}
use Rattle.std.specs.Fmt.{decimal}
use Rattle.std.specs.List.{All, position_or_len}
use Rattle.std.specs.Str.{all_ascii_digits}
use Rattle.std.specs.Str.Parse.{AllDigits}
use Rattle.std.proofs.Math.Seq.{take-append_seam, drop-append-add}
use Rattle.std.proofs.lemmas.List.{length-append}
use Rattle.std.proofs.lemmas.Grind.{common_steps}
use Rattle.std.proofs.lemmas.Bool.Decides.{nat_tests}
use Rattle.std.proofs.lemmas.Fmt.{decimal_is_IsNumeral, decimal_digit, first_decimal}
use Rattle.std.proofs.lemmas.Str.Parse.{digit_from_value, numerals_by_value, tells_all_ascii_digits}
use Rattle.std.proofs.lemmas.List.Sums.{AllPass-from_list_all}
use Rattle.std.specs.Int.{IsInRange}
use Rattle.std.proofs.lemmas.List.Elements.{All-append, All-nil, All-cons, All-head, All-tail, All-get_or}
use Rattle.hex.specs.Hex.{encode_with, encode_lower, lower_digits, IsBytes}
use Rattle.hex.proofs.HexLemmas.{decode_sized-encode_lower}
use Rattle.octet_io.specs.Number.{Octets}
use Rattle.le_hci.specs.declared.peer.Peer.{Peer}
use Rattle.gatt_subs.specs.declared.row_entry.RowEntry.{RowEntry}
use Rattle.gatt_subs.specs.declared.rows_line.Line.TheVariants.{Entry, Owed}
use Rattle.gatt_subs.specs.ReadBack.{IsNamed, IsConfigured}
use Rattle.le_security.specs.Address.{address_of, address_type_of_digit, peer_of}
use Rattle.gatt_subs.specs.RowsLine.{space, is_from_one, handle_of_row, bits_of, rows_line_of}
use Rattle.text_words.specs.Split.{parts_of}
use Rattle.gatt_subs.specs.RowsText.{address_text, entry_line, joined_by_colons, owed_line}

-- words are of visible characters
abbrev pub IsWord : Octets → Type 0
IsWord word = All (λ octet. 33 ≤ octet) word

abbrev is_space : ℕ → Bool
is_space octet = octet == space

visible : (octet other : ℕ) → other < 33 → 33 ≤ octet → (octet == other) ≡ false
visible octet other small large = grind (arith, nat_tests)

pub lacks : (word : Octets) (other : ℕ) → other < 33 → IsWord word → All (λ octet. (octet == other) ≡ false) word
lacks [] other small seen = All-nil (λ octet. (octet == other) ≡ false)
lacks (octet ∷ word) other small seen =
    All-cons (λ octet. (octet == other) ≡ false) octet word (visible octet other small (All-head (λ octet. 33 ≤ octet) octet word seen))
    (lacks word other small (All-tail (λ octet. 33 ≤ octet) octet word seen))

place_behind : (word rest : Octets) → IsWord word → position_or_len is_space (word ++ space ∷ rest) ≡ length word
place_behind [] rest seen = refl
place_behind (first ∷ word) rest seen =
    rw (visible first space (omega arith) (All-head (λ octet. 33 ≤ octet) first word seen))
    (grind (arith, common_steps, place_behind word rest (All-tail (λ octet. 33 ≤ octet) first word seen)))

-- a word, a space and the rest are parted so
pub parted : (word rest : Octets) → IsWord word → parts_of (word ++ space ∷ rest) ≡ Some (word, rest)
unfolding parts_of
parted word rest seen =
    let place : position_or_len is_space (word ++ space ∷ rest) ≡ length word = place_behind word rest seen in
    let within : nat_lt (length word) (length (word ++ space ∷ rest)) ≡ true = grind (arith, nat_tests, length-append word (space ∷ rest)) in
    rw (place, within, take-append_seam word (space ∷ rest), drop-append-add word (space ∷ rest) 1) refl

no_space : (word : Octets) → IsWord word → position_or_len is_space word ≡ length word
no_space [] seen = refl
no_space (first ∷ word) seen =
    rw (visible first space (omega arith) (All-head (λ octet. 33 ≤ octet) first word seen))
    (grind (arith, common_steps, no_space word (All-tail (λ octet. 33 ≤ octet) first word seen)))

pub whole : (word : Octets) → IsWord word → parts_of word ≡ None
unfolding parts_of
whole word seen =
    let within : nat_lt (length word) (length word) ≡ false = grind (arith, nat_tests) in
    rw (no_space word seen, within) refl

-- an address is read from its text
six_back : (a b c d e f : ℕ) → IsBytes (f ∷ e ∷ d ∷ c ∷ b ∷ a ∷ []) → address_of (address_text (a ∷ b ∷ c ∷ d ∷ e ∷ f ∷ [])) ≡ Some (a ∷ b ∷ c ∷ d ∷ e ∷ f ∷ [])
unfolding address_text encode_with
six_back a b c d e f bytes =
    ap (λ (read : Result Octets FromHexError). option_map reverse (result_ok read)) (decode_sized-encode_lower (f ∷ e ∷ d ∷ c ∷ b ∷ a ∷ []) 6 refl bytes)

abbrev IsOctet : ℕ → Type 0
IsOctet octet = octet < 256

are_bytes : (octets : Octets) → All IsOctet octets → IsBytes octets
are_bytes octets small = λ i. elim (nat_lt i (length octets)) as (λ within. nat_lt i (length octets) ≡ within → slice_index octets i < 256) [
  | true ↦ λ within. All-get_or IsOctet octets i 0 (grind (arith, nat_tests)) small
  | false ↦ λ past. rw (get_or_past octets i 0 (grind (arith, nat_tests))) (omega arith)
] refl

pub address_back : (address : Octets) → length address ≡ 6 → All IsOctet address → address_of (address_text address) ≡ Some address
address_back (a ∷ b ∷ c ∷ d ∷ e ∷ f ∷ []) six small =
    let at : (i : ℕ) → i < 6 → slice_index (a ∷ b ∷ c ∷ d ∷ e ∷ f ∷ []) i < 256 = λ i within. All-get_or IsOctet (a ∷ b ∷ c ∷ d ∷ e ∷ f ∷ []) i 0 within small
    in
    six_back a b c d e f (are_bytes (f ∷ e ∷ d ∷ c ∷ b ∷ a ∷ [])
    (All-cons IsOctet f (e ∷ d ∷ c ∷ b ∷ a ∷ []) (at 5 (omega arith))
    (All-cons IsOctet e (d ∷ c ∷ b ∷ a ∷ []) (at 4 (omega arith))
    (All-cons IsOctet d (c ∷ b ∷ a ∷ []) (at 3 (omega arith))
    (All-cons IsOctet c (b ∷ a ∷ []) (at 2 (omega arith))
    (All-cons IsOctet b (a ∷ []) (at 1 (omega arith))
    (All-cons IsOctet a [] (at 0 (omega arith)) (All-nil IsOctet))))))))
address_back [] six small = absurd (omega (arith, six))
address_back (a ∷ []) six small = absurd (omega (arith, six))
address_back (a ∷ b ∷ []) six small = absurd (omega (arith, six))
address_back (a ∷ b ∷ c ∷ []) six small = absurd (omega (arith, six))
address_back (a ∷ b ∷ c ∷ d ∷ []) six small = absurd (omega (arith, six))
address_back (a ∷ b ∷ c ∷ d ∷ e ∷ []) six small = absurd (omega (arith, six))
address_back (a ∷ b ∷ c ∷ d ∷ e ∷ f ∷ g ∷ more) six small = absurd (omega (arith, six))

-- and is a word
digit_seen : (digit : ℕ) → digit < 16 → 33 ≤ slice_index lower_digits digit
digit_seen digit small =
    let seen : nat_le 33 (slice_index lower_digits digit) ≡ true =
    All-get_or (λ octet. nat_le 33 octet ≡ true) lower_digits digit 0 small (AllPass-from_list_all (nat_le 33) lower_digits refl) in
    grind (arith, nat_tests)

octet_seen : (octet : ℕ) → octet < 256 → IsWord (encode_lower (octet ∷ []))
unfolding encode_with
octet_seen octet small =
    All-cons (λ octet. 33 ≤ octet) (slice_index lower_digits (octet / 16)) (slice_index lower_digits (octet % 16) ∷ [])
    (digit_seen (octet / 16) (omega arith))
    (All-cons (λ octet. 33 ≤ octet) (slice_index lower_digits (octet % 16)) [] (digit_seen (octet % 16) (omega arith)) (All-nil (λ octet. 33 ≤ octet)))

joined_seen : (octets : Octets) → All IsOctet octets → IsWord (joined_by_colons octets)
joined_seen [] small = All-nil (λ octet. 33 ≤ octet)
joined_seen (octet ∷ []) small = octet_seen octet (All-head IsOctet octet [] small)
joined_seen (octet ∷ next ∷ octets) small =
    All-append (λ octet. 33 ≤ octet) (encode_lower (octet ∷ [])) (58 ∷ joined_by_colons (next ∷ octets))
    (octet_seen octet (All-head IsOctet octet (next ∷ octets) small))
    (All-cons (λ octet. 33 ≤ octet) 58 (joined_by_colons (next ∷ octets)) (omega arith)
    (joined_seen (next ∷ octets) (All-tail IsOctet octet (next ∷ octets) small)))

pub address_seen : (address : Octets) → All IsOctet address → IsWord (address_text address)
unfolding address_text
address_seen address small =
    let at : (i : ℕ) → IsOctet (slice_index address i) = are_bytes address small in
    joined_seen (map (slice_index address) (5 ∷ 4 ∷ 3 ∷ 2 ∷ 1 ∷ 0 ∷ []))
    (All-cons IsOctet (slice_index address 5) (map (slice_index address) (4 ∷ 3 ∷ 2 ∷ 1 ∷ 0 ∷ [])) (at 5)
    (All-cons IsOctet (slice_index address 4) (map (slice_index address) (3 ∷ 2 ∷ 1 ∷ 0 ∷ [])) (at 4)
    (All-cons IsOctet (slice_index address 3) (map (slice_index address) (2 ∷ 1 ∷ 0 ∷ [])) (at 3)
    (All-cons IsOctet (slice_index address 2) (map (slice_index address) (1 ∷ 0 ∷ [])) (at 2)
    (All-cons IsOctet (slice_index address 1) (map (slice_index address) (0 ∷ [])) (at 1)
    (All-cons IsOctet (slice_index address 0) [] (at 0) (All-nil IsOctet)))))))

-- numbers are read from their digits, and these are words
from_digits : (digits : Octets) → AllDigits 10 digits → IsWord digits
from_digits [] are = All-nil (λ octet. 33 ≤ octet)
from_digits (digit ∷ digits) are =
    let range : IsInRange 48 57 digit = digit_from_value digit are.0 in
    All-cons (λ octet. 33 ≤ octet) digit digits (omega (arith, range.0)) (from_digits digits are.1)

pub number_seen : (number : ℕ) → number < 65536 → IsWord (decimal number)
number_seen number small = from_digits (decimal number) (decimal_is_IsNumeral number (omega arith)).0.1

first_digit : (digits : Octets) → 0 < length digits → AllDigits 10 digits → IsInRange 48 57 (slice_index digits 0)
first_digit [] some are = absurd (omega (arith, some))
first_digit (digit ∷ digits) some are = digit_from_value digit are.0

pub handle_back : (handle : ℕ) → 1 ≤ handle → handle < 65536 → handle_of_row (decimal handle) ≡ Some handle
unfolding handle_of_row
handle_back handle some small =
    let numeral = decimal_is_IsNumeral handle (omega arith) in
    let digits : all_ascii_digits (decimal handle) ≡ true =
    (numerals_by_value (λ ds. all_ascii_digits ds ≡ true) tells_all_ascii_digits).from (decimal handle) numeral.0.1 in
    let first : 48 < slice_index (decimal handle) 0 = first_decimal handle some (omega arith) in
    let range : IsInRange 48 57 (slice_index (decimal handle) 0) = first_digit (decimal handle) numeral.0.0 numeral.0.1 in
    let from_one : is_from_one (slice_index (decimal handle) 0) ≡ true = grind (arith, nat_tests, first, range) in
    let below : nat_lt handle 65536 ≡ true = grind (arith, nat_tests) in
    rw (from_one, digits, numeral.1, below) refl

pub bits_back : (bits : ℕ) → 1 ≤ bits → bits ≤ 3 → bits_of (decimal bits) ≡ Some bits
unfolding bits_of
bits_back zero some few = absurd (omega (arith, some))
bits_back (suc zero) some few = rw (decimal_digit 1 (omega arith)) refl
bits_back (suc (suc zero)) some few = rw (decimal_digit 2 (omega arith)) refl
bits_back (suc (suc (suc zero))) some few = rw (decimal_digit 3 (omega arith)) refl
bits_back (suc (suc (suc (suc more)))) some few = absurd (omega (arith, few))

pub kind_back : (kind : ℕ) → kind ≤ 1 → address_type_of_digit (decimal kind) ≡ Some kind
kind_back zero few = rw (decimal_digit 0 (omega arith)) refl
kind_back (suc zero) few = rw (decimal_digit 1 (omega arith)) refl
kind_back (suc (suc more)) few = absurd (omega (arith, few))

-- a peer is read from its text
pub peer_back : (peer : Peer) → IsNamed peer → peer_of (decimal peer.kind) (address_text peer.address) ≡ Some peer
unfolding peer_of
peer_back peer is = rw (kind_back peer.kind is.kind, address_back peer.address is.address is.octets) refl

-- a line without its line feed
abbrev pub entry_words : RowEntry → Octets
entry_words entry = decimal entry.peer.kind ++ space ∷ (address_text entry.peer.address ++ space ∷ (decimal entry.handle ++ space ∷ decimal entry.bits))

abbrev pub owed_words : Peer → Octets
owed_words peer = 33 ∷ space ∷ (decimal peer.kind ++ space ∷ address_text peer.address)

-- and so are both kinds of lines
pub entry_back : (entry : RowEntry) → IsConfigured entry → rows_line_of (entry_words entry) ≡ Some (Entry entry)
unfolding rows_line_of
entry_back entry is =
    rw (
      parted (decimal entry.peer.kind) (address_text entry.peer.address ++ space ∷ (decimal entry.handle ++ space ∷ decimal entry.bits))
          (number_seen entry.peer.kind (omega (arith, is.peer.kind))),
      parted (address_text entry.peer.address) (decimal entry.handle ++ space ∷ decimal entry.bits) (address_seen entry.peer.address is.peer.octets),
      parted (decimal entry.handle) (decimal entry.bits) (number_seen entry.handle is.handle),
      peer_back entry.peer is.peer,
      handle_back entry.handle is.from_one is.handle,
      bits_back entry.bits is.some is.bits,
    ) refl

pub owed_back : (peer : Peer) → IsNamed peer → rows_line_of (owed_words peer) ≡ Some (Owed peer)
unfolding rows_line_of
owed_back peer is =
    rw (
      parted (33 ∷ []) (decimal peer.kind ++ space ∷ address_text peer.address)
          (All-cons (λ octet. 33 ≤ octet) 33 [] (omega arith) (All-nil (λ octet. 33 ≤ octet))),
      parted (decimal peer.kind) (address_text peer.address) (number_seen peer.kind (omega (arith, is.kind))),
      whole (address_text peer.address) (address_seen peer.address is.octets),
      peer_back peer is,
    ) refl

-- neither has a line feed
abbrev pub HasNoFeed : Octets → Type 0
HasNoFeed octets = All (λ octet. (octet == 10) ≡ false) octets

joined_feedless : (word rest : Octets) → IsWord word → HasNoFeed rest → HasNoFeed (word ++ space ∷ rest)
joined_feedless word rest seen other =
    All-append (λ octet. (octet == 10) ≡ false) word (space ∷ rest) (lacks word 10 (omega arith) seen)
    (All-cons (λ octet. (octet == 10) ≡ false) space rest refl other)

pub entry_feedless : (entry : RowEntry) → IsConfigured entry → HasNoFeed (entry_words entry)
entry_feedless entry is =
    joined_feedless (decimal entry.peer.kind) (address_text entry.peer.address ++ space ∷ (decimal entry.handle ++ space ∷ decimal entry.bits))
    (number_seen entry.peer.kind (omega (arith, is.peer.kind)))
    (joined_feedless (address_text entry.peer.address) (decimal entry.handle ++ space ∷ decimal entry.bits) (address_seen entry.peer.address is.peer.octets)
    (joined_feedless (decimal entry.handle) (decimal entry.bits) (number_seen entry.handle is.handle)
    (lacks (decimal entry.bits) 10 (omega arith) (number_seen entry.bits (omega (arith, is.bits))))))

pub owed_feedless : (peer : Peer) → IsNamed peer → HasNoFeed (owed_words peer)
owed_feedless peer is =
    All-cons (λ octet. (octet == 10) ≡ false) 33 (space ∷ (decimal peer.kind ++ space ∷ address_text peer.address)) refl
    (joined_feedless [] (decimal peer.kind ++ space ∷ address_text peer.address) (All-nil (λ octet. 33 ≤ octet))
    (joined_feedless (decimal peer.kind) (address_text peer.address) (number_seen peer.kind (omega (arith, is.kind)))
    (lacks (address_text peer.address) 10 (omega arith) (address_seen peer.address is.octets))))

-- and each line ends with one
words : (a b c d : Octets) → ((a ++ space ∷ b) ++ space ∷ c) ++ space ∷ d ≡ a ++ space ∷ (b ++ space ∷ (c ++ space ∷ d))
words a b c d = append_assoc (a ++ space ∷ b) (space ∷ c) (space ∷ d) ∙ append_assoc a (space ∷ b) (space ∷ (c ++ space ∷ d))

pub entry_ended : (entry : RowEntry) → entry_line entry ≡ entry_words entry ++ 10 ∷ []
unfolding entry_line
entry_ended entry =
    ap (λ (line : Octets). line ++ 10 ∷ []) (words (decimal entry.peer.kind) (address_text entry.peer.address) (decimal entry.handle) (decimal entry.bits))

pub owed_ended : (peer : Peer) → owed_line peer ≡ owed_words peer ++ 10 ∷ []
unfolding owed_line
owed_ended peer = refl
