-- What a line of a rows file says can be written in one.
use Rattle.std.proofs.Common.{◌≡◌, ℕ, zero, suc, ◌-◌, ◌*◌, ◌<◌, ◌≤◌, Bool, true, false, ◌&&◌, nat_le, nat_lt, if◌then◌else◌, [], ◌∷◌, ◌++◌, length, slice_index, Option, Some, None, refl, sym, ap, subst, ◌∙◌, arith}
use Rattle.std.specs.Prelude.{codes, reverse, Result, Ok, Err}
use Rattle.std.specs.Fmt.{decimal}
use Rattle.std.specs.List.{All}
use Rattle.std.specs.Option.{option_map}
use Rattle.std.specs.Result.{result_ok}
use Rattle.std.specs.Str.{all_ascii_digits, bytes_eq}
use Rattle.std.specs.Str.Parse.{digits_value}
use Rattle.std.proofs.lemmas.Bool.Decides.{nat_tests}
use Rattle.std.proofs.lemmas.Fmt.{decimal_digit, decimal-digits_value}
use Rattle.std.proofs.lemmas.List.{get_or-reverse, length-reverse}
use Rattle.std.proofs.lemmas.List.Elements.{All-from_get_or}
use Rattle.std.proofs.lemmas.Str.Parse.{numerals_by_value, tells_all_ascii_digits}
use Rattle.hex.specs.Hex.{decode_sized, IsBytes}
use Rattle.hex.specs.declared.error.FromHexError.{FromHexError}
use Rattle.hex.proofs.HexLemmas.{decode_of-ok, decode_sized-ok, decode_sized-twice}
use Rattle.octet_io.proofs.Choices.{and_true_left}
use Rattle.octet_io.specs.Number.{Octets}
use Rattle.le_hci.specs.declared.peer.Peer.{Peer}
use Rattle.le_security.specs.Address.{address_of, address_type_of_digit, is_joined, address_octets, pair, peer_of}
use Rattle.gatt_subs.specs.declared.rows_line.Line.{Line}
use Rattle.gatt_subs.specs.declared.rows_line.Line.TheVariants.{Entry, Owed}
use Rattle.gatt_subs.specs.ReadBack.{IsNamed, IsConfigured}
use Rattle.octet_io.specs.Missing.{◌>>=◌}
use Rattle.gatt_subs.specs.RowsLine.{is_from_one, handle_of_row, bits_of, line_behind, rows_line_of}
use Rattle.text_words.specs.Split.{parts_of}

some-is : {A : Type 0} {x y : A} → Some x ≡ Some y → x ≡ y
some-is is = cc is

-- what is there where something follows from it
record Found {A B : Type 0} (part : Option A) (next : A → Option B) (y : B) : Type 0 where
  x : A
  is : part ≡ Some x
  then_y : next x ≡ Some y

found : {A B : Type 0} (part : Option A) (next : A → Option B) (y : B) → (part >>= next) ≡ Some y → Found part next y
found None next y is = cc is
found (Some x) next y is = record { x = x; is = refl; then_y = is }

-- the type of an address
one_of_two : (nil one : Bool) (kind : ℕ) → (if nil then Some 0 else if one then Some 1 else None) ≡ Some kind → kind ≤ 1
one_of_two true one kind is = let k : 0 ≡ kind = some-is is in omega (arith, k)
one_of_two false true kind is = let k : 1 ≡ kind = some-is is in omega (arith, k)
one_of_two false false kind is = cc is

kind_read : (word : Octets) (kind : ℕ) → address_type_of_digit word ≡ Some kind → kind ≤ 1
kind_read word kind is = one_of_two (bytes_eq word (codes "0")) (bytes_eq word (codes "1")) kind is

-- its octets
record IsAddress (octets : Octets) : Type 0 where
  six : length octets ≡ 6
  small : All (λ octet. octet < 256) octets

turned : (octets : Octets) → length octets ≡ 6 → IsBytes octets → IsAddress (reverse octets)
turned octets six bytes = record {
  six = length-reverse octets ∙ six;
  small = All-from_get_or (λ octet. octet < 256) (reverse octets) 0
      (λ i within. subst (λ octet. octet < 256) (sym (get_or-reverse octets i 0 (omega (arith, within, length-reverse octets))))
      (bytes (length octets - 1 - i)));
}

decoded : (digits octets : Octets) (read : Result Octets FromHexError) → decode_sized digits 6 ≡ read → option_map reverse (result_ok read) ≡ Some octets
    → IsAddress octets
decoded digits octets (Ok bytes) is reads =
    let twelve : length digits ≡ 2 * 6 = decode_sized-ok digits 6 bytes is in
    let pairs = decode_of-ok digits bytes (sym (decode_sized-twice digits 6 twelve) ∙ is) in
    subst IsAddress (some-is reads) (turned bytes (omega (arith, twelve, pairs.2)) pairs.3)
decoded digits octets (Err fault) is reads = cc reads

joined_or_none : (joined : Bool) (digits octets : Octets) → (if joined then address_octets digits else None) ≡ Some octets → IsAddress octets
joined_or_none true digits octets is = decoded digits octets (decode_sized digits 6) refl is
joined_or_none false digits octets is = cc is

address_read : (text octets : Octets) → address_of text ≡ Some octets → IsAddress octets
address_read text octets is =
    joined_or_none (is_joined text) (pair text 0 ++ pair text 1 ++ pair text 2 ++ pair text 3 ++ pair text 4 ++ pair text 5) octets is

peer_read : (kind address : Octets) (peer : Peer) → peer_of kind address ≡ Some peer → IsNamed peer
unfolding peer_of
peer_read kind address peer is =
    let type = found (address_type_of_digit kind) (λ type. address_of address >>= (λ octets. Some (record { kind = type; address = octets }))) peer is in
    let octets = found (address_of address) (λ octets. Some (record { kind = type.x; address = octets })) peer type.then_y in
    let read = address_read address octets.x octets.is in
    subst IsNamed (some-is octets.then_y) (record { kind = kind_read kind type.x type.is; address = read.six; octets = read.small })

value_some : (word : Octets) → is_from_one (slice_index word 0) ≡ true → all_ascii_digits word ≡ true → digits_value 10 word < 65536 → 1 ≤ digits_value 10 word
value_some [] first digits small = cc first
value_some (digit ∷ word) first digits small = by (digits_value 10 (digit ∷ word)) refl
  where
    from_one : 49 ≤ digit
    from_one =
        let least : nat_le 49 digit ≡ true = and_true_left (nat_le 49 digit) (nat_le digit 57) first in
        grind (arith, nat_tests, least)

    by : (value : ℕ) → digits_value 10 (digit ∷ word) ≡ value → 1 ≤ digits_value 10 (digit ∷ word)
    by zero is =
        let same : decimal (digits_value 10 (digit ∷ word)) ≡ digit ∷ word =
        decimal-digits_value (numerals_by_value (λ ds. all_ascii_digits ds ≡ true) tells_all_ascii_digits) (digit ∷ word) digits (omega arith)
        (λ zero_first. absurd (omega (arith, zero_first, from_one))) (omega (arith, small)) in
        let first_is : 48 ≡ digit = ap (λ (word : Octets). slice_index word 0) (sym (decimal_digit 0 (omega arith)) ∙ ap decimal (sym is) ∙ same) in
        absurd (omega (arith, first_is, from_one))
    by (suc value) is = omega (arith, is)

record IsHandle (handle : ℕ) : Type 0 where
  some : 1 ≤ handle
  small : handle < 65536

handle_if : (word : Octets) (handle : ℕ) (first digits small : Bool) → is_from_one (slice_index word 0) ≡ first → all_ascii_digits word ≡ digits
    → nat_lt (digits_value 10 word) 65536 ≡ small → (if first && (digits && small) then Some (digits_value 10 word) else None) ≡ Some handle → IsHandle handle
handle_if word handle true true true first digits small is =
    let below : digits_value 10 word < 65536 = grind (arith, nat_tests, small) in
    subst IsHandle (some-is is) (record { some = value_some word first digits below; small = below })
handle_if word handle true true false first digits small is = cc is
handle_if word handle true false small first digits below is = cc is
handle_if word handle false digits small first all below is = cc is

handle_read : (word : Octets) (handle : ℕ) → handle_of_row word ≡ Some handle → IsHandle handle
unfolding handle_of_row
handle_read word handle is =
    handle_if word handle (is_from_one (slice_index word 0)) (all_ascii_digits word) (nat_lt (digits_value 10 word) 65536) refl refl refl is

-- bits
record IsBits (bits : ℕ) : Type 0 where
  some : 1 ≤ bits
  few : bits ≤ 3

one_of_three : (one two three : Bool) (bits : ℕ) → (if one then Some 1 else if two then Some 2 else if three then Some 3 else None) ≡ Some bits → IsBits bits
one_of_three true two three bits is = subst IsBits (some-is is) (record { some = omega arith; few = omega arith })
one_of_three false true three bits is = subst IsBits (some-is is) (record { some = omega arith; few = omega arith })
one_of_three false false true bits is = subst IsBits (some-is is) (record { some = omega arith; few = omega arith })
one_of_three false false false bits is = cc is

bits_read : (word : Octets) (bits : ℕ) → bits_of word ≡ Some bits → IsBits bits
unfolding bits_of
bits_read word bits is = one_of_three (bytes_eq word (codes "1")) (bytes_eq word (codes "2")) (bytes_eq word (codes "3")) bits is

-- and a whole line
abbrev pub CanBeWritten : Line → Type 0
CanBeWritten (Entry entry) = IsConfigured entry
CanBeWritten (Owed peer) = IsNamed peer

owed_read : (marked : Bool) (peer : Option Peer) (line : Line) → ((named : Peer) → peer ≡ Some named → IsNamed named)
    → (if marked then option_map Owed peer else None) ≡ Some line → CanBeWritten line
owed_read true None line named is = cc is
owed_read true (Some peer) line named is = subst CanBeWritten (some-is is) (named peer refl)
owed_read false peer line named is = cc is

behind_read : (first second rest : Octets) (last : Option (Octets × Octets)) (line : Line) → line_behind first second rest last ≡ Some line → CanBeWritten line
behind_read mark kind address None line is = owed_read (bytes_eq mark (codes "!")) (peer_of kind address) line (peer_read kind address) is
behind_read kind address rest (Some last) line is =
    let peer =
    found (peer_of kind address)
    (λ peer. handle_of_row last.0 >>= (λ handle. bits_of last.1 >>= (λ bits. Some (Entry (record { peer = peer; handle = handle; bits = bits }))))) line is
    in
    let handle =
    found (handle_of_row last.0) (λ handle. bits_of last.1 >>= (λ bits. Some (Entry (record { peer = peer.x; handle = handle; bits = bits })))) line
    peer.then_y in
    let bits = found (bits_of last.1) (λ bits. Some (Entry (record { peer = peer.x; handle = handle.x; bits = bits }))) line handle.then_y in
    let of_handle = handle_read last.0 handle.x handle.is in
    let of_bits = bits_read last.1 bits.x bits.is in
    subst CanBeWritten (some-is bits.then_y)
    (record { peer = peer_read kind address peer.x peer.is; from_one = of_handle.some; handle = of_handle.small; some = of_bits.some; bits = of_bits.few })

pub line_read : (text : Octets) (line : Line) → rows_line_of text ≡ Some line → CanBeWritten line
unfolding rows_line_of
line_read text line is =
    let first = found (parts_of text) (λ first. parts_of first.1 >>= (λ second. line_behind first.0 second.0 second.1 (parts_of second.1))) line is in
    let second = found (parts_of first.x.1) (λ second. line_behind first.x.0 second.0 second.1 (parts_of second.1)) line first.then_y in
    behind_read first.x.0 second.x.0 second.x.1 (parts_of second.x.1) line second.then_y
