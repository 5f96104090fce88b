-- Which texts are hexadecimal, as a test of each character finds it.
use Rattle.std.proofs.Common.{◌≡◌, ℕ, ◌+◌, ◌-◌, ◌*◌, ◌/◌, ◌%◌, ◌<◌, Bool, true, false, ◌&&◌, ◌||◌, nat_le, if◌then◌else◌, List, [], ◌∷◌, length, Option, Some, None, is_some, is_ok, Result, Ok, Err, refl, ap, ◌∙◌, arith}
use Rattle.std.specs.Prelude.{IsOk}
use Rattle.std.specs.Char.{is_ascii_hexdigit}
use Rattle.std.specs.List.{list_all}
use Rattle.hex.specs.Hex.{decode_of, decode_pairs, decode_sized, digit_or_error, hex_digit_value, is_hex_digit, ◌>>=◌}
use Rattle.hex.specs.declared.error.FromHexError.{FromHexError}
use Rattle.hex.proofs.HexLemmas.{decode_of-ok, decode_sized-twice}
use Rattle.att_table.specs.declared.table_fault.TableFault.TheVariants.{TooLong}
use Rattle.att_table.specs.file.Field.{value_decoded, value_of}
use Rattle.att_numbers.specs.declared.limit.TheConstants.{MAX_VALUE}

-- the first of three ranges that a character is in, or none
in_some_range : (upper lower decimal : Bool) (x y z : ℕ)
    → is_some (if upper then Some x else if lower then Some y else if decimal then Some z else None) ≡ ((decimal || upper) || lower)
in_some_range true true true x y z = refl
in_some_range true true false x y z = refl
in_some_range true false true x y z = refl
in_some_range true false false x y z = refl
in_some_range false true true x y z = refl
in_some_range false true false x y z = refl
in_some_range false false true x y z = refl
in_some_range false false false x y z = refl

is_hex_digit_alike : (c : ℕ) → is_hex_digit c ≡ is_ascii_hexdigit c
is_hex_digit_alike c =
    in_some_range (nat_le 65 c && nat_le c 70) (nat_le 97 c && nat_le c 102) (nat_le 48 c && nat_le c 57) (c - 55) (c - 87) (c - 48)

-- two characters and what comes after them decode where each part does
pair_decodes : (a b i : ℕ) (x y : Option ℕ) (rest : Result (List ℕ) FromHexError)
    → is_ok ((digit_or_error a i x >>= (λ h. digit_or_error b (i + 1) y >>= (λ l. Ok (h * 16 + l)))) >>= (λ byte. rest >>= (λ bytes. Ok (byte ∷ bytes))))
    ≡ (is_some x && (is_some y && is_ok rest))
pair_decodes a b i (Some x) (Some y) (Ok bytes) = refl
pair_decodes a b i (Some x) (Some y) (Err e) = refl
pair_decodes a b i (Some x) None (Ok bytes) = refl
pair_decodes a b i (Some x) None (Err e) = refl
pair_decodes a b i None (Some y) (Ok bytes) = refl
pair_decodes a b i None (Some y) (Err e) = refl
pair_decodes a b i None None (Ok bytes) = refl
pair_decodes a b i None None (Err e) = refl

digits_decode : (i : ℕ) (s : List ℕ) → length s % 2 ≡ 0 → is_ok (decode_pairs i s) ≡ list_all is_ascii_hexdigit s
unfolding decode_pairs
digits_decode i [] even = refl
digits_decode i (a ∷ []) even = absurd (omega arith)
digits_decode i (a ∷ b ∷ rest) even =
    let pair = pair_decodes a b i (hex_digit_value a) (hex_digit_value b) (decode_pairs (i + 2) rest) in
    rw (← is_hex_digit_alike a, ← is_hex_digit_alike b, ← digits_decode (i + 2) rest (omega arith)) pair

-- an even number of characters is hexadecimal where each of them is a digit
pub is_ok-decode_of : (s : List ℕ) → length s % 2 ≡ 0 → is_ok (decode_of s) ≡ list_all is_ascii_hexdigit s
is_ok-decode_of s even =
    let pairs : decode_of s ≡ decode_pairs 0 s = grind arith in
    ap is_ok pairs ∙ digits_decode 0 s even

-- what is hexadecimal decodes, to half as many octets
decoded : (r : Result (List ℕ) FromHexError) → is_ok r ≡ true → (octets : List ℕ) × (r ≡ Ok octets)
decoded (Ok octets) ok = (octets, refl)
decoded (Err e) ok = cc

pub length-decode_of : (s : List ℕ) → is_ok (decode_of s) ≡ true → (octets : List ℕ) × (decode_of s ≡ Ok octets) × (length s ≡ 2 * length octets)
length-decode_of s ok =
    let of = decoded (decode_of s) ok in
    (of.0, of.1, (decode_of-ok s of.0 of.1).2)

-- decoding into room for as many octets does not fail
pub IsOk-decode_sized-half : (s : List ℕ) (room : ℕ) → is_ok (decode_of s) ≡ true → room ≡ length s / 2 → IsOk (decode_sized s room)
IsOk-decode_sized-half s room ok half =
    let of = length-decode_of s ok in
    ap is_ok (decode_sized-twice s room (omega (arith, of.2)) ∙ of.1)

too_long : (octets : List ℕ) → MAX_VALUE < length octets → value_decoded (Ok octets) ≡ Err TooLong
too_long octets long = grind arith

-- a value of more than 512 octets is refused
pub value_of-long : (s : List ℕ) → is_ok (decode_of s) ≡ true → MAX_VALUE < length s / 2 → value_of s ≡ Err TooLong
value_of-long s ok long =
    let of = length-decode_of s ok in
    ap value_decoded of.1 ∙ too_long of.0 (omega (arith, of.2))
