-- The text of values is ASCII.
use Rattle.std.proofs.Common.{◌≡◌, ℕ, ◌<◌, ◌/◌, ◌^◌, Bool, true, false, nat_lt, if◌then◌else◌, List, [], ◌∷◌, ◌++◌, inl, refl, sym, subst, arith}
use Rattle.std.specs.Fmt.{decimal}
use Rattle.std.specs.Int.{w16, w128, to_be_bytes}
use Rattle.std.specs.List.{All, list_all}
use Rattle.std.specs.Str.{IsAscii, IsUtf8}
use Rattle.std.proofs.lemmas.Bool.Decides.{nat_tests}
use Rattle.std.proofs.lemmas.Fmt.{IsAscii-decimal}
use Rattle.std.proofs.lemmas.List.Elements.{All-head, All-tail}
use Rattle.std.proofs.lemmas.List.Sums.{AllPass-from_list_all}
use Rattle.std.proofs.lemmas.Str.{IsAscii-append, IsUtf8-from_ascii}
use Rattle.std.proofs.lemmas.Str.Ascii.{IsAscii-nil, IsAscii-cons}
use Rattle.hex.specs.Hex.{encode_lower, lower_digits}
use Rattle.hex.proofs.HexLemmas.{IsAscii-encode_with}
use Rattle.uuid.specs.Text.{lower}
use Rattle.uuid.proofs.TextLemmas.{hyphenated_ascii}
use Rattle.octet_io.specs.Number.{Octets}
use Rattle.att_numbers.specs.AttributeType.{is_of_16_bits}
use Rattle.app_lines.specs.NoticeText.{value_text}
use Rattle.saved_values.specs.SavedValue.{Saved, value_line, IsSavedValue}
use Rattle.saved_values.specs.TypeText.{short_type_text, long_type_text, type_text}
use Rattle.saved_values.specs.ValuesText.{values_text}
use Rattle.saved_values.proofs.ValuesBack.{value_ended, value_words}

-- texts that are ASCII
small : (octet : ℕ) → nat_lt octet 128 ≡ true → octet < 128
small octet is = grind (arith, nat_tests, is)

all_small : (octets : Octets) → All (λ octet. nat_lt octet 128 ≡ true) octets → IsAscii octets
all_small [] all = IsAscii-nil
all_small (octet ∷ octets) all =
    IsAscii-cons octet octets (small octet (All-head (λ octet. nat_lt octet 128 ≡ true) octet octets all))
    (all_small octets (All-tail (λ octet. nat_lt octet 128 ≡ true) octet octets all))

pub tested : (octets : Octets) → list_all (λ octet. nat_lt octet 128) octets ≡ true → IsAscii octets
tested octets is = all_small octets (AllPass-from_list_all (λ octet. nat_lt octet 128) octets is)

pub digits_ascii : (octets : Octets) → IsAscii (encode_lower octets)
digits_ascii octets = IsAscii-encode_with lower_digits octets (tested lower_digits refl)

pub spaced : (word rest : Octets) → IsAscii word → IsAscii rest → IsAscii (word ++ 32 ∷ rest)
spaced word rest is other = IsAscii-append word (32 ∷ rest) is (IsAscii-cons 32 rest (omega arith) other)

type_ascii : (kind : ℕ) → IsAscii (type_text kind)
type_ascii kind = by (is_of_16_bits kind)
  where
    by : (is : Bool) → IsAscii (if is then short_type_text kind else long_type_text kind)
    by true = digits_ascii (to_be_bytes w16 (kind / 2 ^ 96))
    by false = hyphenated_ascii lower (to_be_bytes w128 kind) (inl refl)

octets_ascii : (octets : Octets) → IsAscii (value_text octets)
octets_ascii [] = IsAscii-cons 45 [] (omega arith) IsAscii-nil
octets_ascii (octet ∷ octets) = digits_ascii (octet ∷ octets)

pub value_ascii : (value : Saved) → IsSavedValue value → IsAscii (value_words value)
value_ascii value is =
    spaced (decimal value.handle) (type_text value.kind ++ 32 ∷ value_text value.octets) (IsAscii-decimal value.handle (omega (arith, is.handle)))
    (spaced (type_text value.kind) (value_text value.octets) (type_ascii value.kind) (octets_ascii value.octets))

values_ascii : (values : List Saved) → All IsSavedValue values → IsAscii (values_text values)
values_ascii [] good = IsAscii-nil
values_ascii (value ∷ values) good =
    IsAscii-append (value_line value) (values_text values)
    (subst IsAscii (sym (value_ended value))
    (IsAscii-append (value_words value) (10 ∷ []) (value_ascii value (All-head IsSavedValue value values good)) (IsAscii-cons 10 [] (omega arith) IsAscii-nil)))
    (values_ascii values (All-tail IsSavedValue value values good))

pub text_utf8 : (text : Octets) (values : List Saved) → text ≡ values_text values → All IsSavedValue values → IsUtf8 text
text_utf8 text values written good = subst IsUtf8 (sym written) (IsUtf8-from_ascii (values_text values) (values_ascii values good))
