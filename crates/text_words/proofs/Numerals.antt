-- Numbers that are parsed behind a digit.
use Rattle.std.proofs.Common.{◌≡◌, ℕ, ◌<◌, true, false, ◌&&◌, nat_lt, if◌then◌else◌, List, length, Some, None, Result, Ok, Err, refl, arith}
use Rattle.std.specs.Result.{OkIff, result_ok}
use Rattle.std.specs.Str.{all_ascii_digits}
use Rattle.std.specs.Str.Parse.{digits_value}
use Rattle.std.proofs.lemmas.Bool.Decides.{nat_tests}
use Rattle.text_words.specs.Numeral.{numeral_of}

pub number_parsed : {E : Type 0} (limit : ℕ) (word : List ℕ) (parsed : Result ℕ E)
    → OkIff parsed ((all_ascii_digits word ≡ true) × (0 < length word) × (digits_value 10 word < limit)) (digits_value 10 word)
    → 0 < length word → result_ok parsed ≡ numeral_of limit word
unfolding numeral_of
number_parsed limit word (Ok number) is some =
    let small = is.0.2 in
    rw (is.0.0, is.1) (grind (arith, nat_tests))
number_parsed limit word (Err fault) is some =
    elim (all_ascii_digits word) as (λ digits. all_ascii_digits word ≡ digits
    → None ≡ (if nat_lt 0 (length word) && (digits && nat_lt (digits_value 10 word) limit) then Some (digits_value 10 word) else None)) [
      | true ↦ λ digits.
          elim (nat_lt (digits_value 10 word) limit) as (λ small. nat_lt (digits_value 10 word) limit ≡ small
          → None ≡ (if nat_lt 0 (length word) && small then Some (digits_value 10 word) else None)) [
            | true ↦ λ small. absurd (is (digits, some, grind (arith, nat_tests)))
            | false ↦ λ large. grind (arith, nat_tests)
          ] refl
      | false ↦ λ other. grind (arith, nat_tests)
    ] refl
