-- What is read of a line.
use Rattle.std.proofs.Common.{◌≡◌, ℕ, ◌<◌, ◌^◌, true, false, ◌&&◌, nat_lt, if◌then◌else◌, List, length, slice_index, Some, None, Result, Ok, Err, refl, arith}
use Rattle.std.specs.Result.{OkIff, result_ok}
use Rattle.std.specs.Str.{all_ascii_digits}
use Rattle.std.specs.Str.Parse.{digits_value}
use Rattle.std.proofs.lemmas.Bool.Decides.{nat_tests}
use Rattle.gatt_subs.specs.RowsLine.{is_from_one, handle_of_row}

-- a number that is parsed behind a digit from 1 to 9 is the handle
pub handle_parsed : {E : Type 0} (word : List ℕ) (parsed : Result ℕ E) → is_from_one (slice_index word 0) ≡ true
    → OkIff parsed ((all_ascii_digits word ≡ true) × (0 < length word) × (digits_value 10 word < 2 ^ 16)) (digits_value 10 word)
    → 0 < length word → result_ok parsed ≡ handle_of_row word
unfolding handle_of_row
handle_parsed word (Ok number) first is some =
    let small = is.0.2 in
    rw (first, is.0.0, is.1) (grind (arith, nat_tests))
handle_parsed word (Err fault) first is some =
    rw first (
    elim (all_ascii_digits word) as
    (λ digits. all_ascii_digits word ≡ digits → None ≡ (if digits && nat_lt (digits_value 10 word) 65536 then Some (digits_value 10 word) else None)) [
      | true ↦ λ digits.
          elim (nat_lt (digits_value 10 word) 65536) as (λ small. nat_lt (digits_value 10 word) 65536 ≡ small
          → None ≡ (if small then Some (digits_value 10 word) else None)) [
            | true ↦ λ small. absurd (is (digits, some, grind (arith, nat_tests)))
            | false ↦ λ large. refl
          ] refl
      | false ↦ λ other. refl
    ] refl)
