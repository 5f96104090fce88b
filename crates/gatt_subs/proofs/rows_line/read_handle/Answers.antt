use Rattle.std.proofs.Common.{◌≡◌, ◌<◌, true, length, get_or, ◌∙◌, arith}
use Rattle.std.specs.Str.{all_ascii_digits}
use Rattle.std.specs.Str.Parse.{digits_value}
use Rattle.std.proofs.lemmas.Str.Parse.{numerals_by_value, tells_all_ascii_digits, IsNumeralModel, parse_plain}
use Rattle.std.proofs.lemmas.Bool.Decides.{nat_tests}
use Rattle.gatt_subs.specs.RowsLine.{is_from_one}
use Rattle.gatt_subs.proofs.RowsLine.{handle_parsed}
use Rattle.gatt_subs.proofs.rows_line.read_handle.Goals as goal

own : IsNumeralModel (λ ds. all_ascii_digits ds ≡ true) (digits_value 10)
own = numerals_by_value _ tells_all_ascii_digits

pub returns-in-49-to-57 : goal.returns-in-49-to-57
returns-in-49-to-57 c =
    let word = c.args.word.now in
    let first : is_from_one (get_or word 0 0) ≡ true = grind (arith, nat_tests) in
    let some : 0 < length word = grind arith in
    c.ok.ensures.value
    ∙ handle_parsed word c.parse.result first (parse_plain own 16 word c.parse.result c.parse.ensures.value.0 (grind arith)) some
