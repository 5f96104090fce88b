use Rattle.std.proofs.Common.{◌≡◌, ◌<◌, true, length, ◌∙◌, arith}
use Rattle.std.specs.Str.{all_ascii_digits}
use Rattle.std.specs.Str.Parse.{digits_value}
use Rattle.std.proofs.lemmas.Str.Parse.{numerals_by_value, tells_all_ascii_digits, IsNumeralModel, parse_plain}
use Rattle.text_words.proofs.Numerals.{number_parsed}
use Rattle.text_words.proofs.numeral.read_u64.Goals as goal

own : IsNumeralModel (λ ds. all_ascii_digits ds ≡ true) (digits_value 10)
own = numerals_by_value _ tells_all_ascii_digits

pub returns-in-48-to-57 : goal.returns-in-48-to-57
returns-in-48-to-57 c =
    let word = c.args.word.now in
    let some : 0 < length word = grind arith in
    c.ok.ensures.value
    ∙ number_parsed _ word c.parse.result (parse_plain own 64 word c.parse.result c.parse.ensures.value.0 (grind arith)) some
