use Rattle.std.proofs.Common.{◌≡◌, ◌/◌, length, true, is_ok, sym, rules, arith}
use Rattle.std.proofs.lemmas.Grind.{common_steps}
use Rattle.hex.specs.Hex.{decode_of}
use Rattle.hex.proofs.HexLemmas.{IsOk-written}
use Rattle.att_table.proofs.Digits.{IsOk-decode_sized-half, value_of-long}
use Rattle.att_table.proofs.file.field.read_value.Goals as goal

pub returns-then-text-gt-MAX_VALUE : goal.returns-then-text-gt-MAX_VALUE
returns-then-text-gt-MAX_VALUE c =
    let hex : is_ok (decode_of c.args.text.now) ≡ true = search rules in
    sym (value_of-long c.args.text.now hex (omega arith))

pub unwrap-requires-2 : goal.unwrap-requires-2
unwrap-requires-2 c =
    let hex : is_ok (decode_of c.args.text.now) ≡ true = search rules in
    let room : length c.as_mut_slice.result.now ≡ length c.args.text.now / 2 = grind (arith, common_steps) in
    (IsOk-written _ _ _ c.decode_to_slice.ensures.value).1 (IsOk-decode_sized-half c.args.text.now _ hex room)
