use Rattle.std.proofs.Common.{◌≡◌, ◌%◌, length, sym, ◌∙◌, arith}
use Rattle.att_table.proofs.Digits.{is_ok-decode_of}
use Rattle.att_table.proofs.file.field.is_hex.Goals as goal

pub returns-then-text-eq0 : goal.returns-then-text-eq0
returns-then-text-eq0 c =
    let even : length c.args.text.now % 2 ≡ 0 = omega arith in
    c.has_only_digits.ensures ∙ sym (is_ok-decode_of c.args.text.now even)
