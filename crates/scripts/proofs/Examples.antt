-- What lines and a script say, by computing.
use Rattle.std.proofs.Common.{◌≡◌, true, [], ◌∷◌, Some, None, Ok, Err, codes, refl}
use Rattle.hex.specs.Hex.{decode_pairs}
use Rattle.scripts.specs.declared.act.Act.TheVariants as act
use Rattle.scripts.specs.declared.act.ScriptedAct.TheVariants.{Drop, Encrypt, Send, Hold}
use Rattle.scripts.specs.declared.line.Line.TheVariants.{Phone}
use Rattle.scripts.specs.declared.script_fault.ScriptFault.TheVariants.{BadLine}
use Rattle.scripts.specs.Name.{is_command_word, is_name, name_of}
use Rattle.text_words.specs.Numeral.{numeral_of}
use Rattle.text_words.specs.Payload.{decoded, payload_of}
use Rattle.scripts.specs.Line.{random_number_of, channel_of, line_of_one, line_of_two, line_of_three, line_of_four, line_of}
use Rattle.scripts.specs.Script.{script_of}

sent : line_of (codes "U < 0a0300") ≡ Some (Phone (codes "U") (Send 4 (10 ∷ 3 ∷ 0 ∷ [])))
unfolding line_of line_of_three channel_of payload_of decoded decode_pairs name_of is_name is_command_word
sent = refl

encrypted : line_of (codes "encrypt P 0101010101010101 257") ≡ Some (Phone (codes "P") (Encrypt (1 ∷ 1 ∷ 1 ∷ 1 ∷ 1 ∷ 1 ∷ 1 ∷ 1 ∷ []) 257))
unfolding line_of line_of_four random_number_of numeral_of decode_pairs name_of is_name is_command_word
encrypted = refl

no_number : line_of (codes "tick -1") ≡ None
unfolding line_of line_of_two numeral_of
no_number = refl

no_name : line_of (codes "drop tick") ≡ None
unfolding line_of line_of_two name_of is_name is_command_word
no_name = refl

two_spaces : line_of (codes "drop  U") ≡ None
unfolding line_of line_of_three channel_of
two_spaces = refl

two_phones : script_of true (codes "# two phones\n\ndrop B\nhold A\nB < 1e") ≡ Ok (record {
  acts = act.Phone 0 Drop ∷ act.Phone 1 Hold ∷ act.Phone 0 (Send 4 (30 ∷ [])) ∷ [];
  names = codes "B" ∷ codes "A" ∷ [];
})
unfolding script_of line_of line_of_two line_of_three channel_of payload_of decoded decode_pairs name_of is_name is_command_word
two_phones = refl

bad_line : script_of true (codes "# two phones\n\ndrop B\nbad\nbad") ≡ Err (BadLine 4)
unfolding script_of line_of line_of_one line_of_two name_of is_name is_command_word
bad_line = refl
