use Rattle.std.proofs.Common.{◌≡◌, ◌++◌, drop}
use Rattle.hex.specs.Hex.{encode_lower}
use Rattle.text_words.proofs.hexadecimal.add_hex.Given as goal

-- what stands and what is left are all
abbrev pub invariant-loop-octet : goal.invariant-loop-octet
invariant-loop-octet l =
    l.text.items ++ encode_lower (drop l.octet-index l.octets) ≡ l.fn.text.items ++ encode_lower l.octets
