use Rattle.std.proofs.Common.{refl}
use Rattle.text_words.proofs.Digits.{octet_added, octets_added}
use Rattle.text_words.proofs.hexadecimal.add_hex.Goals as goal

pub loop-octet-preserved : goal.loop-octet-preserved
loop-octet-preserved c =
    octet_added c.args.octets.now c.args.text.now.items c.loop-octet.text.items c.add_octet.new.text.items c.loop-octet.octet-index _
    c.loop-octet-test.true refl c.loop-octet.invariant c.in_ok-add_octet.ensures.ok

pub returns : goal.returns
returns c = record {
  ok = octets_added c.args.octets.now c.args.text.now.items c.loop-octet.text.items c.loop-octet.octet-index c.loop-octet-test.false c.loop-octet.invariant;
}
