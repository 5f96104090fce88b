use Rattle.std.proofs.Common.{refl, sym, ap, ◌∙◌}
use Rattle.std.specs.Option.{option_copied}
use Rattle.att_pdu.specs.PduBuf.{mtu_of}
use Rattle.att_reads.specs.declared.find.TheConstants.{LONG_TYPES, SHORT_TYPES}
use Rattle.att_reads.proofs.Information.{long_size, short_size, types_sent}
use Rattle.att_reads.proofs.find.information.Goals as goal

pub returns-then-is_of_16_bits-clause-answer : goal.returns-then-is_of_16_bits-clause-answer
returns-then-is_of_16_bits-clause-answer c =
    let attributes = c.args.attributes.now in
    let first = c.in-Some.first.now in
    c.list.ensures.listed
    ∙ types_sent (mtu_of c.args.out.now) c.args.start 4 SHORT_TYPES first attributes (sym c.first.ensures.value ∙ ap option_copied c.in-Some.is)
    (short_size first (sym c.is_of_16_bits.ensures ∙ c.if-is_of_16_bits.true)) refl

pub returns-else-is_of_16_bits-clause-answer : goal.returns-else-is_of_16_bits-clause-answer
returns-else-is_of_16_bits-clause-answer c =
    let attributes = c.args.attributes.now in
    let first = c.in-Some.first.now in
    c.list-else-is_of_16_bits.ensures.listed
    ∙ types_sent (mtu_of c.args.out.now) c.args.start 18 LONG_TYPES first attributes (sym c.first.ensures.value ∙ ap option_copied c.in-Some.is)
    (long_size first (sym c.is_of_16_bits.ensures ∙ c.if-is_of_16_bits.false)) refl
