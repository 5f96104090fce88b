use Rattle.std.proofs.Common.{◌≡◌, true, ap, sym, ◌∙◌}
use Rattle.le_h4.specs.Deframer.{Deframing}
use Rattle.le_h4.specs.Whole.{is_at_border}
use Rattle.le_h4.proofs.Lying.{whole_divides, whole_spelled, whole_unfinished}
use Rattle.le_h4.proofs.deframer.Deframer.whole_packet.Goals as goal

pub returns-then-self-clause-divided : goal.returns-then-self-clause-divided
returns-then-self-clause-divided c =
    let at_border : is_at_border c.args.self.now ≡ true = ap (λ (deframing : Deframing). is_at_border deframing) (sym c.self.view_is) ∙ sym c.self.invariant.1
    ∙ c.if-self.true in
    whole_divides c.args.self.now c.args.octets.now at_border c.first_packet.result c.first_packet.ensures.first c.first_packet.ensures.within

pub returns-then-self-clause-spelled : goal.returns-then-self-clause-spelled
returns-then-self-clause-spelled c =
    let at_border : is_at_border c.args.self.now ≡ true = ap (λ (deframing : Deframing). is_at_border deframing) (sym c.self.view_is) ∙ sym c.self.invariant.1
    ∙ c.if-self.true in
    whole_spelled c.args.self.now c.args.octets.now at_border c.first_packet.result c.first_packet.ensures.first c.first_packet.ensures.within

pub returns-then-self-clause-unfinished : goal.returns-then-self-clause-unfinished
returns-then-self-clause-unfinished c =
    let at_border : is_at_border c.args.self.now ≡ true = ap (λ (deframing : Deframing). is_at_border deframing) (sym c.self.view_is) ∙ sym c.self.invariant.1
    ∙ c.if-self.true in
    whole_unfinished c.args.self.now c.args.octets.now at_border c.first_packet.result
