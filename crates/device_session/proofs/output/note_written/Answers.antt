use Rattle.std.proofs.Common.{arith}
use Rattle.device_session.specs.declared.pending.Subject.TheVariants.{Value}
use Rattle.device_session.proofs.Replies.{all_noted, noted_more}
use Rattle.device_session.proofs.output.note_written.Goals as goal

pub loop-attribute-preserved : goal.loop-attribute-preserved
loop-attribute-preserved g c =
    λ last rest.
    c.loop-attribute.invariant last
    (noted_more Value c.args.written.now c.loop-attribute.attribute-index _ c.args.seats.now c.loop-attribute.missed c.note_told.new.missed last c.loop-attribute-test.true c.note_told.ensures rest)

pub returns : goal.returns
returns g c =
    c.loop-attribute.invariant c.loop-attribute.missed
    (all_noted Value c.args.written.now c.loop-attribute.attribute-index c.args.seats.now c.loop-attribute.missed (omega (arith, c.loop-attribute-test.false)))
