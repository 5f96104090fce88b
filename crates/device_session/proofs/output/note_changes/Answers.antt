use Rattle.std.proofs.Common.{arith}
use Rattle.device_session.specs.declared.heard.Change.{Change}
use Rattle.device_session.proofs.Replies.{all_noted, noted_more}
use Rattle.device_session.proofs.output.note_changes.Goals as goal

pub loop-change-preserved : goal.loop-change-preserved
loop-change-preserved g c =
    λ last rest.
    c.loop-change.invariant last
    (noted_more (λ (change : Change). change.subject) c.args.changes.now c.loop-change.change-index _ c.args.seats.now c.loop-change.missed c.note_told.new.missed last c.loop-change-test.true c.note_told.ensures rest)

pub returns : goal.returns
returns g c =
    c.loop-change.invariant c.loop-change.missed
    (all_noted (λ (change : Change). change.subject) c.args.changes.now c.loop-change.change-index c.args.seats.now c.loop-change.missed (omega (arith, c.loop-change-test.false)))
