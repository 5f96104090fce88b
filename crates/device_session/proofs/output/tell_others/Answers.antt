use Rattle.std.proofs.Common.{get_or, subst, arith}
use Rattle.octet_io.specs.Number.{Octets}
use Rattle.device_session.specs.declared.pending.Subject.TheVariants.{Value}
use Rattle.device_session.specs.Telling.{AreSent, IsPut}
use Rattle.device_session.proofs.Replies.{all_others, others_more}
use Rattle.device_session.proofs.output.tell_others.Goals as goal

pub loop-change-preserved : goal.loop-change-preserved
loop-change-preserved g c =
    let place = c.loop-change.change-index in
    let sent = c.tell_lines.new.seats in
    let next = c.put.new.seats in
    let waiting = c.put.new.pending.lines.items in
    λ after last rest.
    c.loop-change.invariant after last
    (others_more c.args.text.now c.loop-change.begin c.args.changes.now place (record { subject = Value 0; begin = 0; end = 0 }) c.loop-change.seats sent next after c.loop-change.pending.lines.items waiting last c.loop-change-test.true
    (subst (λ (text : Octets). AreSent text c.loop-change.seats sent) c.part.ensures c.tell_lines.ensures)
    (subst (λ (line : Octets). IsPut (get_or c.args.changes.now place (record { subject = Value 0; begin = 0; end = 0 })).subject line sent c.loop-change.pending.lines.items next waiting) c.part-line.ensures c.put.ensures)
    rest)

pub returns : goal.returns
returns g c =
    let sent = c.tell_lines-2.new.seats in
    let waiting = c.loop-change.pending.lines.items in
    c.loop-change.invariant sent waiting
    (all_others c.args.text.now c.loop-change.begin c.args.changes.now c.loop-change.change-index c.loop-change.seats sent waiting (omega (arith, c.loop-change-test.false))
    (subst (λ (text : Octets). AreSent text c.loop-change.seats sent) c.part-2.ensures c.tell_lines-2.ensures))
