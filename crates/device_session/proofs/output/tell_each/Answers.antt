use Rattle.std.proofs.Common.{subst, ap, ◌∙◌}
use Rattle.octet_io.specs.Number.{Octets}
use Rattle.device_session.specs.Pending.{Line}
use Rattle.device_session.specs.Telling.{AreSent, IsNoted}
use Rattle.device_session.specs.declared.pending.Subject.{Subject}
use Rattle.device_session.proofs.Replies.{all_told, told_more}
use Rattle.device_session.proofs.output.tell_each.Goals as goal

pub loop-line-preserved : goal.loop-line-preserved
loop-line-preserved g c =
    λ after last rest.
    c.loop-line.invariant after last
    (told_more c.args.lines.now c.loop-line.line-index c.line-item.result c.loop-line.seats c.tell_lines.new.seats after c.loop-line.missed c.note_told.new.missed last c.loop-line-test.true
    (subst (λ (text : Octets). AreSent text c.loop-line.seats c.tell_lines.new.seats)
    (c.text.ensures ∙ ap (λ (line : Line). line.text) c.line-item.is) c.tell_lines.ensures)
    (subst (λ (subject : Subject). IsNoted subject c.tell_lines.new.seats c.loop-line.missed c.note_told.new.missed)
    (c.subject.ensures ∙ ap (λ (line : Line). line.subject) c.line-item.is) c.note_told.ensures)
    rest)

pub returns : goal.returns
returns g c =
    c.loop-line.invariant c.loop-line.seats c.loop-line.missed
    (all_told c.args.lines.now c.loop-line.line-index c.loop-line.seats c.loop-line.missed c.loop-line-test.false)
