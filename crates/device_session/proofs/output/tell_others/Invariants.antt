use Rattle.std.proofs.Common.{List, drop}
use Rattle.device_session.specs.Seats.{Seats}
use Rattle.device_session.specs.Pending.{Line}
use Rattle.device_session.specs.Telling.{AreOthersTold}
use Rattle.device_session.proofs.output.tell_others.Given as goal

-- Once the text that is left is sent or waits, all is.
abbrev pub invariant-loop-change : goal.invariant-loop-change
invariant-loop-change g l =
    (after : Seats) (last : List Line)
    → AreOthersTold l.text l.begin (drop l.change-index l.changes) l.seats l.pending.lines.items after last
    → AreOthersTold l.text 0 l.changes l.fn.seats l.fn.pending.lines.items after last
