use Rattle.std.proofs.Common.{drop}
use Rattle.device_session.specs.Seats.{Seats}
use Rattle.device_session.specs.Missed.{Missed}
use Rattle.device_session.specs.Telling.{AreLinesTold}
use Rattle.device_session.proofs.output.tell_each.Given as goal

-- Once the lines that are left are sent, all are.
abbrev pub invariant-loop-line : goal.invariant-loop-line
invariant-loop-line g l =
    (after : Seats) (last : Missed) → AreLinesTold (drop l.line-index l.lines) l.seats l.missed after last
    → AreLinesTold l.lines l.fn.seats l.fn.missed after last
