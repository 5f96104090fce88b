use Rattle.std.proofs.Common.{drop, map}
use Rattle.device_session.specs.declared.heard.Change.{Change}
use Rattle.device_session.specs.Missed.{Missed}
use Rattle.device_session.specs.Telling.{AreNoted}
use Rattle.device_session.proofs.output.note_changes.Given as goal

-- Once the changes that are left are noted, all are.
abbrev pub invariant-loop-change : goal.invariant-loop-change
invariant-loop-change g l =
    (last : Missed) → AreNoted (map (λ (change : Change). change.subject) (drop l.change-index l.changes)) l.seats l.missed last
    → AreNoted (map (λ (change : Change). change.subject) l.changes) l.seats l.fn.missed last
