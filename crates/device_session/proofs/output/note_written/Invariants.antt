use Rattle.std.proofs.Common.{drop, map}
use Rattle.device_session.specs.declared.pending.Subject.TheVariants.{Value}
use Rattle.device_session.specs.Missed.{Missed}
use Rattle.device_session.specs.Telling.{AreNoted}
use Rattle.device_session.proofs.output.note_written.Given as goal

-- Once the values that are left are noted, all are.
abbrev pub invariant-loop-attribute : goal.invariant-loop-attribute
invariant-loop-attribute g l =
    (last : Missed) → AreNoted (map Value (drop l.attribute-index l.written)) l.seats l.missed last
    → AreNoted (map Value l.written) l.seats l.fn.missed last
