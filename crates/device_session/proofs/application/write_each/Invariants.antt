use Rattle.device_session.specs.Application.{IsSent}
use Rattle.device_session.proofs.application.write_each.Given as goal

-- Some of what waited was accepted, or nothing yet.
abbrev pub invariant-loop-write : goal.invariant-loop-write
invariant-loop-write l = IsSent l.id l.fn.seats l.seats
