use Rattle.std.proofs.Common.{◌≡◌}
use Rattle.device_host.proofs.Reminders.{AreSomeTold}
use Rattle.device_host.proofs.telling.tell_missed.Given as goal

-- Only lines of missed values are sent so far.
abbrev pub invariant-loop-handle : goal.invariant-loop-handle
invariant-loop-handle g l =
    AreSomeTold l.host l.fn.session.seats l.session.seats
    × (l.session.pending ≡ l.fn.session.pending) × (l.session.updated ≡ l.fn.session.updated) × (l.session.names ≡ l.fn.session.names)
    × (l.session.asking ≡ l.fn.session.asking) × (l.session.controller ≡ l.fn.session.controller)
