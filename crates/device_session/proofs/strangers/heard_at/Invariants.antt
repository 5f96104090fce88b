use Rattle.std.proofs.Common.{◌≡◌, drop}
use Rattle.device_session.specs.Strangers.{heard_at}
use Rattle.device_session.proofs.strangers.heard_at.Given as goal

-- It is found among those that are left, or not at all.
abbrev pub invariant-loop-stranger : goal.invariant-loop-stranger
invariant-loop-stranger l = heard_at l.known l.connection l.now ≡ heard_at (drop l.stranger-index l.known) l.connection l.now
