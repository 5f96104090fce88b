use Rattle.std.proofs.Common.{◌≡◌, drop}
use Rattle.device_session.specs.Strangers.{found_at}
use Rattle.device_session.proofs.strangers.found_at.Given as goal

-- It is found among those that are left, or not at all.
abbrev pub invariant-loop-stranger : goal.invariant-loop-stranger
invariant-loop-stranger l = found_at l.known l.ordinal l.now ≡ found_at (drop l.stranger-index l.known) l.ordinal l.now
