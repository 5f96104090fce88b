use Rattle.std.proofs.Common.{◌≡◌, drop}
use Rattle.device_session.specs.Strangers.{first_due}
use Rattle.device_session.proofs.strangers.first_due.Given as goal

-- The first of those that are left is the first of all.
abbrev pub invariant-loop-stranger : goal.invariant-loop-stranger
invariant-loop-stranger l = first_due l.limits l.now l.known ≡ first_due l.limits l.now (drop l.stranger-index l.known)
