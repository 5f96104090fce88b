use Rattle.std.proofs.Common.{◌≡◌, drop}
use Rattle.std.specs.Prelude.{fold}
use Rattle.device_session.specs.Strangers.{sooner_of}
use Rattle.device_session.specs.Timeout.{first_of}
use Rattle.device_session.proofs.timeout.first_of.Given as goal

-- The first so far and those that are left have the same first as all.
abbrev pub invariant-loop-time : goal.invariant-loop-time
invariant-loop-time l = fold sooner_of l.first (drop l.time-index l.times) ≡ first_of l.times
