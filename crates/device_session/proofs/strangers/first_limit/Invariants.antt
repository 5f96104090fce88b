use Rattle.std.proofs.Common.{◌≡◌, drop, map}
use Rattle.std.specs.Prelude.{fold}
use Rattle.device_session.specs.Strangers.{due_of, first_limit, sooner_of}
use Rattle.device_session.proofs.strangers.first_limit.Given as goal

-- The first so far and those of the clients that are left have the same first as all.
abbrev pub invariant-loop-stranger : goal.invariant-loop-stranger
invariant-loop-stranger l = fold sooner_of l.first (map (due_of l.limits) (drop l.stranger-index l.known)) ≡ first_limit l.limits l.known
