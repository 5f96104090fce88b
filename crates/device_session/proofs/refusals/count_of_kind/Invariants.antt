use Rattle.std.proofs.Common.{◌≡◌, drop}
use Rattle.std.specs.Prelude.{fold}
use Rattle.device_session.specs.Refusals.{count_of_kind, plus_tally}
use Rattle.device_session.proofs.refusals.count_of_kind.Given as goal

-- The numbers so far and those of the other tallies are the sum of all.
abbrev pub invariant-loop-tally : goal.invariant-loop-tally
invariant-loop-tally l =
    count_of_kind l.connection l.kind l.tallies
    ≡ fold (plus_tally l.connection l.kind) l.count (drop l.tally-index l.tallies)
