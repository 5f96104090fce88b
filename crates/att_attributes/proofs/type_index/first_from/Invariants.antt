use Rattle.std.proofs.Common.{ℕ, ◌-◌, ◌≤◌}
use Rattle.std.specs.Prelude.{min}
use Rattle.att_attributes.specs.TypeIndex.{place_from, reach}
use Rattle.att_attributes.proofs.Search.{IsNarrowed, IsPaid}
use Rattle.att_attributes.proofs.type_index.first_from.Given as goal

abbrev pub invariant-loop-low : goal.invariant-loop-low
invariant-loop-low g l =
    let count = g.S.Steps.count in
    let place = min (place_from l.handles l.handle) l.most in
    IsNarrowed place place l.low l.high l.most
    × ((turns : ℕ) → l.most - l.least ≤ reach turns → IsPaid (l.high - l.low) (count l.fn.steps) turns (count l.steps))

abbrev pub decreases-loop-low : goal.decreases-loop-low
decreases-loop-low g l = l.high - l.low
