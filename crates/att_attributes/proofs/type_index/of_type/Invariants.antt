use Rattle.std.proofs.Common.{length, ◌+◌, ◌-◌}
use Rattle.att_attributes.specs.Attributes.{type_at}
use Rattle.att_attributes.specs.TypeIndex.{place_of}
use Rattle.att_attributes.proofs.Search.{IsNarrowed, IsPaidFor}
use Rattle.att_attributes.proofs.type_index.of_type.Given as goal

abbrev pub invariant-loop-low : goal.invariant-loop-low
invariant-loop-low g l =
    let count = g.S.Steps.count in
    let place = place_of (type_at l.attributes) l.index in
    IsNarrowed (place l.kind) (place (l.kind + 1)) l.low l.high (length l.index) × IsPaidFor (l.high - l.low) (count l.fn.steps) (count l.steps)

abbrev pub decreases-loop-low : goal.decreases-loop-low
decreases-loop-low g l = l.high - l.low
