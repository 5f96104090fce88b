use Rattle.std.proofs.Common.{length, ◌-◌}
use Rattle.att_attributes.specs.Attributes.{type_at}
use Rattle.att_attributes.specs.TypeIndex.{place_of}
use Rattle.att_attributes.proofs.Search.{IsNarrowed}
use Rattle.att_attributes.proofs.type_index.place_of.Given as goal

abbrev pub invariant-loop-low : goal.invariant-loop-low
invariant-loop-low l =
    let place = place_of (type_at l.attributes) l.index l.kind in
    IsNarrowed place place l.low l.high (length l.index)

abbrev pub decreases-loop-low : goal.decreases-loop-low
decreases-loop-low l = l.high - l.low
