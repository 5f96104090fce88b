use Rattle.std.proofs.Common.{◌≡◌, map, take}
use Rattle.att_attributes.specs.Attributes.{type_at}
use Rattle.att_attributes.specs.TypeIndex.{run_of}
use Rattle.att_attributes.proofs.Runs.{IsRunBefore}
use Rattle.att_attributes.proofs.type_index.runs_by_type.Given as goal

abbrev pub invariant-loop-place : goal.invariant-loop-place
invariant-loop-place l =
    let kind = type_at l.attributes in
    (l.runs.items ≡ map (λ handle. run_of kind l.index (kind handle)) (take l.place l.index)) × IsRunBefore kind l.index l.place l.run
