use Rattle.std.proofs.Common.{◌≡◌, ◌<◌, length, get_or, sym, ◌∙◌, arith}
use Rattle.att_attributes.specs.Attributes.{type_at}
use Rattle.att_attributes.specs.TypeIndex.{run_of}
use Rattle.att_attributes.proofs.OfType.{index_given, length_given}
use Rattle.att_attributes.proofs.Runs.{begun_run, one_run_more, same_run}
use Rattle.att_attributes.proofs.type_index.runs_by_type.Goals as goal
use Rattle.att_attributes.proofs.type_index.runs_by_type.Goals.{then-from-place, else-from-place}

pub end_from-requires-clause-most : goal.end_from-requires-clause-most
end_from-requires-clause-most c = length_given _ _ c.requires.numbered c.requires.index

pub end_from-requires-clause-index : goal.end_from-requires-clause-index
end_from-requires-clause-index c = index_given _ _ c.requires.numbered c.requires.index

pub loop-place-preserved : goal.loop-place-preserved
loop-place-preserved c =
    let index = c.args.index.now in
    let kind = type_at c.args.attributes.now in
    let place = c.loop-place.place in
    let ordered = (index_given _ _ c.requires.numbered c.requires.index).ordered in
    let within : place < length index = c.loop-place-test.true in
    let is : c.if-from-place.run ≡ run_of kind index (kind (get_or index place 0)) =
    elim c.if-from-place.branch [
      | then-from-place w ↦
          let ended : c.loop-place.run.end ≡ place = sym c.from.ensures ∙ w.if-from-place.true in
          w.run-is ∙ begun_run kind index place c.loop-place.run w.end_from.result ordered within c.loop-place.invariant.1 ended w.end_from.ensures
      | else-from-place w ↦
          let left : place < c.loop-place.run.end = omega (arith, c.loop-place.invariant.1.goes_on, c.from.ensures, w.if-from-place.false) in
          w.run-is ∙ same_run kind index place c.loop-place.run ordered within c.loop-place.invariant.1 left
    ] in
    one_run_more kind index place c.if-from-place.run c.loop-place.runs.items _ ordered within c.loop-place.invariant.0 is c.in_ok-push.ensures.items
