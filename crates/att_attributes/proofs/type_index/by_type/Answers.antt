use Rattle.std.proofs.Common.{◌<◌, ◌≤◌, length, arith}
use Rattle.std.proofs.lemmas.Grind.{common_steps}
use Rattle.att_attributes.proofs.OfType.{index_so_far, one_more}
use Rattle.att_attributes.proofs.type_index.by_type.Goals as goal

pub place_of-first-requires : goal.place_of-first-requires
place_of-first-requires c =
    let within : c.loop-place.place ≤ length c.args.attributes.now = grind (arith, common_steps) in
    index_so_far c.args.attributes.now c.deref.result.now c.loop-place.index.items c.loop-place.place c.requires within c.deref.ensures.value
    c.loop-place.invariant

pub loop-place-preserved : goal.loop-place-preserved
loop-place-preserved c =
    let within : c.loop-place.place ≤ length c.args.attributes.now = grind (arith, common_steps) in
    let first : 0 < c.loop-place.place = grind (arith, common_steps) in
    one_more c.args.attributes.now c.deref.result.now c.loop-place.index.items _ c.loop-place.place c.place_of-first.result _ c.requires first within
    c.deref.ensures.value c.loop-place.invariant c.place_of-first.ensures.place c.in_ok-insert.ensures.items
