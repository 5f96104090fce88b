use Rattle.std.proofs.Common.{◌<◌, length, ◌∙◌, arith}
use Rattle.gatt_subs.proofs.Gathered.{entries_more}
use Rattle.gatt_subs.proofs.contents.all_entries.Goals as goal

pub loop-place-preserved : goal.loop-place-preserved
loop-place-preserved c =
    let place = c.loop-place.place in
    let within : place < length c.args.bonds.now = omega (arith, c.loop-place-test.true) in
    let within' : place < length c.args.peers.now = omega (arith, c.requires) in
    entries_more c.args.peers.now c.args.bonds.now place _ _ _ _ _ _ within' within (c.as_slice.ensures.value ∙ c.entries_of-more.ensures)
    c.in_ok-extend_from_slice.ensures.items c.loop-place.invariant
