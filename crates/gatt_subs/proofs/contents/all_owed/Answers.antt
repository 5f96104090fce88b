use Rattle.std.proofs.Common.{◌<◌, length, arith}
use Rattle.gatt_subs.proofs.Gathered.{owed_more}
use Rattle.gatt_subs.proofs.contents.all_owed.Goals as goal

pub loop-place-preserved : goal.loop-place-preserved
loop-place-preserved c =
    let place = c.loop-place.place in
    let within : place < length c.args.bonds.now = omega (arith, c.loop-place-test.true) in
    let within' : place < length c.args.peers.now = omega (arith, c.requires) in
    owed_more c.args.peers.now c.args.bonds.now place _ _ _ _ _ within' within c.in_ok-push_if.ensures c.loop-place.invariant
