use Rattle.std.proofs.Common.{◌≡◌, length}
use Rattle.att_values.proofs.Pushes.{appended, with_place, cells_pushed, laid_out_pushed}
use Rattle.att_values.proofs.flat_store.FlatStore.push.Goals as goal

pub invariant_of-self-2 : goal.invariant_of-self-2
invariant_of-self-2 c =
    let octets = c.self.inside.octets in
    let places = c.self.inside.places.items in
    let new = c.append.new.all in
    let is : new.items ≡ appended octets.items c.args.octets.now c.args.room = rw (← c.from.ensures) c.in_ok-append.ensures.ok in
    let pushed : c.push.new.self.items ≡ with_place places c.len.result (length c.args.octets.now) c.args.room =
    rw (← c.in_ok-reserve.ensures.items) c.in_ok-push.ensures.items in
    laid_out_pushed octets.items new.items c.args.octets.now places c.push.new.self.items octets.len new.len c.len.result c.args.room
    c.self.invariant octets.ok.0 new.ok.0 is c.len.ensures pushed c.requires.fits c.requires.room

pub returns-clause-ok : goal.returns-clause-ok
returns-clause-ok c =
    let octets = c.self.inside.octets in
    let places = c.self.inside.places.items in
    let new = c.append.new.all in
    let is : new.items ≡ appended octets.items c.args.octets.now c.args.room = rw (← c.from.ensures) c.in_ok-append.ensures.ok in
    let pushed : c.push.new.self.items ≡ with_place places c.len.result (length c.args.octets.now) c.args.room =
    rw (← c.in_ok-reserve.ensures.items) c.in_ok-push.ensures.items in
    cells_pushed octets.items new.items c.args.octets.now places c.push.new.self.items c.args.self.now octets.len c.len.result c.args.room
    c.self.invariant octets.ok.0 c.self.view_is is c.len.ensures pushed
