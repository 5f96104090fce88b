use Rattle.std.proofs.Common.{◌≡◌, ◌+◌, arith, ap}
use Rattle.std.proofs.lemmas.List.{with_items_is}
use Rattle.att_values.proofs.InPlace.{written, stands_at, part_written, part_laid_out}
use Rattle.att_values.proofs.flat_store.FlatStore.patch_at.Goals as goal

pub write_part-requires : goal.write_part-requires
write_part-requires c =
    let octets = c.self.inside.octets in
    let here = stands_at octets.items c.self.inside.places.items c.args.self.now octets.len c.args.handle c.from.result c.index_mut-place.result.now
    c.self.invariant octets.ok.0 c.self.view_is c.requires.exists c.from.ensures c.index_mut-place.ensures.value in
    let room = ap (λ cell. cell.room) here.cell in
    omega (arith, here.room_ends, room, c.requires.fits)

pub set_end-requires : goal.set_end-requires
set_end-requires c =
    let octets = c.self.inside.octets in
    let here = stands_at octets.items c.self.inside.places.items c.args.self.now octets.len c.args.handle c.from.result c.index_mut-place.result.now
    c.self.invariant octets.ok.0 c.self.view_is c.requires.exists c.from.ensures c.index_mut-place.ensures.value in
    let room = ap (λ cell. cell.room) here.cell in
    omega (arith, here.room, room, c.requires.fits)

pub invariant_of-self : goal.invariant_of-self
invariant_of-self c =
    let octets = c.self.inside.octets in
    rw c.set_end.ensures
    (part_laid_out octets.items c.args.part.now c.self.inside.places.items c.args.self.now octets.len c.args.handle c.from.result c.args.offset c.args.keep
    c.index_mut-place.result.now
    c.self.invariant octets.ok.0 c.self.view_is c.requires.exists c.from.ensures c.index_mut-place.ensures.value c.requires.fits)

pub returns : goal.returns
returns c =
    let octets = c.self.inside.octets in
    let wrote : c.write_part.new.octets ≡ written octets.items (c.index_mut-place.result.now.start + c.args.offset) c.args.part.now =
    rw (← c.deref_mut.ensures.value) c.write_part.ensures in
    rw (c.set_end.ensures, with_items_is octets c.write_part.new.octets (omega arith))
    (part_written octets.items c.write_part.new.octets c.args.part.now c.self.inside.places.items c.args.self.now octets.len c.args.handle c.from.result
    c.args.offset c.args.keep c.index_mut-place.result.now
    c.self.invariant octets.ok.0 c.self.view_is c.requires.exists c.from.ensures c.index_mut-place.ensures.value c.requires.offset c.requires.fits wrote)
