use Rattle.std.proofs.Common.{arith, ◌≤◌, length, refl}
use Rattle.std.proofs.lemmas.Grind.{common_steps}
use Rattle.att_writes.proofs.Laid.{laid, part_pushed}
use Rattle.att_writes.proofs.queue.Queue.push.Goals as goal

pub invariant_of-self : goal.invariant_of-self
invariant_of-self c = record {
  sizes = grind (arith, common_steps, laid);
  few_entries = grind (arith, common_steps, laid);
  few_octets = grind (arith, common_steps, laid);
  has_place_room = grind (arith, common_steps);
  has_octet_room = grind (arith, common_steps, laid);
}

pub returns : goal.returns
returns c =
    let i : _ = c.self.inside in
    let within : i.used ≤ length i.octets.items = grind (arith, common_steps, c.self.invariant) in
    let pushed = part_pushed i.places.items i.octets.items c.args.entry.part.now i.used
    (record { handle = c.args.entry.handle; offset = c.args.entry.offset; len = length c.args.entry.part.now }) c.self.invariant.sizes within refl in
    grind (arith, common_steps, pushed, c.write_part.ensures.front, c.push_place.ensures.items, c.self.view_is)
