use Rattle.att_values.proofs.Slots.{part_in_slot}
use Rattle.att_values.proofs.plain_store.PlainStore.patch_at.Goals as goal

pub returns : goal.returns
returns c =
    part_in_slot c.self.inside.slots.items c.args.self.now c.args.handle c.from.result c.args.offset c.args.keep c.args.part.now c.index_mut-slot.result.now
    c.write_part.new.value
    c.self.view_is c.requires.exists c.from.ensures c.index_mut-slot.ensures.value c.write_part.ensures
