use Rattle.std.proofs.lemmas.Nat.Bits.{bit_at_set_same, bit_at_set_other}
use Rattle.host_connections.proofs.SlotBits.{slot_bits}
use Rattle.host_connections.proofs.places.Places.add.Goals as goal

pub returns-clause-added : goal.returns-clause-added
returns-clause-added c = bit_at_set_same slot_bits c.args.self.now.bits c.args.place c.requires

pub returns-clause-others : goal.returns-clause-others
returns-clause-others c = bit_at_set_other slot_bits c.args.self.now.bits c.args.place c.requires
