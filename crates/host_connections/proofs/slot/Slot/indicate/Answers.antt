use Rattle.host_connections.proofs.slot.Slot.indicate.Goals as goal

pub invariant_of-self : goal.invariant_of-self
invariant_of-self c = c.self.invariant
