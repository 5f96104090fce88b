use Rattle.std.proofs.Common.{rules}
use Rattle.device_session.specs.Incoming.{reading_of}
use Rattle.device_session.proofs.Reached.{by_arrival}
use Rattle.device_session.proofs.seats.Seats.arrived.Goals as goal

pub invariant_of-self : goal.invariant_of-self
invariant_of-self c = by_arrival c.args.id (reading_of c.args.read) _ _ c.self.invariant c.requires.few (search rules)
