use Rattle.std.proofs.Common.{rules}
use Rattle.device_session.proofs.Reached.{by_deafening}
use Rattle.device_session.proofs.seats.Seats.deafen.Goals as goal

pub invariant_of-self : goal.invariant_of-self
invariant_of-self c = by_deafening c.args.id _ _ c.self.invariant (search rules)
