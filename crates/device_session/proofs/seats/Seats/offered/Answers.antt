use Rattle.std.proofs.Common.{rules}
use Rattle.device_session.proofs.Reached.{by_offer}
use Rattle.device_session.proofs.seats.Seats.offered.Goals as goal

pub invariant_of-self : goal.invariant_of-self
invariant_of-self c = by_offer c.args.id _ _ c.self.invariant (search rules)
