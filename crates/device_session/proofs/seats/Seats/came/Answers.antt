use Rattle.std.proofs.Common.{rules}
use Rattle.device_session.proofs.Reached.{by_coming}
use Rattle.device_session.proofs.seats.Seats.came.Goals as goal

pub invariant_of-self : goal.invariant_of-self
invariant_of-self c = by_coming c.args.id c.args.is_remote c.args.now _ _ c.self.invariant (search rules)
