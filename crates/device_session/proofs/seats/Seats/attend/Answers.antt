use Rattle.std.proofs.Common.{rules}
use Rattle.device_session.proofs.Reached.{by_attending}
use Rattle.device_session.proofs.seats.Seats.attend.Goals as goal

pub invariant_of-self : goal.invariant_of-self
invariant_of-self c = by_attending c.args.now _ _ c.self.invariant (search rules)

pub invariant_of-self-in-Comes : goal.invariant_of-self-in-Comes
invariant_of-self-in-Comes c = by_attending c.args.now _ _ c.self.invariant (search rules)
