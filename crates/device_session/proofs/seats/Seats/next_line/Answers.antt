use Rattle.std.proofs.Common.{rules}
use Rattle.device_session.proofs.Reached.{by_choosing}
use Rattle.device_session.proofs.seats.Seats.next_line.Goals as goal

pub invariant_of-self : goal.invariant_of-self
invariant_of-self c = by_choosing c.args.now _ _ c.self.invariant (search rules)
