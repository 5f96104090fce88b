use Rattle.std.proofs.Common.{rules}
use Rattle.device_session.proofs.Reached.{by_watch}
use Rattle.device_session.proofs.seats.Seats.watch.Goals as goal

pub invariant_of-self : goal.invariant_of-self
invariant_of-self c = by_watch c.args.now _ _ c.self.invariant (search rules)
