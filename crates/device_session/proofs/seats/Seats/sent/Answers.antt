use Rattle.std.proofs.Common.{rules}
use Rattle.device_session.proofs.Reached.{by_sending}
use Rattle.device_session.proofs.seats.Seats.sent.Goals as goal

pub invariant_of-self : goal.invariant_of-self
invariant_of-self c = by_sending c.args.id c.args.count _ _ c.self.invariant (search rules)
