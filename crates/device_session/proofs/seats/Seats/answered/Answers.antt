use Rattle.std.proofs.Common.{rules}
use Rattle.device_session.proofs.Reached.{by_answer}
use Rattle.device_session.proofs.seats.Seats.answered.Goals as goal

pub invariant_of-self : goal.invariant_of-self
invariant_of-self c = by_answer c.args.is_accepted _ _ c.self.invariant (search rules)
