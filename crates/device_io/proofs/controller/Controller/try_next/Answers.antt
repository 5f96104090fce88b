use Rattle.std.proofs.Common.{rules}
use Rattle.device_io.specs.Connector.Attempt.{Begins, FindsNobody, Loses, Misses, Reaches}
use Rattle.device_io.proofs.Reached.{by_try}
use Rattle.device_io.proofs.controller.Controller.try_next.Goals as goal

pub invariant_of-self : goal.invariant_of-self
invariant_of-self g c = by_try c.args.now _ _ c.self.invariant (FindsNobody, search rules)

pub invariant_of-self-in-Begun : goal.invariant_of-self-in-Begun
invariant_of-self-in-Begun g c = by_try c.args.now _ _ c.self.invariant (Begins, search rules)

pub invariant_of-self-in-There : goal.invariant_of-self-in-There
invariant_of-self-in-There g c = by_try c.args.now _ _ c.self.invariant (Reaches, search rules)

pub invariant_of-self-in-Missed : goal.invariant_of-self-in-Missed
invariant_of-self-in-Missed g c = by_try c.args.now _ _ c.self.invariant (Misses c.in-Missed.missed, search rules)

pub invariant_of-self-in-Unwatched : goal.invariant_of-self-in-Unwatched
invariant_of-self-in-Unwatched g c = by_try c.args.now _ _ c.self.invariant (Loses, search rules)

pub returns-in-Missed : goal.returns-in-Missed
returns-in-Missed g c = (Misses c.in-Missed.missed, search rules)
