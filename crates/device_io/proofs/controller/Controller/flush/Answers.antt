use Rattle.std.proofs.Common.{rules}
use Rattle.device_io.proofs.Reached.{by_flush}
use Rattle.device_io.proofs.controller.Controller.flush.Goals as goal

pub invariant_of-self : goal.invariant_of-self
invariant_of-self c = by_flush c.args.now _ _ c.self.invariant (search rules)
