use Rattle.std.proofs.Common.{rules, false, true}
use Rattle.device_io.proofs.Reached.{by_writing}
use Rattle.device_io.proofs.controller.Controller.write.Goals as goal

pub invariant_of-self : goal.invariant_of-self
invariant_of-self c = by_writing c.args.octets.now c.args.now _ _ false c.self.invariant (search rules)

pub invariant_of-self-2 : goal.invariant_of-self-2
invariant_of-self-2 c = by_writing c.args.octets.now c.args.now _ _ true c.self.invariant (search rules)
