use Rattle.std.proofs.Common.{rules, length}
use Rattle.device_io.proofs.Reached.{by_read}
use Rattle.device_io.proofs.controller.Controller.read.Goals as goal

pub invariant_of-self : goal.invariant_of-self
invariant_of-self c =
    by_read (length c.args.buffer.now) c.args.now _ _ c.match-self.result c.self.invariant (search rules) (search rules)
