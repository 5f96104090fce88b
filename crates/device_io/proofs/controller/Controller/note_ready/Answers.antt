use Rattle.std.proofs.Common.{rules}
use Rattle.device_io.proofs.Reached.{by_ready}
use Rattle.device_io.proofs.controller.Controller.note_ready.Goals as goal

pub invariant_of-self : goal.invariant_of-self
invariant_of-self c = by_ready c.args.is_ending _ _ c.self.invariant (search rules)
