use Rattle.std.proofs.Common.{rules}
use Rattle.device_io.proofs.Reached.{by_notice}
use Rattle.device_io.proofs.controller.Controller.note.Goals as goal

pub invariant_of-self : goal.invariant_of-self
invariant_of-self c = by_notice c.args.connects c.args.is_held c.args.now _ _ c.self.invariant (search rules)

pub invariant_of-self-else-connects : goal.invariant_of-self-else-connects
invariant_of-self-else-connects c = by_notice c.args.connects c.args.is_held c.args.now _ _ c.self.invariant (search rules)
