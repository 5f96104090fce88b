use Rattle.std.proofs.Common.{rules, None, Some}
use Rattle.device_io.proofs.Reached.{by_finish}
use Rattle.device_io.proofs.controller.Controller.finish.Goals as goal

pub invariant_of-self-in-Ok : goal.invariant_of-self-in-Ok
invariant_of-self-in-Ok g c = by_finish c.args.now _ _ c.self.invariant (None, search rules)

pub invariant_of-self-in-Err : goal.invariant_of-self-in-Err
invariant_of-self-in-Err g c = by_finish c.args.now _ _ c.self.invariant (Some c.in-Err.missed, search rules)

pub returns-in-Err : goal.returns-in-Err
returns-in-Err g c = (Some c.in-Err.missed, search rules)
