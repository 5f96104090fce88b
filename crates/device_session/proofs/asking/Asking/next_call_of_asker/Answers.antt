use Rattle.std.proofs.Common.{rules, length}
use Rattle.device_session.proofs.Steps.{by_continuing}
use Rattle.device_session.proofs.asking.Asking.next_call_of_asker.Goals as goal

pub invariant_of-self : goal.invariant_of-self
invariant_of-self c =
    by_continuing _ _ c.args.seats.now c.args.names.now.named c.args.time (length c.args.buffer.now) c.self.invariant (search rules)
