use Rattle.std.proofs.Common.{rules, length}
use Rattle.device_session.specs.Seats.{after_choosing}
use Rattle.device_session.proofs.Steps.{by_beginning}
use Rattle.device_session.proofs.asking.Asking.next_call.Goals as goal

pub invariant_of-self : goal.invariant_of-self
invariant_of-self c =
    by_beginning _ _ (after_choosing c.args.seats.now c.args.time) c.args.names.now.named c.args.time (length c.args.buffer.now) c.self.invariant (search rules)
