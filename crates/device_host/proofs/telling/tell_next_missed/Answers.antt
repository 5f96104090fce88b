use Rattle.std.proofs.Common.{rules}
use Rattle.device_host.proofs.Reminders.{none_told, one_told}
use Rattle.device_host.proofs.telling.tell_next_missed.Goals as goal

pub returns-in-Ok-None-clause-missed : goal.returns-in-Ok-None-clause-missed
returns-in-Ok-None-clause-missed g c = none_told _ _ _ c.next_missed.ensures.seats

pub returns-in-Err-clause-missed : goal.returns-in-Err-clause-missed
returns-in-Err-clause-missed g c = none_told _ _ _ c.next_missed.ensures.seats

pub returns-in-Some-clause-missed : goal.returns-in-Some-clause-missed
returns-in-Some-clause-missed g c = one_told _ c.in-Ok-Some.handle c.in-Some.value.now _ _ (search rules) (search rules)

pub returns-in_default-clause-missed : goal.returns-in_default-clause-missed
returns-in_default-clause-missed g c = none_told _ _ _ c.next_missed.ensures.seats
