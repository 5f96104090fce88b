use Rattle.std.proofs.Common.{◌≡◌}
use Rattle.std.specs.Prelude.{replicate}
use Rattle.sim_controller.specs.Phone.{absent_phone}
use Rattle.sim_controller.proofs.phones.absent_phones.Given as goal

-- as many phones as were made
abbrev pub invariant-loop : goal.invariant-loop
invariant-loop l = l.phones.items ≡ replicate l.counter absent_phone
