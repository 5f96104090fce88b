use Rattle.std.proofs.Common.{length, rules, arith, ap}
use Rattle.arrayvec.proofs.ArrayVecLemmas.{filter-from_retain}
use Rattle.device_loop.proofs.unsaved.remove.Goals as goal

pub returns-clause-after : goal.returns-clause-after
returns-clause-after c = filter-from_retain _ _ _ (λ x b after y called. search rules) _ _ c.retain.ensures.filtered

pub returns-clause-few : goal.returns-clause-few
returns-clause-few c = omega (arith, ap length (returns-clause-after c))
