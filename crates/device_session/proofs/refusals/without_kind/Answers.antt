use Rattle.std.proofs.Common.{rules}
use Rattle.arrayvec.proofs.ArrayVecLemmas.{filter-from_retain}
use Rattle.device_session.proofs.refusals.without_kind.Goals as goal

pub returns : goal.returns
returns c = filter-from_retain _ _ _ (λ x b after y called. search rules) _ _ c.retain.ensures.filtered
