use Rattle.std.proofs.Common.{rules}
use Rattle.std.proofs.lemmas.Fn.{filter_same}
use Rattle.device_session.proofs.application.Application.close.Goals as goal

pub returns : goal.returns
returns c = filter_same _ _ _ (λ x b after called. search rules) _ _ c.retain.ensures.filtered
