use Rattle.std.proofs.Common.{◌<◌, sym, subst, rules}
use Rattle.std.proofs.lemmas.List.Elements.{All-filter}
use Rattle.arrayvec.proofs.ArrayVecLemmas.{filter-from_retain}
use Rattle.app_lines.specs.Names.{AreBelow}
use Rattle.app_lines.specs.declared.names.Named.{Named}
use Rattle.app_lines.proofs.names.remove.Goals as goal

pub returns-clause-others : goal.returns-clause-others
returns-clause-others c = filter-from_retain _ _ _ (λ x b after y called. search rules) _ _ c.retain.ensures.filtered

pub returns-clause-below : goal.returns-clause-below
returns-clause-below c = λ next below.
    subst (AreBelow next) (sym (returns-clause-others c))
    (All-filter _ (λ (one : Named). one.name < next) c.args.named.now.items below)
