use Rattle.std.proofs.Common.{refl, sym, ◌∙◌}
use Rattle.att_policy.proofs.RulesInOrder.{is_permitted, is_first_broken}
use Rattle.att_policy.proofs.policy.first_broken_in_place.Goals as goal

pub returns-in_err-rule-clause-permitted : goal.returns-in_err-rule-clause-permitted
returns-in_err-rule-clause-permitted c =
    (λ _. is_permitted _ _ _ (sym c.first_broken_rule.ensures ∙ c.in_err-rule.was), λ _. rw c.from_residual.ensures refl)

pub returns-clause-first : goal.returns-clause-first
returns-clause-first c = is_first_broken _ _ _ _ (sym c.first_broken_rule.ensures ∙ c.in_ok-rule.was)
