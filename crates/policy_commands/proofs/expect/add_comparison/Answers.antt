use Rattle.std.proofs.Common.{◌≡◌, true, List, [], ◌∷◌, refl, sym, ap, ◌∙◌}
use Rattle.policy_expectations.specs.declared.difference.Difference.{Difference}
use Rattle.policy_commands.specs.Expect.{is_none_of}
use Rattle.policy_commands.proofs.expect.add_comparison.Goals as goal

none_at_all : (found : List Difference) → is_none_of found ≡ true → found ≡ []
none_at_all [] is = refl
none_at_all (difference ∷ differences) is = absurd (cc is)

pub returns-clause-all_hold : goal.returns-clause-all_hold
returns-clause-all_hold c = (
  λ holds.
      c.in_ok-found.ensures.holds.0
      (sym c.deref-2.ensures.value ∙ none_at_all c.deref-2.result.now (sym c.is_none_of.ensures ∙ holds)),
  λ hold.
      c.is_none_of.ensures
      ∙ ap is_none_of (c.deref-2.ensures.value ∙ c.in_ok-found.ensures.holds.1 hold),
)
