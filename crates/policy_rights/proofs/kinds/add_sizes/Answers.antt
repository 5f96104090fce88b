use Rattle.std.proofs.Common.{ℕ, ◌+◌, ◌-◌, List, [], ◌∷◌, ◌++◌, Option, ap, sym, ◌∙◌, append_assoc, arith}
use Rattle.std.proofs.lemmas.List.{append-nil}
use Rattle.att_policy.specs.declared.standing.KeyFacts.{KeyFacts}
use Rattle.policy_rights.specs.Kinds.{key_kind, kinds_from}
use Rattle.policy_rights.proofs.Sizes.{next_size, none_left}
use Rattle.policy_rights.proofs.kinds.add_sizes.Goals as goal

pub loop-size-preserved : goal.loop-size-preserved
loop-size-preserved c =
    let size : ℕ = c.loop-size.size in
    let items : List (Option KeyFacts) = c.loop-size.kinds.items in
    let rest : List (Option KeyFacts) = kinds_from (17 - (size + 1)) (size + 1) c.args.authenticated c.args.secure in
    ap (λ (front : List (Option KeyFacts)). front ++ rest) c.in_ok-push.ensures.items
    ∙ append_assoc items (key_kind size c.args.authenticated c.args.secure ∷ []) rest
    ∙ ap (λ (left : List (Option KeyFacts)). items ++ left)
    (sym (next_size size c.args.authenticated c.args.secure (omega (arith, c.loop-size-test.true))))
    ∙ c.loop-size.invariant

pub returns : goal.returns
returns c = record {
  ok =
      sym (append-nil c.loop-size.kinds.items)
      ∙ ap (λ (left : List (Option KeyFacts)). c.loop-size.kinds.items ++ left)
      (sym (none_left c.loop-size.size c.args.authenticated c.args.secure (omega (arith, c.loop-size-test.false))))
      ∙ c.loop-size.invariant;
}
