use Rattle.std.proofs.Common.{Option, sym, ap, ◌∙◌}
use Rattle.att_policy.specs.declared.guard.Need.{Need}
use Rattle.policy_expectations.specs.Needed.{is_same_need}
use Rattle.policy_expectations.proofs.RightNeeds.{agrees}
use Rattle.policy_expectations.proofs.difference.right_differs.Goals as goal

pub returns-then-is_same_need : goal.returns-then-is_same_need
returns-then-is_same_need c =
    sym
    (agrees c.args.table.now.attributes c.args.kinds.now c.args.meant c.args.handle c.args.right
    (ap (λ (need : Option Need). is_same_need need c.args.meant) (sym c.need_for.ensures.need) ∙ sym c.is_same_need.ensures ∙ c.if-is_same_need.true))
