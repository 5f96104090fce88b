use Rattle.std.proofs.Common.{◌≡◌, ℕ, drop}
use Rattle.std.specs.Prelude.{fold, Option}
use Rattle.att_policy.specs.declared.standing.KeyFacts.{KeyFacts}
use Rattle.policy_rights.specs.Held.{least_short_size, lesser, short_writer_size}
use Rattle.policy_rights.proofs.held.least_short_size.Given as goal

-- with those that are left all are compared
abbrev pub invariant-loop-key : goal.invariant-loop-key
invariant-loop-key l =
    fold (λ (least : Option ℕ) (key : Option KeyFacts). lesser least (short_writer_size l.fn.table.attributes l.fn.handle key)) l.least
    (drop l.key-index l.columns)
    ≡ least_short_size l.fn.table.attributes l.fn.handle l.columns
