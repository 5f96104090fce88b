use Rattle.std.proofs.Common.{◌≡◌, drop}
use Rattle.policy_rights.specs.Columns.{with_columns}
use Rattle.policy_rights.proofs.columns.add_columns.Given as goal

-- with those that are left all are added
abbrev pub invariant-loop-at : goal.invariant-loop-at
invariant-loop-at l = with_columns l.columns.items (drop l.at l.fn.keys) ≡ with_columns l.fn.columns.items l.fn.keys
