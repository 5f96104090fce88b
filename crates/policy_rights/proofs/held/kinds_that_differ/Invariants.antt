use Rattle.std.proofs.Common.{◌≡◌, drop}
use Rattle.policy_rights.specs.Held.{kinds_that_differ, with_kinds}
use Rattle.policy_rights.proofs.held.kinds_that_differ.Given as goal

-- with those that are left all are taken
abbrev pub invariant-loop-kind : goal.invariant-loop-kind
invariant-loop-kind l =
    with_kinds l.table.attributes l.firsts.items (drop l.kind-index l.kinds) ≡ kinds_that_differ l.table.attributes l.kinds
