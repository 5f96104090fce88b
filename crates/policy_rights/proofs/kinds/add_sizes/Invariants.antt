use Rattle.std.proofs.Common.{◌≡◌, ◌++◌, ◌-◌}
use Rattle.policy_rights.specs.Kinds.{kinds_from, kinds_of_every_size}
use Rattle.policy_rights.proofs.kinds.add_sizes.Given as goal

-- with the sizes that are left all are there
abbrev pub invariant-loop-size : goal.invariant-loop-size
invariant-loop-size l =
    l.kinds.items ++ kinds_from (17 - l.size) l.size l.fn.authenticated l.fn.secure
    ≡ l.fn.kinds.items ++ kinds_of_every_size l.fn.authenticated l.fn.secure
