use Rattle.std.proofs.Common.{◌≡◌, ◌++◌, drop}
use Rattle.std.specs.Prelude.{filter}
use Rattle.policy_rights.specs.Columns.{has_key}
use Rattle.policy_words.proofs.may.links.add_held.Given as goal

-- what stands and what is left are all
abbrev pub invariant-loop-kind : goal.invariant-loop-kind
invariant-loop-kind l =
    l.links.items ++ filter (has_key l.fn.keys l.fn.peer) (drop l.kind-index l.kinds) ≡ l.fn.links.items ++ filter (has_key l.fn.keys l.fn.peer) l.kinds
