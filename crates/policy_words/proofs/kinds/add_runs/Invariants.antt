use Rattle.std.proofs.Common.{◌≡◌, ◌++◌, drop}
use Rattle.policy_words.specs.Kinds.{run_from}
use Rattle.policy_words.proofs.kinds.add_runs.Given as goal

-- what stands and what is left are all
abbrev pub invariant-loop-next : goal.invariant-loop-next
invariant-loop-next l =
    l.text.items ++ run_from l.first l.last (drop l.next-index l.kinds) ≡ l.fn.text.items ++ run_from l.fn.kind l.fn.kind l.kinds
