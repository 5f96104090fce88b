use Rattle.std.proofs.Common.{◌≡◌, ◌++◌, drop}
use Rattle.std.specs.List.{flat_map}
use Rattle.policy_words.specs.Legend.{kind_lines}
use Rattle.policy_words.proofs.legend.add_all_kinds.Given as goal

-- what stands and what is left are all
abbrev pub invariant-loop-kind : goal.invariant-loop-kind
invariant-loop-kind l =
    l.text.items ++ flat_map (kind_lines l.keys l.columns l.kinds) (drop l.kind-index l.kinds)
    ≡ l.fn.text.items ++ flat_map (kind_lines l.keys l.columns l.kinds) l.kinds
