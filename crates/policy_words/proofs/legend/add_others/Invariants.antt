use Rattle.std.proofs.Common.{◌≡◌, ◌++◌, drop}
use Rattle.std.specs.List.{flat_map}
use Rattle.policy_words.specs.Legend.{also_text}
use Rattle.policy_words.proofs.legend.add_others.Given as goal

-- what stands and what is left are all
abbrev pub invariant-loop-other : goal.invariant-loop-other
invariant-loop-other l =
    l.text.items ++ flat_map (also_text l.keys l.kinds l.peer l.name) (drop l.other-index l.columns)
    ≡ l.fn.text.items ++ flat_map (also_text l.keys l.kinds l.peer l.name) l.columns
