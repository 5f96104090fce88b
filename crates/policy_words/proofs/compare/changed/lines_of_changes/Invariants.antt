use Rattle.std.proofs.Common.{◌≡◌, ◌++◌, drop}
use Rattle.std.specs.List.{flat_map}
use Rattle.policy_words.specs.compare.Changed.{changed_lines}
use Rattle.policy_words.proofs.compare.changed.lines_of_changes.Given as goal

-- those so far and those that are left are all
abbrev pub invariant-loop-pair : goal.invariant-loop-pair
invariant-loop-pair l =
    l.lines.items ++ flat_map (changed_lines l.table l.other l.pairs l.others) (drop l.pair-index l.pairs)
    ≡ flat_map (changed_lines l.table l.other l.pairs l.others) l.pairs
