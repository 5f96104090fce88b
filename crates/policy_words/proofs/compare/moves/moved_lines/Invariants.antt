use Rattle.std.proofs.Common.{◌≡◌, ◌++◌, drop}
use Rattle.std.specs.List.{flat_map}
use Rattle.policy_words.specs.compare.Lines.{moved_line}
use Rattle.policy_words.proofs.compare.moves.moved_lines.Given as goal

-- those so far and those that are left are all
abbrev pub invariant-loop-pair : goal.invariant-loop-pair
invariant-loop-pair l =
    l.lines.items ++ flat_map (moved_line l.pairs l.others) (drop l.pair-index l.pairs)
    ≡ flat_map (moved_line l.pairs l.others) l.pairs
