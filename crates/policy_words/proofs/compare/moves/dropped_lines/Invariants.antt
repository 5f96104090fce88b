use Rattle.std.proofs.Common.{◌≡◌, ◌++◌, drop}
use Rattle.std.specs.List.{flat_map}
use Rattle.policy_words.specs.compare.Lines.{dropped_line}
use Rattle.policy_words.proofs.compare.moves.dropped_lines.Given as goal

-- those so far and those that are left are all
abbrev pub invariant-loop-attr : goal.invariant-loop-attr
invariant-loop-attr l =
    l.lines.items ++ flat_map (dropped_line l.table.attributes l.other.attributes) (drop l.attr-index l.attributes)
    ≡ flat_map (dropped_line l.table.attributes l.other.attributes) l.attributes
