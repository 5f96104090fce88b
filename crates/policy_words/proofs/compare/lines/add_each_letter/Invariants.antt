use Rattle.std.proofs.Common.{◌≡◌, ◌++◌, drop}
use Rattle.std.specs.List.{flat_map}
use Rattle.policy_words.specs.compare.Lines.{letter_text}
use Rattle.policy_words.proofs.compare.lines.add_each_letter.Given as goal

-- those so far and those that are left are all
abbrev pub invariant-loop-column : goal.invariant-loop-column
invariant-loop-column l =
    l.text.items ++ flat_map (letter_text l.fn.kinds) (drop l.column-index l.columns)
    ≡ l.fn.text.items ++ flat_map (letter_text l.fn.kinds) l.columns
