use Rattle.std.proofs.Common.{◌≡◌, ◌++◌, drop}
use Rattle.std.specs.List.{flat_map}
use Rattle.policy_words.specs.compare.Lines.{gain_line}
use Rattle.policy_words.proofs.compare.lines.add_gain_lines.Given as goal

-- those so far and those that are left are all
abbrev pub invariant-loop-gain : goal.invariant-loop-gain
invariant-loop-gain l =
    l.text.items ++ flat_map (gain_line l.fn.attr l.fn.columns l.fn.gains) (drop l.gain-index l.gains)
    ≡ l.fn.text.items ++ flat_map (gain_line l.fn.attr l.fn.columns l.fn.gains) l.gains
