use Rattle.std.proofs.Common.{◌≡◌, ◌++◌, drop}
use Rattle.std.specs.List.{flat_map}
use Rattle.policy_words.specs.compare.Lines.{gaining_key_line}
use Rattle.policy_words.proofs.compare.lines.add_gaining_keys.Given as goal

-- what is there and what is left are all
abbrev pub invariant-loop-at : goal.invariant-loop-at
invariant-loop-at l =
    l.text.items ++ flat_map (gaining_key_line l.fn.others l.fn.table.attributes) (drop l.at l.fn.keys)
    ≡ l.fn.text.items ++ flat_map (gaining_key_line l.fn.others l.fn.table.attributes) l.fn.keys
