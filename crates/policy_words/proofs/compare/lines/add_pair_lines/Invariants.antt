use Rattle.std.proofs.Common.{◌≡◌, ◌++◌, drop}
use Rattle.std.specs.List.{flat_map}
use Rattle.policy_words.specs.compare.Before.{IsHeldFor}
use Rattle.policy_words.specs.compare.Lines.{pair_lines}
use Rattle.policy_words.proofs.compare.lines.add_pair_lines.Given as goal

-- those so far and those that are left are all
abbrev pub invariant-loop-pair : goal.invariant-loop-pair
invariant-loop-pair l = record {
  added :
      l.text.items ++ flat_map (pair_lines l.fn.table.attributes l.fn.others.attributes l.fn.kinds l.fn.columns) (drop l.pair-index l.pairs)
      ≡ l.fn.text.items ++ flat_map (pair_lines l.fn.table.attributes l.fn.others.attributes l.fn.kinds l.fn.columns) l.pairs;
  held : IsHeldFor l.fn.others.attributes l.fn.kinds l.held_for l.before.items;
}
