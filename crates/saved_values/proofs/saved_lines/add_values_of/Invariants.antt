use Rattle.std.proofs.Common.{◌≡◌, ◌++◌, drop, take}
use Rattle.std.specs.List.{All}
use Rattle.saved_values.specs.SavedValue.{IsTyped}
use Rattle.saved_values.specs.ValuesText.{saved_lines, saved_of}
use Rattle.saved_values.proofs.saved_lines.add_values_of.Given as goal

-- The lines so far and those that are left are all.
abbrev pub invariant-loop-attr : goal.invariant-loop-attr
invariant-loop-attr l = record {
  lines : l.text.items ++ saved_lines l.fn.saves l.fn.table l.fn.initial (drop l.attr-index l.attributes)
      ≡ l.fn.text.items ++ saved_lines l.fn.saves l.fn.table l.fn.initial l.attributes;
  typed : All IsTyped (saved_of l.fn.saves l.fn.table l.fn.initial (take l.attr-index l.attributes));
}
