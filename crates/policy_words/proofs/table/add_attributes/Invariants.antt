use Rattle.std.proofs.Common.{◌≡◌, ◌++◌, drop}
use Rattle.std.specs.List.{flat_map}
use Rattle.policy_words.specs.Table.{attribute_line}
use Rattle.policy_words.proofs.table.add_attributes.Given as goal

-- what stands and what is left are all
abbrev pub invariant-loop-attr : goal.invariant-loop-attr
invariant-loop-attr l =
    l.text.items ++ flat_map (attribute_line l.fn.table) (drop l.attr-index l.attributes) ≡ l.fn.text.items ++ flat_map (attribute_line l.fn.table) l.attributes
