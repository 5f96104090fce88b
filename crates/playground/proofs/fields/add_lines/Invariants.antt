use Rattle.std.proofs.Common.{◌≡◌, ◌++◌, drop}
use Rattle.std.specs.List.{flat_map}
use Rattle.playground.specs.Fields.{line_data}
use Rattle.playground.proofs.fields.add_lines.Given as goal

-- what is there and what is left are all
abbrev pub invariant-loop-attr : goal.invariant-loop-attr
invariant-loop-attr l =
    l.text.items ++ flat_map (line_data l.fn.table l.fn.columns) (drop l.attr-index l.attributes)
    ≡ l.fn.text.items ++ flat_map (line_data l.fn.table l.fn.columns) l.attributes
