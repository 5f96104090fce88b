use Rattle.std.proofs.Common.{◌≡◌, ◌++◌, drop}
use Rattle.std.specs.List.{flat_map}
use Rattle.policy_words.specs.matrix.Rows.{matrix_line}
use Rattle.policy_words.proofs.matrix.rows.add_lines.Given as goal

-- what stands and what is left are all
abbrev pub invariant-loop-attr : goal.invariant-loop-attr
invariant-loop-attr l =
    l.text.items ++ flat_map (matrix_line l.fn.layout l.fn.table l.fn.columns) (drop l.attr-index l.attributes)
    ≡ l.fn.text.items ++ flat_map (matrix_line l.fn.layout l.fn.table l.fn.columns) l.attributes
