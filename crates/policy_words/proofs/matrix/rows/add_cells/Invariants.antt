use Rattle.std.proofs.Common.{◌≡◌, ◌++◌, drop}
use Rattle.std.specs.List.{flat_map}
use Rattle.text_words.specs.Cells.{right}
use Rattle.policy_words.specs.Cell.{cell_text}
use Rattle.policy_words.specs.declared.columns.Column.{Column}
use Rattle.policy_words.proofs.matrix.rows.add_cells.Given as goal

-- what stands and what is left are all
abbrev pub invariant-loop-column : goal.invariant-loop-column
invariant-loop-column l =
    l.text.items ++ flat_map (λ (column : Column). right l.fn.layout.cell (cell_text l.fn.table.attributes l.fn.handle column.key)) (drop l.column-index l.columns)
    ≡ l.fn.text.items ++ flat_map (λ (column : Column). right l.fn.layout.cell (cell_text l.fn.table.attributes l.fn.handle column.key)) l.columns
