use Rattle.std.proofs.Common.{◌≡◌, ◌++◌, drop}
use Rattle.std.specs.List.{flat_map}
use Rattle.playground.specs.Fields.{cell_data}
use Rattle.playground.proofs.fields.add_cells.Given as goal

-- what is there and what is left are all
abbrev pub invariant-loop-column : goal.invariant-loop-column
invariant-loop-column l =
    l.text.items ++ flat_map (cell_data l.fn.table l.fn.attr) (drop l.column-index l.columns)
    ≡ l.fn.text.items ++ flat_map (cell_data l.fn.table l.fn.attr) l.columns
