use Rattle.std.proofs.Common.{◌≡◌, ◌++◌, drop}
use Rattle.std.specs.List.{flat_map}
use Rattle.policy_words.specs.Columns.{kinds_of_column}
use Rattle.policy_words.proofs.columns.add_kinds_of_columns.Given as goal

-- what stands and what is left are all
abbrev pub invariant-loop-column : goal.invariant-loop-column
invariant-loop-column l =
    l.named.items ++ flat_map (kinds_of_column l.table.attributes l.kinds) (drop l.column-index l.columns)
    ≡ l.fn.named.items ++ flat_map (kinds_of_column l.table.attributes l.kinds) l.columns
