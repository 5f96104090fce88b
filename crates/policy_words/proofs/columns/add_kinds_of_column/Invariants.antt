use Rattle.std.proofs.Common.{◌≡◌, ◌++◌, drop}
use Rattle.std.specs.List.{flat_map}
use Rattle.policy_words.specs.Columns.{kind_if_equal}
use Rattle.policy_words.proofs.columns.add_kinds_of_column.Given as goal

-- what stands and what is left are all
abbrev pub invariant-loop-kind : goal.invariant-loop-kind
invariant-loop-kind l =
    l.named.items ++ flat_map (kind_if_equal l.table.attributes l.column) (drop l.kind-index l.kinds)
    ≡ l.fn.named.items ++ flat_map (kind_if_equal l.table.attributes l.column) l.kinds
