use Rattle.std.proofs.Common.{◌≡◌, ℕ, drop}
use Rattle.std.specs.Prelude.{fold, max}
use Rattle.policy_words.specs.declared.columns.Column.{Column}
use Rattle.policy_words.specs.matrix.Layout.{cell_width, widest_cell_of}
use Rattle.policy_words.proofs.matrix.widths.widest_cell_of.Given as goal

-- with those that are left all are compared
abbrev pub invariant-loop-column : goal.invariant-loop-column
invariant-loop-column l =
    fold (λ (widest : ℕ) (column : Column). max widest (cell_width l.table.attributes l.attr column)) l.widest (drop l.column-index l.columns)
    ≡ widest_cell_of l.table.attributes l.columns l.attr
