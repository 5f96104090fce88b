use Rattle.std.proofs.Common.{◌≡◌, ℕ, drop}
use Rattle.std.specs.Prelude.{fold, max}
use Rattle.att_attributes.specs.declared.attr.Attr.{Attr}
use Rattle.policy_words.specs.matrix.Layout.{row_width, widest_cell}
use Rattle.policy_words.proofs.matrix.widths.widest_cell.Given as goal

-- with those that are left all are compared
abbrev pub invariant-loop-attr : goal.invariant-loop-attr
invariant-loop-attr l =
    fold (λ (widest : ℕ) (attr : Attr). max widest (row_width l.table.attributes l.columns attr)) l.widest (drop l.attr-index l.attributes)
    ≡ widest_cell l.table.attributes l.columns l.attributes
