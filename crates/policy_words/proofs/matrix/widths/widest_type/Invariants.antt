use Rattle.std.proofs.Common.{◌≡◌, ℕ, drop}
use Rattle.std.specs.Prelude.{fold, max}
use Rattle.att_attributes.specs.declared.attr.Attr.{Attr}
use Rattle.policy_words.specs.matrix.Layout.{type_width, widest_type}
use Rattle.policy_words.proofs.matrix.widths.widest_type.Given as goal

-- with those that are left all are compared
abbrev pub invariant-loop-attr : goal.invariant-loop-attr
invariant-loop-attr l =
    fold (λ (widest : ℕ) (attr : Attr). max widest (type_width attr)) l.widest (drop l.attr-index l.attributes)
    ≡ widest_type l.attributes
