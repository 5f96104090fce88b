-- The meaning of a column that several kinds of keys share (this profile's own).
use Rattle.std.specs.Prelude.{◌≡◌, Bool, true, All, List, Option}
use Rattle.std.specs.List.{list_any}
use Rattle.att_policy.specs.declared.standing.KeyFacts.{KeyFacts}
use Rattle.att_attributes.specs.declared.attr.Attr.{Attr}
use Rattle.policy_rights.specs.Columns.{same_column}
use Rattle.policy_rights.specs.Held.{has_equal_rights, is_used}
use Rattle.policy_words.specs.declared.columns.Column.{Column}
use Rattle.policy_words.specs.Cell.{cell_text}
use Rattle.policy_words.specs.Columns.{matrix_columns, named_kinds}

abbrev pub is_named_kind : Option KeyFacts → Column → Bool
is_named_kind kind named = same_column kind named.key

-- Each kind of key is in the legend.
abbrev pub NamesEachKind : Type 0
NamesEachKind =
    (attributes : List Attr) (kinds : List (Option KeyFacts)) (kind : Option KeyFacts)
    → list_any (same_column kind) kinds ≡ true
    → list_any (is_named_kind kind)
    (named_kinds attributes kinds (matrix_columns attributes kinds)) ≡ true

abbrev pub HasSameCell : List Attr → Option KeyFacts → Option KeyFacts → Attr → Type 0
HasSameCell attributes one other attr =
    is_used attr.role ≡ true
    → cell_text attributes attr.handle one ≡ cell_text attributes attr.handle other

-- Kinds with equal rights have the same cell in each row.
abbrev pub SharesCells : Type 0
SharesCells =
    (attributes : List Attr) (one other : Option KeyFacts)
    → has_equal_rights attributes one other ≡ true
    → All (HasSameCell attributes one other) attributes
