-- The columns of the matrix and their names (this profile's own).
use Rattle.std.specs.Prelude.{ℕ, ◌+◌, ◌==◌, if◌then◌else◌, List, [], ◌∷◌, Option}
use Rattle.std.specs.List.{flat_map}
use Rattle.att_policy.specs.declared.standing.KeyFacts.{KeyFacts}
use Rattle.att_attributes.specs.declared.attr.Attr.{Attr}
use Rattle.policy_rights.specs.Held.{has_equal_rights, kinds_that_differ}
use Rattle.policy_words.specs.declared.columns.Column.{Column}

-- A to Z, and then a to o: there are at most 41 kinds.
abbrev pub next_name : ℕ → ℕ
next_name name = if name == 90 then 97 else if name == 255 then 65 else name + 1

abbrev pub named_from : ℕ → List (Option KeyFacts) → List Column
named_from name [] = []
named_from name (key ∷ keys) =
    record { name = name; key = key } ∷ named_from (next_name name) keys

-- The columns of the matrix: one for all kinds of keys with equal rights.
abbrev pub matrix_columns : List Attr → List (Option KeyFacts) → List Column
matrix_columns attributes kinds = named_from 65 (kinds_that_differ attributes kinds)

-- Each kind has the name of the column of its rights.
abbrev pub kind_if_equal : List Attr → Column → Option KeyFacts → List Column
kind_if_equal attributes column kind =
    if has_equal_rights attributes kind column.key
    then record { name = column.name; key = kind } ∷ []
    else []

abbrev pub kinds_of_column : List Attr → List (Option KeyFacts) → Column → List Column
kinds_of_column attributes kinds column = flat_map (kind_if_equal attributes column) kinds

-- All kinds, column by column.
abbrev pub named_kinds : List Attr → List (Option KeyFacts) → List Column → List Column
named_kinds attributes kinds columns = flat_map (kinds_of_column attributes kinds) columns
