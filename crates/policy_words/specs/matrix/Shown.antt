-- The rights of a table, as `show` prints them (this profile's own).
use Rattle.std.specs.Prelude.{◌≡◌, ℕ, List, ◌∷◌, ◌++◌}
use Rattle.octet_io.specs.Number.{Octets}
use Rattle.att_table.specs.Table.{Contents}
use Rattle.le_security.specs.declared.entry.Entry.{Entry}
use Rattle.policy_rights.specs.Columns.{columns_among}
use Rattle.policy_rights.specs.Findings.{findings_of}
use Rattle.policy_words.specs.Columns.{matrix_columns, named_kinds}
use Rattle.policy_words.specs.matrix.Layout.{HasLeastWidths}
use Rattle.policy_words.specs.Legend.{legend_text}
use Rattle.policy_words.specs.matrix.Look.{look_text}
use Rattle.policy_words.specs.matrix.Rows.{AddsBlocks}
use Rattle.policy_words.specs.declared.columns.Column.{Column}
use Rattle.policy_words.specs.declared.matrix.layout.Layout.{Layout}

abbrev pub columns_of_table : Contents → List Entry → List Column
columns_of_table table keys = matrix_columns table.attributes (columns_among keys)

abbrev pub kinds_of_table : Contents → List Entry → List Column
kinds_of_table table keys =
    named_kinds table.attributes (columns_among keys) (columns_of_table table keys)

-- The meaning of the matrix, and the findings, with an empty line between them.
abbrev pub explanation_text : Contents → List Entry → Octets
explanation_text table keys =
    legend_text keys (columns_of_table table keys) (kinds_of_table table keys)
    ++ 10 ∷ look_text (findings_of table keys (columns_among keys))

-- The matrix for lines of a width is followed by its meaning.
pub record ShowsRights (table : Contents) (keys : List Entry) (width : ℕ) (old new : Octets)
    : Type 0 where
  pub layout : Layout
  pub widths : HasLeastWidths layout table (columns_of_table table keys) width
  pub matrix : Octets
  pub blocks : AddsBlocks layout table (columns_of_table table keys) old matrix
  pub told : new ≡ matrix ++ explanation_text table keys
