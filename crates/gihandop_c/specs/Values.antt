-- The values that a host is opened with, and those that are saved: a choice of this library.
use Rattle.std.specs.Prelude.{ℕ, ◌==◌, if◌then◌else◌, Result}
use Rattle.att_table.specs.Table.{Contents}
use Rattle.gihandop_c.specs.declared.opened.Opened.{Opened}
use Rattle.octet_io.specs.Text.{as_text}
use Rattle.octet_io.specs.Number.{Octets}
use Rattle.saved_values.specs.Restore.{values_restored}
use Rattle.saved_values.specs.ValuesText.{saved_values, values_text}
use Rattle.saved_values.specs.declared.restoring.BadLine.{BadLine}
use Rattle.saved_values.specs.declared.saves.Saves.{Saves}
use Rattle.saved_values.specs.declared.saves.Saves.TheVariants.{Writable, All}

-- The table with the values of a text, and how many do not fit. If the text is not UTF-8, line 1 is
-- bad.
abbrev pub values_in : Octets → Contents → Result (Contents × ℕ) BadLine
values_in octets table = as_text (λ text. values_restored text table) (record { 0 = 1 }) octets

-- The values that are saved: 0 means those that a peer may write.
abbrev pub saves_of : ℕ → Saves
saves_of all = if all == 0 then Writable else All

-- The text of the values that differ from those of the table file.
abbrev pub values_saved : ℕ → Opened → Octets
values_saved all opened =
    values_text (saved_values (saves_of all) opened.host.server.table opened.initial)
