-- The effect of writes: all entries or none.
use Rattle.std.specs.Prelude.{ℕ, if◌then◌else◌, List, [], ◌∷◌, length, Option, Some, None, Result, Ok, Err}
use Rattle.att_numbers.specs.Types.{Code, Values, Row}
use Rattle.att_policy.specs.Refusal.{Refusal}
use Rattle.att_policy.specs.declared.policy.Access.{Access}
use Rattle.att_policy.specs.declared.standing.Standing.{Standing}
use Rattle.att_attributes.specs.declared.attr.Attr.{Attr}
use Rattle.att_values.specs.Cell.{value_with_part}
use Rattle.att_attributes.specs.Attributes.{is_configuration_at, is_fixed_at}
use Rattle.att_table.specs.ConfigRow.{with_bits}
use Rattle.att_table.specs.Table.{Contents, value_at, with_value}
use Rattle.att_writes.specs.Entry.{Entry}
use Rattle.octet_io.specs.Number.{Octets}
use Rattle.att_writes.specs.Fault.{entry_fault}

-- The state that a client can write: the table's values and its own configurations.
pub record Stored : Type 0 where
  pub values : Values
  pub row : Row

-- The first octet has all bits of a configuration.
abbrev pub first_octet : Octets → ℕ
first_octet [] = 0
first_octet (octet ∷ rest) = octet

-- A write ends a variable value; a fixed value keeps the octets after it. (P-WRITE-2)
abbrev pub after_entry : List Attr → Stored → Entry → Stored
after_entry attributes stored entry =
    if is_configuration_at attributes entry.handle
    then record stored { row = with_bits stored.row entry.handle (first_octet entry.part) }
    else record stored {
      values = with_value stored.values entry.handle
          (value_with_part (is_fixed_at attributes entry.handle)
          (value_at stored.values entry.handle) entry.offset entry.part);
    }

abbrev pub unless_entry_refused : Entry → Option Code → Result Stored Refusal
    → Result Stored Refusal
unless_entry_refused entry (Some code) result = Err (record { handle = entry.handle; code = code })
unless_entry_refused entry None result = result

-- The entries are checked and written in order, each after those before it. (P-PREP-3)
unfoldable pub after_entries : Access → List Attr → Standing → Stored → List Entry
    → Result Stored Refusal
after_entries access attributes standing stored [] = Ok stored
after_entries access attributes standing stored (entry ∷ rest) =
    unless_entry_refused entry
    (entry_fault access attributes standing (length (value_at stored.values entry.handle)) entry)
    (after_entries access attributes standing (after_entry attributes stored entry) rest)

-- If one entry is rejected, nothing changes. (P-WRITE-4)
abbrev pub stored_after : Stored → Result Stored Refusal → Stored
stored_after stored (Ok new) = new
stored_after stored (Err refusal) = stored

abbrev pub stored_in : Contents → Row → Stored
stored_in table row = record { values = table.values; row = row }

abbrev pub applied_to : Access → Contents → Row → Standing → List Entry → Result Stored Refusal
applied_to access table row standing entries =
    after_entries access table.attributes standing (stored_in table row) entries

abbrev pub written_to : Access → Contents → Row → Standing → List Entry → Stored
written_to access table row standing entries =
    stored_after (stored_in table row) (applied_to access table row standing entries)
