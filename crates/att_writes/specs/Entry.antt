-- A write to one attribute's value.
use Rattle.std.specs.Prelude.{ℕ}
use Rattle.att_numbers.specs.Types.{Handle}
use Rattle.att_writes.specs.declared.entry.EntryRef.{EntryRef}
use Rattle.octet_io.specs.Number.{Octets}

-- An immediate or prepared write.
pub record Entry : Type 0 where
  pub handle : Handle
  pub offset : ℕ
  pub part : Octets

abbrev pub whole_value : Handle → Octets → Entry
whole_value handle value = record { handle = handle; offset = 0; part = value }

abbrev pub entry_of : EntryRef → Entry
entry_of entry = record { handle = entry.handle; offset = entry.offset; part = entry.part.now }
