-- The lines that `check` prints.
use Rattle.std.specs.Prelude.{◌≡◌, List, [], ◌∷◌, ◌++◌, length, codes, Option, Ok, IfSome}
use Rattle.std.specs.Fmt.{decimal}
use Rattle.std.specs.Io.KnownBytes.{Appends}
use Rattle.att_table.specs.Table.{Contents}
use Rattle.le_security.specs.declared.entry.Entry.{Entry}
use Rattle.octet_io.specs.Number.{Octets}
use Rattle.shell_files.specs.declared.fault.ShellFault.{ShellFault}
use Rattle.shell_files.specs.declared.fault.ShellFault.TheVariants.{Table, Keys, Unreadable, Unwritten, Memory}
use Rattle.shell_files.specs.KeyFile.{keys_in}
use Rattle.shell_files.specs.TableFile.{table_in}

abbrev pub attributes_line : Contents → Octets
attributes_line table = codes "attributes " ++ decimal (length table.attributes) ++ 10 ∷ []

abbrev pub keys_line : List Entry → Octets
keys_line keys = codes "keys " ++ decimal (length keys) ++ 10 ∷ []

-- Both files, if known, are accepted, and their counts are printed.
pub record AreCounted (table_file key_file held holds : Option Octets) : Type 0 where
  pub table : Contents
  pub keys : List Entry
  pub has_table : IfSome table_file (λ octets. table_in octets ≡ Ok table)
  pub has_keys : IfSome key_file (λ octets. keys_in octets ≡ Ok keys)
  pub printed : Appends held holds (attributes_line table ++ keys_line keys)

abbrev pub IsCheckFault : ShellFault → Type 0
IsCheckFault (Table number) = Unit {0}
IsCheckFault (Keys number) = Unit {0}
IsCheckFault Unreadable = Unit {0}
IsCheckFault Unwritten = Unit {0}
IsCheckFault Memory = Unit {0}
IsCheckFault _ = ⊥
