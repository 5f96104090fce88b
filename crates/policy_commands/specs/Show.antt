-- The text that `show` prints.
use Rattle.std.specs.Prelude.{◌≡◌, ◌++◌, List, [], Option, Ok, IfSome}
use Rattle.std.specs.Io.KnownBytes.{Appends}
use Rattle.att_table.specs.Table.{Contents}
use Rattle.policy_words.specs.Table.{shown_table}
use Rattle.le_security.specs.declared.entry.Entry.{Entry}
use Rattle.octet_io.specs.Number.{Octets}
use Rattle.policy_words.specs.matrix.Shown.{ShowsRights}
use Rattle.shell_files.specs.declared.fault.ShellFault.{ShellFault}
use Rattle.shell_files.specs.declared.fault.ShellFault.TheVariants.{Table, Keys, Rows, Unreadable, Unwritten, Memory}
use Rattle.shell_files.specs.TableFile.{table_in}
use Rattle.policy_commands.specs.Keys.{HasKeys}
use Rattle.policy_commands.specs.declared.show.View.{View}
use Rattle.policy_commands.specs.declared.show.View.TheVariants.{Rights, Attributes}

-- A view of a table is added to a text.
abbrev pub IsShown : View → Contents → List Entry → Octets → Octets → Type 0
IsShown (Rights width) table keys old new = ShowsRights table keys width old new
IsShown Attributes table keys old new = new ≡ old ++ shown_table table

-- The table file and the key file, if known, are accepted; the view of them is printed.
pub record AreShown (view : View) (table_file : Option Octets)
    (key_file : Option (Option Octets)) (held holds : Option Octets) : Type 0 where
  pub table : Contents
  pub has_table : IfSome table_file (λ octets. table_in octets ≡ Ok table)
  pub keys : List Entry
  pub has_keys : HasKeys key_file keys
  pub text : Octets
  pub shown : IsShown view table keys [] text
  pub printed : Appends held holds text

abbrev pub IsShowFault : ShellFault → Type 0
IsShowFault (Table number) = Unit {0}
IsShowFault (Keys number) = Unit {0}
IsShowFault (Rows number) = Unit {0}
IsShowFault Unreadable = Unit {0}
IsShowFault Unwritten = Unit {0}
IsShowFault Memory = Unit {0}
IsShowFault _ = ⊥
