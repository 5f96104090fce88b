-- The output of `expect` (this profile's own).
use Rattle.std.specs.Prelude.{◌≡◌, ◌↔◌, Bool, true, false, List, [], ◌∷◌, length, Option, Ok, IfSome}
use Rattle.std.specs.Io.KnownBytes.{Appends}
use Rattle.att_table.specs.Table.{Contents}
use Rattle.policy_expectations.specs.Differences.{differences_of}
use Rattle.policy_expectations.specs.File.{expectations_in}
use Rattle.policy_expectations.specs.Holding.{AllHold}
use Rattle.policy_expectations.specs.Report.{report_text}
use Rattle.policy_expectations.specs.declared.difference.Difference.{Difference}
use Rattle.policy_expectations.specs.declared.expectation.Expectation.{Expectation}
use Rattle.le_security.specs.declared.entry.Entry.{Entry}
use Rattle.octet_io.specs.Number.{Octets}
use Rattle.shell_files.specs.TableFile.{table_in}
use Rattle.policy_commands.specs.Keys.{HasKeys}

abbrev pub is_none_of : List Difference → Bool
is_none_of [] = true
is_none_of (difference ∷ differences) = false

-- The files, if they are known, are accepted. The differences of the table from the expectations
-- are printed, and the result is true if there are none. It does not depend on the keys, which only
-- the lines name.
pub record IsCompared (holds : Bool) (table_file : Option Octets)
    (key_file : Option (Option Octets)) (expectations_file : Option Octets)
    (held now : Option Octets) : Type 0 where
  pub table : Contents
  pub has_table : IfSome table_file (λ octets. table_in octets ≡ Ok table)
  pub keys : List Entry
  pub has_keys : HasKeys key_file keys
  pub expectations : List Expectation
  pub has_expectations : IfSome expectations_file
      (λ octets. expectations_in octets ≡ Ok expectations)
  pub is_same : holds ≡ is_none_of (differences_of table expectations)
  pub all_hold : (holds ≡ true) ↔ AllHold table expectations
  pub printed : Appends held now
      (report_text table.attributes keys (length expectations)
      (differences_of table expectations))
