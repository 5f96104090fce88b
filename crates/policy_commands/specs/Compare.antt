-- The text that `compare` prints.
use Rattle.std.specs.Prelude.{◌≡◌, Bool, List, [], Option, Some, None, Ok, IfSome}
use Rattle.std.specs.Io.KnownBytes.{Appends}
use Rattle.att_table.specs.Table.{Contents}
use Rattle.le_security.specs.declared.entry.Entry.{Entry}
use Rattle.octet_io.specs.Number.{Octets}
use Rattle.policy_words.specs.compare.Compared.{comparison_text}
use Rattle.policy_words.specs.compare.Gains.{opens}
use Rattle.shell_files.specs.KeyFile.{keys_in}
use Rattle.shell_files.specs.TableFile.{table_in}
use Rattle.policy_commands.specs.Keys.{HasKeys}

-- The new keys are those of the new key file, if it is known; without one, the keys stay.
abbrev pub HasNewKeys : Option (Option Octets) → List Entry → List Entry → Type 0
HasNewKeys None keys new_keys = new_keys ≡ keys
HasNewKeys (Some key_file) keys new_keys =
    IfSome key_file (λ octets. keys_in octets ≡ Ok new_keys)

-- All files are accepted; what the new ones open and close is printed.
pub record AreCompared (old_file new_file : Option Octets)
    (key_file new_key_file : Option (Option Octets)) (held holds : Option Octets) (is_opened : Bool)
    : Type 0 where
  pub old : Contents
  pub has_old : IfSome old_file (λ octets. table_in octets ≡ Ok old)
  pub new : Contents
  pub has_new : IfSome new_file (λ octets. table_in octets ≡ Ok new)
  pub keys : List Entry
  pub has_keys : HasKeys key_file keys
  pub new_keys : List Entry
  pub has_new_keys : HasNewKeys new_key_file keys new_keys
  pub opened : is_opened ≡ opens new new_keys old keys
  pub printed : Appends held holds (comparison_text new new_keys old keys)
