-- The keys that a command reads.
use Rattle.std.specs.Prelude.{◌≡◌, List, [], Option, Some, None, Ok, IfSome}
use Rattle.le_security.specs.declared.entry.Entry.{Entry}
use Rattle.octet_io.specs.Number.{Octets}
use Rattle.shell_files.specs.KeyFile.{keys_in}

-- The keys are those of the key file, if it is known; without one, of an empty file.
abbrev pub HasKeys : Option (Option Octets) → List Entry → Type 0
HasKeys None keys = keys_in [] ≡ Ok keys
HasKeys (Some key_file) keys = IfSome key_file (λ octets. keys_in octets ≡ Ok keys)
