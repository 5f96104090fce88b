-- The names of clients (this profile's own).
use Rattle.std.specs.Prelude.{Bool, ◌&&◌, ◌||◌, not, nat_lt, nat_le, if◌then◌else◌, length, codes, Option, Some, None}
use Rattle.std.specs.Char.{is_ascii_alphanumeric}
use Rattle.std.specs.List.{list_all}
use Rattle.std.specs.Str.{bytes_eq}
use Rattle.octet_io.specs.Number.{Octets}
use Rattle.scripts.specs.declared.name.TheConstants.{MAX_NAME}

-- The command words.
unfoldable pub is_command_word : Octets → Bool
is_command_word word =
    bytes_eq word (codes "connect")
    || (bytes_eq word (codes "drop")
    || (bytes_eq word (codes "encrypt") || (bytes_eq word (codes "clear")
    || (bytes_eq word (codes "hold")
    || (bytes_eq word (codes "done")
    || (bytes_eq word (codes "update") || (bytes_eq word (codes "allow")
    || (bytes_eq word (codes "deny")
    || (bytes_eq word (codes "tick") || bytes_eq word (codes "replace"))))))))))

-- A name has 1 to `MAX_NAME` ASCII letters and digits, and is no command word.
unfoldable pub is_name : Octets → Bool
is_name word =
    (nat_lt 0 (length word) && nat_le (length word) MAX_NAME)
    && (not (is_command_word word) && list_all is_ascii_alphanumeric word)

unfoldable pub name_of : Octets → Option Octets
name_of word = if is_name word then Some word else None
