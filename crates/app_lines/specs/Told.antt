-- The lines to the application that are not notices of the host (this profile's own).
use Rattle.std.specs.Prelude.{ℕ, ◌++◌, [], ◌∷◌, List, codes, Option, Some, None}
use Rattle.std.specs.Fmt.{decimal}
use Rattle.att_policy.specs.declared.standing.KeyFacts.{KeyFacts}
use Rattle.app_lines.specs.NoticeText.{named_line, value_text}
use Rattle.host_api.specs.declared.notice.Notice.TheVariants.{Connected, Secured}
use Rattle.host_api.specs.declared.connection.Connection.{Connection}
use Rattle.octet_io.specs.Number.{Octets}
use Rattle.app_lines.specs.Names.{name_of}
use Rattle.app_lines.specs.declared.names.Named.{Named}
use Rattle.app_lines.specs.declared.told.Told.{Told}
use Rattle.app_lines.specs.declared.told.Told.TheVariants.{Serving, Waiting, Replaced, Stopped, Started, Missed, Updated, Subscribed, Unsaved, Saved}

abbrev pub words_line : Octets → Octets → Octets
words_line about words = about ++ words ++ 10 ∷ []

abbrev pub value_line : Octets → ℕ → Octets → Octets
value_line about handle value =
    about ++ 32 ∷ decimal handle ++ 32 ∷ value_text value ++ 10 ∷ []

-- An attribute and the bits of a subscription.
abbrev pub attribute_end : ℕ → ℕ → Octets
attribute_end attribute bits = 32 ∷ decimal attribute ++ 32 ∷ decimal bits ++ 10 ∷ []

abbrev pub subscribed_line : ℕ → ℕ → ℕ → Octets
subscribed_line name attribute bits =
    codes "+ subscribed" ++ 32 ∷ decimal name ++ attribute_end attribute bits

abbrev pub told_line : Told → Octets
told_line Serving = codes "+ serving" ++ 10 ∷ []
told_line Waiting = codes "+ waiting" ++ 10 ∷ []
told_line Replaced = codes "+ replaced" ++ 10 ∷ []
told_line (Stopped words) = words_line (codes "+ stopped: ") words.now
told_line (Started number) = codes "+ started" ++ 32 ∷ decimal number ++ 10 ∷ []
told_line (Missed handle value) = value_line (codes "+ missed") handle value.now
told_line (Updated handle value) = value_line (codes "+ updated") handle value.now
told_line (Subscribed name attribute bits) = subscribed_line name attribute bits
told_line (Unsaved words) = words_line (codes "+ unsaved: ") words.now
told_line Saved = codes "+ saved" ++ 10 ∷ []

-- The lines of a connection and its key, as if it connected now.
abbrev pub key_line : ℕ → Connection → Option KeyFacts → Octets
key_line name connection None = []
key_line name connection (Some facts) = named_line name (Secured connection.handle facts)

abbrev pub connection_lines : ℕ → Connection → Octets
connection_lines name connection =
    named_line name (Connected connection.handle connection.peer)
    ++ key_line name connection connection.key

-- The lines of connections with names.
abbrev pub lines_if_named : Connection → Option ℕ → Octets
lines_if_named connection None = []
lines_if_named connection (Some name) = connection_lines name connection

abbrev pub lines_of_connection : List Named → Connection → Octets
lines_of_connection named connection = lines_if_named connection (name_of connection.handle named)
