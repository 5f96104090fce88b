-- The permitted uses of an attribute and their needs (this profile's own).
use Rattle.std.specs.Prelude.{ℕ, ◌++◌, if◌then◌else◌, [], codes, Option, Some, None}
use Rattle.std.specs.Fmt.{decimal}
use Rattle.std.specs.Str.{bytes_eq}
use Rattle.octet_io.specs.Number.{Octets}
use Rattle.att_policy.specs.declared.guard.Guard.{Guard}
use Rattle.att_policy.specs.declared.guard.Need.{Need}
use Rattle.att_policy.specs.declared.guard.Properties.{Properties}
use Rattle.att_policy.specs.declared.guard.TheConstants.Properties.{READ, WRITE_WITHOUT_RESPONSE, WRITE, NOTIFY, INDICATE}
use Rattle.att_policy.specs.Need.{needs_encryption_of, needs_authentication_of}
use Rattle.att_policy.specs.Policy.{has_property}
use Rattle.policy_words.specs.Legend.{words_if}
use Rattle.policy_rights.specs.Needs.{is_heard, is_written}

-- A present property is named after a space.
unfoldable pub heard_words : Properties → Octets
heard_words properties =
    words_if (has_property properties READ) (codes " read")
    ++ words_if (has_property properties NOTIFY) (codes " notify")
    ++ words_if (has_property properties INDICATE) (codes " indicate")

unfoldable pub written_words : Properties → Octets
written_words properties =
    words_if (has_property properties WRITE) (codes " write")
    ++ words_if (has_property properties WRITE_WITHOUT_RESPONSE) (codes " command")

-- The needed key; keys of LE Secure Connections have 16 octets.
abbrev pub size_words : ℕ → Octets
size_words size = codes ", key of " ++ decimal size

abbrev pub asked_size_words : Option ℕ → Octets
asked_size_words None = []
asked_size_words (Some size) = size_words size

abbrev pub key_words : Need → Octets
key_words need =
    if need.secure then codes " if secure connections"
    else (if needs_authentication_of need then codes " if authenticated" else codes " if encrypted")
    ++ asked_size_words need.key_size

-- Authorization follows the key.
unfoldable pub need_words : Need → Octets
need_words need =
    if needs_encryption_of need
    then key_words need ++ (if need.authorized then codes ", authorized" else [])
    else (if need.authorized then codes " if authorized" else [])

-- Equal needs are named once.
abbrev pub reading_text : Guard → Octets
reading_text guard = heard_words guard.properties ++ need_words guard.read

abbrev pub writing_text : Guard → Octets
writing_text guard = written_words guard.properties ++ need_words guard.write

abbrev pub both_texts : Guard → Octets
both_texts guard =
    if bytes_eq (need_words guard.read) (need_words guard.write) then heard_words guard.properties
    ++ writing_text guard
    else reading_text guard ++ codes ";" ++ writing_text guard

unfoldable pub uses_text : Guard → Octets
uses_text guard =
    if is_heard guard.properties
    then (if is_written guard.properties then both_texts guard else reading_text guard)
    else (if is_written guard.properties then writing_text guard else codes " nothing")
