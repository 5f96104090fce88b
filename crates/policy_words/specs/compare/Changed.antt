-- The changes of attributes that correspond, also those without an effect on rights (this profile's
-- own).
use Rattle.std.specs.Prelude.{◌+◌, ◌==◌, if◌then◌else◌, is_some, List, [], ◌∷◌, ◌++◌, codes, Option, Some, None}
use Rattle.std.specs.Option.{option_and_then}
use Rattle.std.specs.Str.{bytes_eq}
use Rattle.hex.specs.Hex.{encode_lower}
use Rattle.octet_io.specs.Number.{Octets}
use Rattle.att_numbers.specs.Types.{Handle}
use Rattle.att_numbers.specs.declared.attribute_type.TheConstants.{SECONDARY_SERVICE}
use Rattle.att_policy.specs.declared.guard.Need.{Need}
use Rattle.att_policy.specs.declared.guard.Properties.{Properties}
use Rattle.att_attributes.specs.declared.attr.Attr.{Attr}
use Rattle.att_attributes.specs.Attributes.{attribute_at, is_configuration}
use Rattle.att_table.specs.Table.{Contents}
use Rattle.policy_words.specs.Table.{length_text, told_value}
use Rattle.policy_words.specs.Uses.{heard_words, need_words, written_words}
use Rattle.policy_words.specs.TypeText.{handle_and_type}
use Rattle.policy_words.specs.compare.Pairing.{other_handle, service_before}
use Rattle.policy_words.specs.declared.compare.pairing.Pair.{Pair}

-- A text, or another one in place of none.
abbrev pub or_words : Octets → Octets → Octets
or_words [] words = words
or_words (octet ∷ octets) words = octet ∷ octets

abbrev pub need_or_everybody : Need → Octets
need_or_everybody need = or_words (need_words need) (codes " for everybody")

abbrev pub properties_text : Properties → Octets
properties_text properties =
    or_words (heard_words properties ++ written_words properties) (codes " none")

abbrev pub sizes_text : Attr → Octets
sizes_text attr = codes " " ++ length_text attr.role attr

-- The value at first.
abbrev pub first_text : Octets → Octets
first_text [] = codes " empty"
first_text (octet ∷ octets) = codes " " ++ encode_lower (octet ∷ octets)

-- The need of the client characteristic configuration, which is one handle after its value (this
-- profile's own).
abbrev pub configuration_text : Option Attr → Octets
configuration_text None = codes " none"
configuration_text (Some attr) =
    if is_configuration attr.role then need_or_everybody attr.guard.write else codes " none"

abbrev pub after_value : List Attr → Handle → Option Attr
after_value attributes handle =
    if is_some (attribute_at attributes handle) then attribute_at attributes (handle + 1) else None

-- The kind of the service that contains an attribute (Core 5.0, Vol 3 Part G, 3.1).
abbrev pub service_kind_text : Option Attr → Octets
service_kind_text None = codes " none"
service_kind_text (Some service) =
    if service.kind == SECONDARY_SERVICE then codes " secondary" else codes " primary"

-- A line for what is not the same.
unfoldable pub change_text : Attr → Octets → Octets → Octets → Octets
change_text attr label now before =
    if bytes_eq now before then []
    else handle_and_type attr.handle attr.kind ++ codes "  " ++ label ++ now ++ codes ", was"
    ++ before ++ 10 ∷ []

-- The needs of an attribute, and those before.
unfoldable pub needs_changes : List Attr → List Attr → Attr → Attr → Octets
needs_changes attributes others attr before =
    change_text attr (codes "read") (need_or_everybody attr.guard.read)
    (need_or_everybody before.guard.read)
    ++ change_text attr (codes "write") (need_or_everybody attr.guard.write)
    (need_or_everybody before.guard.write)
    ++ change_text attr (codes "config")
    (configuration_text (after_value attributes attr.handle))
    (configuration_text (after_value others before.handle))

-- Its other facts.
unfoldable pub facts_changes : Contents → Contents → Attr → Attr → Octets
facts_changes table other attr before =
    change_text attr (codes "properties") (properties_text attr.guard.properties)
    (properties_text before.guard.properties)
    ++ change_text attr (codes "length") (sizes_text attr) (sizes_text before)
    ++ change_text attr (codes "value") (first_text (told_value table attr.handle))
    (first_text (told_value other before.handle))
    ++ change_text attr (codes "service")
    (service_kind_text (service_before table.attributes attr.handle))
    (service_kind_text (service_before other.attributes before.handle))

abbrev pub changes_from : Contents → Contents → Attr → Option Attr → Octets
changes_from table other attr None = []
changes_from table other attr (Some before) =
    needs_changes table.attributes other.attributes attr before
    ++ facts_changes table other attr before

-- The lines of an attribute that corresponds to one of the other table.
abbrev pub changed_lines : Contents → Contents → List Pair → List Pair → Pair → Octets
changed_lines table other pairs others pair =
    changes_from table other pair.attr
    (option_and_then (attribute_at other.attributes) (other_handle pairs others pair))
