-- A line for each attribute of a table (this profile's own).
use Rattle.std.specs.Prelude.{◌++◌, ◌==◌, if◌then◌else◌, List, [], ◌∷◌, drop, unwrap_or, codes}
use Rattle.std.specs.Fmt.{decimal}
use Rattle.std.specs.List.{flat_map}
use Rattle.octet_io.specs.Number.{Octets, from_two}
use Rattle.att_numbers.specs.AttributeType.{type_octets}
use Rattle.att_numbers.specs.Types.{Handle, AttributeType}
use Rattle.att_numbers.specs.declared.attribute_type.TheConstants.{PRIMARY_SERVICE, SECONDARY_SERVICE, INCLUDE}
use Rattle.att_attributes.specs.declared.attr.Attr.{Attr}
use Rattle.att_attributes.specs.declared.attr.Role.{Role}
use Rattle.att_attributes.specs.declared.attr.Role.TheVariants.{Declaration, Value, Configuration, Descriptor}
use Rattle.att_attributes.specs.Group.{is_service_type}
use Rattle.att_table.specs.Find.{value_where}
use Rattle.att_table.specs.Table.{Contents}
use Rattle.text_words.specs.Cells.{left, right}
use Rattle.policy_words.specs.Uses.{uses_text}
use Rattle.policy_words.specs.TypeText.{type_text}

-- The kind of an attribute.
abbrev pub declaration_word : AttributeType → Octets
declaration_word kind =
    if kind == PRIMARY_SERVICE then codes "service"
    else if kind == SECONDARY_SERVICE then codes "secondary"
    else if kind == INCLUDE then codes "include"
    else codes "characteristic"

unfoldable pub kind_word : Role → AttributeType → Octets
kind_word Declaration kind = declaration_word kind
kind_word Value kind = codes "value"
kind_word Configuration kind = codes "configuration"
kind_word Descriptor kind = codes "descriptor"

-- The value at a handle, empty if there is no attribute.
abbrev pub told_value : Contents → Handle → Octets
told_value table handle = unwrap_or (value_where table handle) []

-- An include shows its service's type and first handle.
abbrev pub include_text : Contents → Octets → Octets
include_text table (low ∷ high ∷ _) =
    type_text (told_value table (from_two low high)) ++ codes " at " ++ decimal (from_two low high)
include_text table _ = []

-- A declaration shows a type: that of a service, an include, or a characteristic, after properties
-- and value handle (Core 5.0, Vol 3 Part G, 3.1, 3.2 and 3.3.1).
abbrev pub declared_text : Contents → AttributeType → Octets → Octets
declared_text table kind value =
    if is_service_type kind then type_text value
    else if kind == INCLUDE then include_text table value
    else type_text (drop 3 value)

-- The octets of a value: 2 for a client characteristic configuration (Core 5.0, Vol 3 Part G,
-- 3.3.3.3).
unfoldable pub length_text : Role → Attr → Octets
length_text Configuration attr = codes "2"
length_text _ attr = if attr.fixed then decimal attr.largest else codes "0-" ++ decimal attr.largest

-- The type, the lengths and the permitted uses.
abbrev pub used_text : Attr → Octets
used_text attr =
    left 40 (type_text (type_octets attr.kind)) ++ codes "  " ++ left 5 (length_text attr.role attr)
    ++ uses_text attr.guard

unfoldable pub rest_of_line : Contents → Role → Attr → Octets
rest_of_line table Declaration attr = declared_text table attr.kind (told_value table attr.handle)
rest_of_line table _ attr = used_text attr

-- A line has the handle, the kind and the rest.
unfoldable pub attribute_line : Contents → Attr → Octets
attribute_line table attr =
    right 4 (decimal attr.handle) ++ codes "  " ++ left 14 (kind_word attr.role attr.kind)
    ++ codes "  "
    ++ rest_of_line table attr.role attr ++ 10 ∷ []

-- The lines are in order of handles; without attributes there is one line.
abbrev pub attribute_lines : Contents → List Attr → Octets
attribute_lines table [] = codes "no attributes" ++ 10 ∷ []
attribute_lines table (first ∷ rest) = flat_map (attribute_line table) (first ∷ rest)

abbrev pub shown_table : Contents → Octets
shown_table table = attribute_lines table table.attributes
