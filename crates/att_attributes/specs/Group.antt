-- The groups of attributes (Core 5.0, Vol 3 Part G, 2.5.3). Characteristics as groups, and the
-- table's end as the last group's end, are this profile's own.
use Rattle.std.specs.Prelude.{◌-◌, Bool, ◌==◌, ◌||◌, if◌then◌else◌, List, [], ◌∷◌, slice_index_or}
use Rattle.att_numbers.specs.Types.{Handle, AttributeType}
use Rattle.att_numbers.specs.declared.attribute_type.TheConstants.{PRIMARY_SERVICE, SECONDARY_SERVICE, CHARACTERISTIC}
use Rattle.att_attributes.specs.declared.attr.Attr.{Attr}

abbrev pub is_service_type : AttributeType → Bool
is_service_type kind = (kind == PRIMARY_SERVICE) || (kind == SECONDARY_SERVICE)

abbrev pub is_grouping_type : AttributeType → Bool
is_grouping_type kind = is_service_type kind || (kind == CHARACTERISTIC)

-- The last handle before the next attribute whose type passes the test.
abbrev pub last_before : (AttributeType → Bool) → Handle → List Attr → Handle
last_before test handle [] = handle
last_before test handle (next ∷ rest) =
    if test next.kind then handle else last_before test next.handle rest

-- The last handle of the group of an attribute; its own handle if it begins no group. (P-LIST-7)
abbrev pub group_end_of : Attr → List Attr → Handle
group_end_of attr rest =
    if is_service_type attr.kind then last_before is_service_type attr.handle rest
    else if is_grouping_type attr.kind then last_before is_grouping_type attr.handle rest
    else attr.handle

abbrev pub group_ends_of : List Attr → List Handle
group_ends_of [] = []
group_ends_of (attr ∷ rest) = group_end_of attr rest ∷ group_ends_of rest

abbrev pub group_end_at : List Attr → Handle → Handle
group_end_at attributes handle = slice_index_or (group_ends_of attributes) (handle - 1) 0
