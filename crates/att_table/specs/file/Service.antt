-- The services of a table (Core 5.0, Vol 3 Part G, 3.1 and 3.2).
use Rattle.std.specs.Prelude.{ℤ, pos, negsuc, Bool, ◌==◌, if◌then◌else◌, List, [], ◌∷◌, ◌++◌, length, slice_get, Option, Some, None}
use Rattle.std.specs.List.{list_any}
use Rattle.std.specs.Option.{option_map, option_to_list}
use Rattle.octet_io.specs.Number.{Octets, two_octets}
use Rattle.att_numbers.specs.Types.{Handle, Values}
use Rattle.att_attributes.specs.declared.attr.Attr.{Attr}
use Rattle.att_attributes.specs.Group.{is_service_type, last_before}
use Rattle.att_table.specs.declared.file.include.ServiceHandles.{ServiceHandles}
use Rattle.att_table.specs.Table.{value_at}

abbrev pub has_service : List Attr → Bool
has_service attributes = list_any (λ (attr : Attr). is_service_type attr.kind) attributes

-- The last handle of a service that contains `handle`, if another follows.
abbrev pub followed_end : Handle → List Attr → Option Handle
followed_end handle rest = if has_service rest then Some (last_before is_service_type handle rest)
    else None

-- The service that an attribute begins, if another follows.
abbrev pub followed_service : Attr → List Attr → Option ServiceHandles
followed_service attr rest =
    if is_service_type attr.kind
    then option_map (λ last. record { first = attr.handle; last = last })
    (followed_end attr.handle rest)
    else None

-- The services that another one follows, without the one being read.
abbrev pub earlier_services : List Attr → List ServiceHandles
earlier_services [] = []
earlier_services (attr ∷ rest) =
    option_to_list (followed_service attr rest) ++ earlier_services rest

-- The service at a position from 0.
abbrev pub earlier_service : List Attr → ℤ → Option ServiceHandles
earlier_service attributes (pos position) = slice_get (earlier_services attributes) position
earlier_service attributes (negsuc _) = None

-- An include has the service's first and last handle, and its type if that has 16 bits.
abbrev pub short_type : Octets → Octets
short_type value = if length value == 2 then value else []

abbrev pub include_value : Values → ServiceHandles → Octets
include_value values service =
    two_octets service.first ++ two_octets service.last
    ++ short_type (value_at values service.first)
