-- The attributes of one type (Core 5.0, Vol 3 Part F, 3.2.1).
use Rattle.std.specs.Prelude.{◌==◌, List, map, filter}
use Rattle.att_numbers.specs.Types.{Handle, AttributeType}
use Rattle.att_attributes.specs.declared.attr.Attr.{Attr}
use Rattle.att_attributes.specs.Attributes.{attributes_in, type_at}
use Rattle.att_attributes.specs.declared.type_index.Run.{Run}
use Rattle.att_attributes.specs.TypeIndex.{by_type, runs_of}

-- The handles of a type from `first` to `last`, ascending.
abbrev pub handles_of_type : List Attr → AttributeType → Handle → Handle → List Handle
handles_of_type attributes kind first last =
    map (λ (attr : Attr). attr.handle)
    (filter (λ (attr : Attr). attr.kind == kind) (attributes_in attributes first last))

-- All handles by type, those of one type ascending.
abbrev pub handles_by_type : List Attr → List Handle
handles_by_type attributes =
    by_type (type_at attributes) (map (λ (attr : Attr). attr.handle) attributes)

-- The run of the type of each handle.
abbrev pub runs_by_type : List Attr → List Run
runs_by_type attributes = runs_of (type_at attributes) (handles_by_type attributes)
