-- The attributes of a server in handle order (Core 5.0, Vol 3 Part F, 3.2).
use Rattle.std.specs.Prelude.{◌≡◌, ◌≤◌, ℕ, ◌+◌, ◌-◌, ◌==◌, Bool, true, false, if◌then◌else◌, List, [], ◌∷◌, length, take, drop, slice_get, count_by, Option, None}
use Rattle.std.specs.Option.{option_map, option_map_or}
use Rattle.att_numbers.specs.Types.{Handle, AttributeType}
use Rattle.att_policy.specs.declared.guard.Guard.{Guard}
use Rattle.att_policy.specs.Policy.{configuration_bits_of}
use Rattle.att_attributes.specs.declared.attr.Attr.{Attr}
use Rattle.att_attributes.specs.declared.attr.Role.{Role}
use Rattle.att_attributes.specs.declared.attr.Role.TheVariants.{Declaration, Value, Configuration, Descriptor}
use Rattle.att_numbers.specs.declared.limit.TheConstants.{MAX_ATTRIBUTES}

-- The attribute at a handle, counted from 1.
abbrev pub attribute_at : List Attr → Handle → Option Attr
attribute_at attributes handle = if handle == 0 then None else slice_get attributes (handle - 1)

-- The attributes with handles from `first` to `last`.
abbrev pub attributes_in : List Attr → Handle → Handle → List Attr
attributes_in attributes first last = drop (first - 1) (take last attributes)

abbrev pub guard_at : List Attr → Handle → Option Guard
guard_at attributes handle =
    option_map (λ (attr : Attr). attr.guard) (attribute_at attributes handle)

abbrev pub is_configuration : Role → Bool
is_configuration Declaration = false
is_configuration Value = false
is_configuration Configuration = true
is_configuration Descriptor = false

abbrev pub configurations_of : List Attr → ℕ
configurations_of attributes = count_by (λ (attr : Attr). is_configuration attr.role) attributes

abbrev pub is_value : Role → Bool
is_value Declaration = false
is_value Value = true
is_value Configuration = false
is_value Descriptor = false

abbrev pub is_value_at : List Attr → Handle → Bool
is_value_at attributes handle =
    option_map_or (λ (attr : Attr). is_value attr.role) (attribute_at attributes handle) false

abbrev pub is_configuration_at : List Attr → Handle → Bool
is_configuration_at attributes handle =
    option_map_or (λ (attr : Attr). is_configuration attr.role) (attribute_at attributes handle)
    false

-- The value at a handle has a fixed length.
abbrev pub is_fixed_at : List Attr → Handle → Bool
is_fixed_at attributes handle =
    option_map_or (λ (attr : Attr). attr.fixed) (attribute_at attributes handle) false

-- The largest length of the value at a handle.
abbrev pub largest_at : List Attr → Handle → ℕ
largest_at attributes handle =
    option_map_or (λ (attr : Attr). attr.largest) (attribute_at attributes handle) 0

abbrev pub type_at : List Attr → Handle → AttributeType
type_at attributes handle =
    option_map_or (λ (attr : Attr). attr.kind) (attribute_at attributes handle) 0

-- The bits of the configuration at a handle, whose value is the attribute before it (Core 5.0, Vol
-- 3 Part G, 3.3.3.3).
abbrev pub configuration_bits_at : List Attr → Handle → ℕ
configuration_bits_at attributes handle =
    option_map_or (λ (attr : Attr). configuration_bits_of attr.guard.properties)
    (attribute_at attributes (handle - 1)) 0

-- The handles count from the first one without gaps. (P-TAB-2)
abbrev pub HaveHandlesFrom : Handle → List Attr → Type 0
HaveHandlesFrom first [] = Unit
HaveHandlesFrom first (attr ∷ rest) = (attr.handle ≡ first) × HaveHandlesFrom (first + 1) rest

-- The handles count from 1, up to `MAX_ATTRIBUTES`.
pub record IsNumbered (attributes : List Attr) : Type 0 where
  pub handles : HaveHandlesFrom 1 attributes
  pub most : length attributes ≤ MAX_ATTRIBUTES
