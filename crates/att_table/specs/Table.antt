-- The attribute table: attributes by handle and their values, of which only the values change (Core
-- 5.0, Vol 3 Part F, 3.2).
use Rattle.std.specs.Prelude.{◌≡◌, ◌≤◌, All, ℕ, ◌+◌, ◌-◌, true, if◌then◌else◌, List, [], ◌∷◌, length, map, slice_set, slice_index_or, sum_by}
use Rattle.octet_io.specs.Number.{Octets}
use Rattle.att_numbers.specs.Types.{Handle, Values}
use Rattle.att_values.specs.Cell.{Cell}
use Rattle.att_attributes.specs.declared.attr.Attr.{Attr}
use Rattle.att_attributes.specs.declared.attr.Role.{Role}
use Rattle.att_attributes.specs.declared.attr.Role.TheVariants.{Declaration, Value, Configuration, Descriptor}
use Rattle.att_attributes.specs.Attributes.{configurations_of, is_configuration, is_fixed_at, is_value, largest_at, IsNumbered}
use Rattle.att_attributes.specs.Group.{group_ends_of}
use Rattle.att_attributes.specs.declared.type_index.Run.{Run}
use Rattle.att_attributes.specs.OfType.{handles_by_type, runs_by_type}
use Rattle.att_numbers.specs.declared.limit.TheConstants.{MAX_CONFIGURATIONS, MAX_DECLARATION, MAX_VALUE, MAX_VALUES_OCTETS}

-- (P-TAB-1)
pub record Contents : Type 0 where
  pub attributes : List Attr
  pub values : Values

abbrev pub value_at : Values → Handle → Octets
value_at values handle = slice_index_or values (handle - 1) []

abbrev pub with_value : Values → Handle → Octets → Values
with_value values handle value = slice_set values (handle - 1) value

-- The largest length that a write may give a value; a fixed value keeps its length. (P-TAB-3)
abbrev pub room_at : Contents → Handle → ℕ
room_at table handle =
    if is_fixed_at table.attributes handle then length (value_at table.values handle)
    else largest_at table.attributes handle

abbrev pub values_of : List Cell → Values
values_of cells = map (λ (cell : Cell). cell.octets) cells

-- The largest length of a value by role: a declaration has properties, a handle and a type, a
-- configuration none in the table (Core 5.0, Vol 3 Part F, 3.2.9, and Part G, 3.3.1).
abbrev pub most_octets : Role → ℕ
most_octets Declaration = MAX_DECLARATION
most_octets Value = MAX_VALUE
most_octets Configuration = 0
most_octets Descriptor = MAX_VALUE

-- Characteristic values and descriptors count towards the limit of octets.
abbrev pub counted_octets : Role → ℕ → ℕ
counted_octets Declaration largest = 0
counted_octets Value largest = largest
counted_octets Configuration largest = 0
counted_octets Descriptor largest = largest

abbrev pub value_octets : List Attr → ℕ
value_octets attributes = sum_by (λ (attr : Attr). counted_octets attr.role attr.largest) attributes

-- Each configuration follows a characteristic value; the first attribute follows the given role.
abbrev pub StandBehind : Role → List Attr → Type 0
StandBehind before [] = Unit
StandBehind before (attr ∷ rest) =
    (is_configuration attr.role ≡ true → is_value before ≡ true) × StandBehind attr.role rest

-- The role of the last attribute, or the given role.
abbrev pub last_role : Role → List Attr → Role
last_role before [] = before
last_role before (attr ∷ rest) = last_role attr.role rest

-- Each fixed value has its largest length.
abbrev pub AreExact : List Attr → List Cell → Type 0
AreExact [] cells = Unit
AreExact (attr ∷ attributes) [] = Unit
AreExact (attr ∷ attributes) (cell ∷ cells) =
    (attr.fixed ≡ true → length cell.octets ≡ cell.room) × AreExact attributes cells

-- The next attribute and its value fit the table.
pub record IsNext (attributes : List Attr) (attr : Attr) (value : Octets) : Type 0 where
  pub handle : attr.handle ≡ length attributes + 1
  pub fits : length value ≤ attr.largest
  pub largest : attr.largest ≤ most_octets attr.role
  pub exact : attr.fixed ≡ true → length value ≡ attr.largest
  pub behind : is_configuration attr.role ≡ true → is_value (last_role Declaration attributes)
      ≡ true

-- Each cell has its attribute's largest length as its room.
pub record IsKept (attributes : List Attr) (cells : List Cell) : Type 0 where
  pub numbered : IsNumbered attributes
  pub largest : All (λ (attr : Attr). attr.largest ≤ most_octets attr.role) attributes
  pub behind : StandBehind Declaration attributes
  pub exact : AreExact attributes cells
  pub rooms : map (λ (attr : Attr). attr.largest) attributes
      ≡ map (λ (cell : Cell). cell.room) cells
  pub within : All (λ (cell : Cell). length cell.octets ≤ cell.room) cells

-- The attributes are within the limits, and the group ends, the handles by type and their runs
-- match.
pub record IsWhole (attributes : List Attr) (cells : List Cell) (group_ends by_type : List Handle)
    (beside : List Run) : Type 0 where
  pub kept : IsKept attributes cells
  pub few : configurations_of attributes ≤ MAX_CONFIGURATIONS
  pub counted : value_octets attributes ≤ MAX_VALUES_OCTETS
  pub ends : group_ends ≡ group_ends_of attributes
  pub types : by_type ≡ handles_by_type attributes
  pub runs : beside ≡ runs_by_type attributes
