-- What is found in a table of three services, by computing. The second service has a descriptor with the type of its second
-- characteristic. The third service has the type of the second one, and so has its characteristic.
use Rattle.std.specs.Prelude.{◌≡◌, ℕ, refl, true, [], ◌∷◌, Some, None}
use Rattle.att_numbers.specs.AttributeType.{of_16_bits}
use Rattle.att_numbers.specs.Types.{Handle, AttributeType}
use Rattle.att_numbers.specs.declared.attribute_type.TheConstants.{PRIMARY_SERVICE, CHARACTERISTIC}
use Rattle.att_policy.specs.declared.guard.TheConstants.Properties.{READ}
use Rattle.att_attributes.specs.declared.attr.Attr.{Attr}
use Rattle.att_attributes.specs.declared.attr.Role.{Role}
use Rattle.att_attributes.specs.declared.attr.Role.TheVariants.{Declaration, Value, Descriptor}
use Rattle.att_table.specs.file.Needs.{no_need}
use Rattle.att_table.specs.Find.{value_found, value_where}
use Rattle.att_table.specs.Table.{Contents}

abbrev attr : Handle → AttributeType → ℕ → Role → Attr
attr handle kind length role = record {
  handle = handle;
  kind = kind;
  largest = length;
  fixed = true;
  role = role;
  guard = record { properties = READ; read = no_need; write = no_need };
}

abbrev table : Contents
table = record {
  attributes =
      attr 1 PRIMARY_SERVICE 2 Declaration
      ∷ attr 2 CHARACTERISTIC 5 Declaration ∷ attr 3 (of_16_bits 0x2A00) 1 Value
      ∷ attr 4 PRIMARY_SERVICE 2 Declaration
      ∷ attr 5 CHARACTERISTIC 5 Declaration ∷ attr 6 (of_16_bits 0xFFF1) 1 Value ∷ attr 7 (of_16_bits 0xFFF2) 1 Descriptor
      ∷ attr 8 CHARACTERISTIC 5 Declaration ∷ attr 9 (of_16_bits 0xFFF2) 1 Value
      ∷ attr 10 PRIMARY_SERVICE 2 Declaration
      ∷ attr 11 CHARACTERISTIC 5 Declaration ∷ attr 12 (of_16_bits 0xFFF1) 1 Value
      ∷ [];
  values =
      (0x00 ∷ 0x18 ∷ [])
      ∷ (0x02 ∷ 0x03 ∷ 0x00 ∷ 0x00 ∷ 0x2A ∷ []) ∷ (0x4C ∷ [])
      ∷ (0xF0 ∷ 0xFF ∷ [])
      ∷ (0x02 ∷ 0x06 ∷ 0x00 ∷ 0xF1 ∷ 0xFF ∷ []) ∷ (0x01 ∷ []) ∷ (0x02 ∷ [])
      ∷ (0x02 ∷ 0x09 ∷ 0x00 ∷ 0xF2 ∷ 0xFF ∷ []) ∷ (0x03 ∷ [])
      ∷ (0xF0 ∷ 0xFF ∷ [])
      ∷ (0x02 ∷ 0x0C ∷ 0x00 ∷ 0xF1 ∷ 0xFF ∷ []) ∷ (0x04 ∷ [])
      ∷ [];
}

-- A value, and not the descriptor before it.
second : value_found table (of_16_bits 0xFFF0) (of_16_bits 0xFFF2) 1 ≡ Some 9
second = refl

-- A characteristic of another service.
elsewhere : value_found table (of_16_bits 0x1800) (of_16_bits 0xFFF1) 1 ≡ None
elsewhere = refl

-- The second value of a type is in another service of the same type.
second_service : value_found table (of_16_bits 0xFFF0) (of_16_bits 0xFFF1) 2 ≡ Some 12
second_service = refl

no_third : value_found table (of_16_bits 0xFFF0) (of_16_bits 0xFFF1) 3 ≡ None
no_third = refl

no_number : value_found table (of_16_bits 0xFFF0) (of_16_bits 0xFFF1) 0 ≡ None
no_number = refl

-- No service has the type.
no_service : value_found table (of_16_bits 0x180F) (of_16_bits 0x2A00) 1 ≡ None
no_service = refl

first_value : value_where table 3 ≡ Some (0x4C ∷ [])
first_value = refl

no_value : value_where table 13 ≡ None
no_value = refl
