-- The counts of a draft.
use Rattle.std.specs.Prelude.{◌≡◌, ℕ, ◌<◌, ◌≤◌, List, [], ◌∷◌, length, IsTrue}
use Rattle.att_numbers.specs.Types.{Handle}
use Rattle.att_attributes.specs.declared.attr.Attr.{Attr}
use Rattle.att_attributes.specs.Attributes.{configurations_of}
use Rattle.att_table.specs.Table.{value_octets}
use Rattle.att_table.specs.file.Limits.{is_within}

-- Each handle is from 1 to the last.
abbrev pub HaveHandlesTo : Handle → List Attr → Type 0
HaveHandlesTo last [] = Unit
HaveHandlesTo last (attr ∷ rest) =
    (0 < attr.handle) × (attr.handle ≤ last) × HaveHandlesTo last rest

-- The counts match the attributes and are within the limits.
pub record IsCounted (attributes : List Attr) (configurations octets : ℕ) : Type 0 where
  pub counted_configurations : configurations ≡ configurations_of attributes
  pub counted_octets : octets ≡ value_octets attributes
  pub within : IsTrue (is_within (length attributes) configurations octets)
  pub handles : HaveHandlesTo (length attributes) attributes
