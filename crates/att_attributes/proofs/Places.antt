-- The place of an attribute in the list of all.
use Rattle.std.proofs.Common.{◌≡◌, ℕ, ◌-◌, ◌<◌, List, length, arith}
use Rattle.std.specs.Prelude.{IsSome, slice_get}
use Rattle.std.proofs.lemmas.Option.{slice_get-get_or, slice_get_within, slice_get_past}
use Rattle.att_attributes.specs.declared.attr.Attr.{Attr}
use Rattle.att_attributes.specs.Attributes.{attribute_at}

-- an attribute has its place in the list
pub place_within : (attributes : List Attr) (handle : ℕ) → IsSome (attribute_at attributes handle) → (0 < handle) × (handle - 1 < length attributes)
place_within attributes handle h =
    (grind (arith, slice_get_within {A = Attr}), grind (arith, slice_get_within {A = Attr}, slice_get-get_or {X = Attr}, slice_get_past {X = Attr}))

pub attribute_at-found : (attributes : List Attr) (handle : ℕ) → IsSome (attribute_at attributes handle) → attribute_at attributes handle
    ≡ slice_get attributes (handle - 1)
attribute_at-found attributes handle h = grind arith
