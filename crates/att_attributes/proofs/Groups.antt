-- How the ends of groups are found from the back.
use Rattle.std.proofs.Common.{◌≡◌, ℕ, suc, ◌-◌, ◌<◌, Bool, if◌then◌else◌, List, [], ◌∷◌, length, drop, Option, Some, None, refl, ap, ◌∙◌, arith}
use Rattle.std.proofs.lemmas.List.{get_or_read}
use Rattle.std.specs.Prelude.{IsSome, slice_index_or}
use Rattle.att_attributes.specs.declared.attr.Attr.{Attr}
use Rattle.att_attributes.specs.Attributes.{attribute_at}
use Rattle.att_attributes.specs.Group.{is_service_type, is_grouping_type, last_before, group_ends_of, group_end_at}
use Rattle.att_attributes.proofs.Places.{place_within}

-- where a group that goes on at the first of these attributes ends
abbrev pub open_end : (ℕ → Bool) → List Attr → Option ℕ
open_end test [] = None
open_end test (next ∷ rest) = if test next.kind then None else Some (last_before test next.handle rest)

-- the ends from a place on are found, and so are those of the groups that go on there
pub record IsFound (attributes : List Attr) (ends : List ℕ) (place : ℕ) (service innermost : Option ℕ) : Type 0 where
  pub same_length : length ends ≡ length attributes
  pub found : drop place ends ≡ group_ends_of (drop place attributes)
  pub service_end : service ≡ open_end is_service_type (drop place attributes)
  pub innermost_end : innermost ≡ open_end is_grouping_type (drop place attributes)

-- each attribute has an end
length-group_ends_of : (attributes : List Attr) → length (group_ends_of attributes) ≡ length attributes
length-group_ends_of [] = refl
length-group_ends_of (attr ∷ rest) = ap suc (length-group_ends_of rest)

pub end_within : (attributes : List Attr) (ends : List ℕ) (handle : ℕ) → ends ≡ group_ends_of attributes → IsSome (attribute_at attributes handle)
    → handle - 1 < length ends
end_within attributes ends handle are found =
    omega (arith, place_within attributes handle found, ap length are, length-group_ends_of attributes)

pub end_found : (attributes : List Attr) (ends : List ℕ) (handle end : ℕ) → ends ≡ group_ends_of attributes → IsSome (attribute_at attributes handle)
    → end ≡ slice_index_or ends (handle - 1) end → end ≡ group_end_at attributes handle
end_found attributes ends handle end are found read =
    get_or_read ends (handle - 1) end (end_within attributes ends handle are found) read 0
    ∙ ap (λ (all : List ℕ). slice_index_or all (handle - 1) 0) are
