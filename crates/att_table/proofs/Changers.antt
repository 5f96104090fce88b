-- The handle of an attribute that is found is that of one of at most 1,024.
use Rattle.std.proofs.Common.{ℕ, ◌+◌, ◌<◌, ◌≤◌, Bool, true, false, if◌then◌else◌, List, [], ◌∷◌, length, Option, Some, None, arith}
use Rattle.std.specs.List.{find}
use Rattle.std.specs.Option.{IfSome, option_map}
use Rattle.att_attributes.specs.declared.attr.Attr.{Attr}
use Rattle.att_attributes.specs.Attributes.{HaveHandlesFrom, IsNumbered}
use Rattle.att_numbers.specs.declared.limit.TheConstants.{MAX_ATTRIBUTES}

found_below : (test : Attr → Bool) (first : ℕ) (attributes : List Attr) → HaveHandlesFrom first attributes
    → IfSome (option_map (λ (attr : Attr). attr.handle) (find test attributes)) (λ handle. handle < first + length attributes)
found_below test first [] handles = tt
found_below test first (attr ∷ rest) handles =
    let later = found_below test (first + 1) rest handles.1 in
    elim (test attr) as
    (λ passes. IfSome (option_map (λ (attr : Attr). attr.handle) (if passes then Some attr else find test rest))
    (λ handle. handle < first + length (attr ∷ rest))) [
      | true ↦ omega (arith, handles.0)
      | false ↦ weaker (option_map (λ (attr : Attr). attr.handle) (find test rest)) (first + 1 + length rest) (first + length (attr ∷ rest)) (omega arith) later
    ]
  where
    weaker : (found : Option ℕ) (least most : ℕ) → least ≤ most → IfSome found (λ handle. handle < least) → IfSome found (λ handle. handle < most)
    weaker None least most le below = tt
    weaker (Some handle) least most le below = omega arith

pub found_within : (test : Attr → Bool) (attributes : List Attr) → IsNumbered attributes
    → IfSome (option_map (λ (attr : Attr). attr.handle) (find test attributes)) (λ handle. handle ≤ MAX_ATTRIBUTES)
found_within test attributes numbered =
    within (option_map (λ (attr : Attr). attr.handle) (find test attributes)) (found_below test 1 attributes numbered.handles)
  where
    within : (found : Option ℕ) → IfSome found (λ handle. handle < 1 + length attributes) → IfSome found (λ handle. handle ≤ MAX_ATTRIBUTES)
    within None below = tt
    within (Some handle) below = omega (arith, numbered.most)
