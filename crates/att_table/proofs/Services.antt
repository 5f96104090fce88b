-- The services of a table that another one follows.
use Rattle.std.proofs.Common.{◌≡◌, ℕ, zero, suc, ◌+◌, ◌-◌, ◌<◌, ◌≤◌, List, [], ◌∷◌, ◌++◌, length, Option, Some, None, refl, ap, arith, rules}
use Rattle.std.proofs.lemmas.Grind.{common_steps}
use Rattle.std.specs.Option.{option_to_list}
use Rattle.std.specs.Prelude.{ℤ, pos, negsuc, slice_get, IsSome}
use Rattle.att_attributes.specs.declared.attr.Attr.{Attr}
use Rattle.att_attributes.specs.Attributes.{attribute_at}
use Rattle.att_table.specs.declared.file.include.ServiceHandles.{ServiceHandles}
use Rattle.att_table.specs.file.Draft.{HaveHandlesTo}
use Rattle.att_table.specs.file.Service.{followed_service, earlier_services, earlier_service}

-- a place after the first one
pub later_place : {A : Type 0} (x : A) (xs : List A) (place : ℕ) → 0 < place → slice_get (x ∷ xs) place ≡ slice_get xs (place - 1)
later_place x xs zero h = absurd (omega arith)
later_place x xs (suc place) h = ap (slice_get xs) (omega arith)

-- one more attribute, at the next handle
handles_to_more : (attributes : List Attr) (attr : Attr) (last : ℕ) → HaveHandlesTo last attributes → attr.handle ≡ last + 1
    → HaveHandlesTo (last + 1) (attributes ++ attr ∷ [])
handles_to_more [] attr last known next = (omega arith, omega arith, tt)
handles_to_more (first ∷ rest) attr last known next =
    (known.0, omega (arith, known.1), handles_to_more rest attr last known.2 next)

pub handles_pushed : (attributes : List Attr) (attr : Attr) → HaveHandlesTo (length attributes) attributes → attr.handle ≡ length attributes + 1
    → HaveHandlesTo (length (attributes ++ attr ∷ [])) (attributes ++ attr ∷ [])
handles_pushed attributes attr known next =
    let count : length (attributes ++ attr ∷ []) ≡ length attributes + 1 = grind (arith, common_steps) in
    rw count (handles_to_more attributes attr (length attributes) known next)

-- a handle from 1 to the last one has an attribute
slice_get-below : {A : Type 0} (xs : List A) (place : ℕ) → place < length xs → IsSome (slice_get xs place)
slice_get-below [] place h = absurd (omega arith)
slice_get-below (x ∷ xs) zero h = search rules
slice_get-below (x ∷ xs) (suc place) h = slice_get-below xs place (omega arith)

pub attribute_at-within : (attributes : List Attr) (handle : ℕ) → 0 < handle → handle ≤ length attributes → IsSome (attribute_at attributes handle)
attribute_at-within attributes handle first last =
    let found : IsSome (slice_get attributes (handle - 1)) = slice_get-below attributes (handle - 1) (omega arith) in
    grind arith

-- a service begins at its declaration
followed-first : (attr : Attr) (rest : List Attr) (service : ServiceHandles) → followed_service attr rest ≡ Some service → service.first ≡ attr.handle
followed-first attr rest service is = grind (arith, common_steps)

-- an earlier service begins at an attribute
abbrev IsWithin : ℕ → ServiceHandles → Type 0
IsWithin last service = (0 < service.first) × (service.first ≤ last)

first_found : (attr : Attr) (found : Option ServiceHandles) (services : List ServiceHandles) (last place : ℕ) (service : ServiceHandles)
    → ((s : ServiceHandles) → found ≡ Some s → s.first ≡ attr.handle) → 0 < attr.handle → attr.handle ≤ last
    → ((later : ℕ) → slice_get services later ≡ Some service → IsWithin last service)
    → slice_get (option_to_list found ++ services) place ≡ Some service → IsWithin last service
first_found attr None services last place service begins positive within others at = others place at
first_found attr (Some s) services last zero service begins positive within others at =
    let same : service.first ≡ attr.handle = cc (begins s refl) in
    (omega arith, omega arith)
first_found attr (Some s) services last (suc place) service begins positive within others at = others place at

earlier_within : (attributes : List Attr) (last place : ℕ) (service : ServiceHandles) → HaveHandlesTo last attributes
    → slice_get (earlier_services attributes) place ≡ Some service → IsWithin last service
earlier_within [] last place service known at = cc at
earlier_within (attr ∷ rest) last place service known at =
    first_found attr (followed_service attr rest) (earlier_services rest) last place service (followed-first attr rest)
    known.0 known.1 (λ later. earlier_within rest last later service known.2) at

pub earlier_exists : (attributes : List Attr) (position : ℤ) (service : ServiceHandles) → HaveHandlesTo (length attributes) attributes
    → earlier_service attributes position ≡ Some service → IsSome (attribute_at attributes service.first)
earlier_exists attributes (pos position) service known at =
    let within : IsWithin (length attributes) service = earlier_within attributes (length attributes) position service known at in
    attribute_at-within attributes service.first within.0 within.1
earlier_exists attributes (negsuc position) service known at = cc at
