-- The search for a value, attribute by attribute.
use Rattle.std.proofs.Common.{◌≡◌, ◌≢◌, ℕ, zero, suc, ◌+◌, ◌-◌, ◌<◌, Bool, true, false, ◌==◌, ◌&&◌, cond, List, [], ◌∷◌, ◌++◌, length, get_or, take, drop, Option, Some, None, refl, sym, ap, ◌∙◌, arith}
use Rattle.std.specs.Prelude.{filter, if◌then◌else◌, slice_get}
use Rattle.std.specs.List.{find}
use Rattle.std.specs.Option.{option_map, option_map_or}
use Rattle.std.specs.Str.{bytes_eq}
use Rattle.std.proofs.Math.Seq.{drop-cons}
use Rattle.std.proofs.lemmas.Bool.Decides.{nat_tests}
use Rattle.std.proofs.lemmas.List.{reverse-append, take_more}
use Rattle.octet_io.proofs.Choices.{and_true_left}
use Rattle.octet_io.specs.Number.{Octets}
use Rattle.att_numbers.specs.AttributeType.{type_octets}
use Rattle.att_numbers.specs.Types.{Handle, AttributeType}
use Rattle.att_values.specs.Cell.{Cell, IsUsed}
use Rattle.att_attributes.specs.declared.attr.Attr.{Attr}
use Rattle.att_attributes.specs.Attributes.{is_value, is_value_at, HaveHandlesFrom}
use Rattle.att_attributes.specs.Group.{is_service_type}
use Rattle.att_table.specs.Changer.{last_service}
use Rattle.att_table.specs.Find.{declares_service, handle_numbered, is_in_service, is_value_of_type, is_wanted}
use Rattle.att_table.specs.Table.{Contents, value_at, IsKept}
use Rattle.att_table.proofs.ServiceBefore.{attribute-there}
use Rattle.att_table.proofs.Tables.{kept-length}

-- the attribute at a place stands at the next handle
at-place : (attributes : List Attr) (first k : ℕ) (d : Attr) → HaveHandlesFrom first attributes → k < length attributes
    → ((get_or attributes k d).handle ≡ first + k) × (slice_get attributes k ≡ Some (get_or attributes k d))
at-place [] first k d handles below = absurd (omega (arith, below))
at-place (attr ∷ rest) first zero d handles below = (omega (arith, handles.0), refl)
at-place (attr ∷ rest) first (suc k) d handles below =
    let later = at-place rest (first + 1) k d handles.1 (omega (arith, below)) in
    (omega (arith, later.0), later.1)

-- so its value is there
pub place_used : (attributes : List Attr) (cells : List Cell) (k : ℕ) (d : Attr) → IsKept attributes cells → k < length attributes
    → IsUsed cells (get_or attributes k d).handle
place_used attributes cells k d kept below =
    let place = at-place attributes 1 k d kept.numbered.handles below in
    let count = kept-length attributes cells kept in
    (omega (arith, place.0), omega (arith, place.0))

-- What is left of the attributes begins with the one at the place.
pub left_at : (attributes : List Attr) (k : ℕ) (d : Attr) → k < length attributes → drop k attributes ≡ get_or attributes k d ∷ drop (k + 1) attributes
left_at attributes k d below =
    let next : suc k ≡ k + 1 = omega arith in
    drop-cons attributes k d below ∙ ap (λ n. get_or attributes k d ∷ drop n attributes) next

-- The last service among some attributes and one more is this one, if it is a service.
last-next : (before : List Attr) (attr : Attr) → last_service (before ++ attr ∷ []) ≡ (if is_service_type attr.kind then Some attr else last_service before)
last-next before attr = ap (find (λ (attr : Attr). is_service_type attr.kind)) (reverse-append before (attr ∷ []))

-- The attribute after some and one more belongs to the service that this one declares, or to the one before it.
in-service-next : (table : Contents) (service : AttributeType) (before : List Attr) (attr : Attr)
    → is_in_service table service (before ++ attr ∷ [])
    ≡ (if is_service_type attr.kind then bytes_eq (value_at table.values attr.handle) (type_octets service) else is_in_service table service before)
in-service-next table service before attr =
    ap (λ found. option_map_or (declares_service table service) found false) (last-next before attr)
    ∙ elim (is_service_type attr.kind) as (λ is. is_service_type attr.kind ≡ is
    → option_map_or (declares_service table service) (cond is (Some attr) (last_service before)) false
    ≡ cond is (bytes_eq (value_at table.values attr.handle) (type_octets service)) (is_in_service table service before)) [
      | true ↦ λ is. ap (λ kind. kind && bytes_eq (value_at table.values attr.handle) (type_octets service)) is
      | false ↦ λ is. refl
    ] refl

pub inside_after : (table : Contents) (service : AttributeType) (attributes : List Attr) (k : ℕ) (d : Attr) → k < length attributes
    → is_in_service table service (take (k + 1) attributes)
    ≡ (if is_service_type (get_or attributes k d).kind then bytes_eq (value_at table.values (get_or attributes k d).handle) (type_octets service)
    else is_in_service table service (take k attributes))
inside_after table service attributes k d below =
    ap (is_in_service table service) (take_more attributes k d below) ∙ in-service-next table service (take k attributes) (get_or attributes k d)

-- An attribute at a place is wanted by its type and the attributes before it.
pub wanted_at : (table : Contents) (service characteristic : AttributeType) (k : ℕ) (d : Attr) → HaveHandlesFrom 1 table.attributes
    → k < length table.attributes
    → is_wanted table service characteristic (get_or table.attributes k d)
    ≡ is_value_of_type characteristic (get_or table.attributes k d) && is_in_service table service (take k table.attributes)
wanted_at table service characteristic k d handles below =
    let attr : Attr = get_or table.attributes k d in
    let place : attr.handle - 1 ≡ k = let at = (at-place table.attributes 1 k d handles below).0 in omega (arith, at) in
    ap (λ n. is_value_of_type characteristic attr && is_in_service table service (take n table.attributes)) place

-- One that has the role of a value is a value at its handle.
pub value_at_handle : (attributes : List Attr) (k : ℕ) (d : Attr) (characteristic : AttributeType) → HaveHandlesFrom 1 attributes → k < length attributes
    → is_value_of_type characteristic (get_or attributes k d) ≡ true → is_value_at attributes (get_or attributes k d).handle ≡ true
value_at_handle attributes k d characteristic handles below is =
    let attr : Attr = get_or attributes k d in
    let place = at-place attributes 1 k d handles below in
    let before : k ≡ attr.handle - 1 = omega (arith, place.0) in
    let there = attribute-there attributes attr.handle attr (omega (arith, place.0)) (sym (ap (slice_get attributes) before) ∙ place.1) in
    ap (λ (at : Option Attr). option_map_or (λ (a : Attr). is_value a.role) at false) there ∙ and_true_left (is_value attr.role) (attr.kind == characteristic)
    is

counted : (place : ℕ) (attributes : List Attr) → handle_numbered (suc place) attributes ≡ option_map (λ (attr : Attr). attr.handle) (slice_get attributes place)
counted place attributes =
    let some : (suc place == 0) ≡ false = grind (arith, nat_tests) in
    let less : suc place - 1 ≡ place = omega arith in
    ap (λ is. if is then None else option_map (λ (attr : Attr). attr.handle) (slice_get attributes (suc place - 1))) some
    ∙ ap (λ place. option_map (λ (attr : Attr). attr.handle) (slice_get attributes place)) less

-- The first attribute has the number 1, and each other one a number less among those after it.
pub number_later : (number : ℕ) (attr : Attr) (rest : List Attr) → number ≢ 1 → handle_numbered number (attr ∷ rest) ≡ handle_numbered (number - 1) rest
number_later zero attr rest other = refl
number_later (suc zero) attr rest other = absurd (other refl)
number_later (suc (suc number)) attr rest other =
    let less : suc (suc number) - 1 ≡ suc number = omega arith in
    counted (suc number) (attr ∷ rest) ∙ sym (counted number rest) ∙ ap (λ place. handle_numbered place rest) (sym less)

filter-taken : (test : Attr → Bool) (attr : Attr) (rest : List Attr) → test attr ≡ true → filter test (attr ∷ rest) ≡ attr ∷ filter test rest
filter-taken test attr rest is = rw is refl

filter-passed : (test : Attr → Bool) (attr : Attr) (rest : List Attr) → test attr ≡ false → filter test (attr ∷ rest) ≡ filter test rest
filter-passed test attr rest is = rw is refl

-- An attribute of the table at a place, where the ones before it were looked at.
module _ (table : Contents) (service characteristic : AttributeType) (k : ℕ) (d : Attr) (inside : Bool) (handles : HaveHandlesFrom 1 table.attributes)
    (below : k < length table.attributes) (known : inside ≡ is_in_service table service (take k table.attributes)) where
  abbrev pub attr : Attr
  attr = get_or table.attributes k d

  abbrev pub test : Attr → Bool
  test = is_wanted table service characteristic

  abbrev pub rest : List Attr
  rest = drop (k + 1) table.attributes

  tested : (is : Bool) → (is_value_of_type characteristic attr && inside) ≡ is → test attr ≡ is
  tested is told =
      wanted_at table service characteristic k d handles below
      ∙ ap (λ inside. is_value_of_type characteristic attr && inside) (sym known) ∙ told

  -- It is the one with the number that is left.
  pub found_here : (left : ℕ) (wanted : Option Handle) → (is_value_of_type characteristic attr && inside) ≡ true → left ≡ 1
      → handle_numbered left (filter test (drop k table.attributes)) ≡ wanted → Some attr.handle ≡ wanted
  found_here left wanted told last so_far =
      ap (λ number. handle_numbered number (attr ∷ filter test rest)) (sym last)
      ∙ ap (handle_numbered left) (sym (ap (filter test) (left_at table.attributes k d below) ∙ filter-taken test attr rest (tested true told)))
      ∙ so_far

  -- It is wanted, and has another number.
  pub found_later : (left : ℕ) (wanted : Option Handle) → (is_value_of_type characteristic attr && inside) ≡ true → left ≢ 1
      → handle_numbered left (filter test (drop k table.attributes)) ≡ wanted → handle_numbered (left - 1) (filter test rest) ≡ wanted
  found_later left wanted told other so_far =
      sym (number_later left attr (filter test rest) other)
      ∙ ap (handle_numbered left) (sym (ap (filter test) (left_at table.attributes k d below) ∙ filter-taken test attr rest (tested true told)))
      ∙ so_far

  -- It is not wanted.
  pub passed : (left : ℕ) (wanted : Option Handle) → (is_value_of_type characteristic attr && inside) ≡ false
      → handle_numbered left (filter test (drop k table.attributes)) ≡ wanted → handle_numbered left (filter test rest) ≡ wanted
  passed left wanted told so_far =
      ap (handle_numbered left) (sym (ap (filter test) (left_at table.attributes k d below) ∙ filter-passed test attr rest (tested false told)))
      ∙ so_far

  -- The attribute after it belongs to the service that it declares, or to the one before.
  pub inside_next : (uuid : Octets) (result : Bool)
      → result ≡ (if is_service_type attr.kind then bytes_eq (value_at table.values attr.handle) uuid else inside) → uuid ≡ type_octets service
      → result ≡ is_in_service table service (take (k + 1) table.attributes)
  inside_next uuid result told same =
      told
      ∙ ap (λ uuid. if is_service_type attr.kind then bytes_eq (value_at table.values attr.handle) uuid else inside) same
      ∙ ap (λ inside. if is_service_type attr.kind then bytes_eq (value_at table.values attr.handle) (type_octets service) else inside) known
      ∙ sym (inside_after table service table.attributes k d below)
