-- Tables that agree but for hidden values tell of changes by the same value.
use Rattle.std.proofs.Common.{◌≡◌, ℕ, zero, suc, ◌+◌, ◌-◌, ◌<◌, Bool, true, false, ◌==◌, ◌&&◌, cond, List, [], ◌∷◌, length, take, reverse, get_or, Option, Some, None, refl, sym, ap, subst, ◌∙◌, arith}
use Rattle.std.specs.Prelude.{slice_get, not}
use Rattle.std.specs.List.{All, find}
use Rattle.std.specs.Option.{option_map, option_map_or}
use Rattle.std.specs.Str.{bytes_eq}
use Rattle.std.proofs.lemmas.Bool.Decides.{nat_tests}
use Rattle.std.proofs.lemmas.List.{get_or-reverse, length-reverse}
use Rattle.std.proofs.lemmas.List.Elements.{All-head, All-tail, All-take}
use Rattle.att_numbers.specs.Types.{Handle, Values}
use Rattle.att_numbers.specs.declared.attribute_type.TheConstants.{GENERIC_ATTRIBUTE_SERVICE, PRIMARY_SERVICE, SERVICE_CHANGED}
use Rattle.att_policy.specs.declared.guard.TheConstants.Properties.{INDICATE}
use Rattle.att_policy.specs.Policy.{has_property}
use Rattle.att_attributes.specs.declared.attr.Attr.{Attr}
use Rattle.att_attributes.specs.Attributes.{attribute_at, is_value, type_at, HaveHandlesFrom}
use Rattle.att_attributes.specs.Group.{is_service_type}
use Rattle.att_table.specs.Changer.{changer_of, declares_generic_attribute, is_changer, last_service}
use Rattle.att_table.specs.Table.{Contents, value_at}
use Rattle.att_writes.specs.SameBut.{SameBut}
use Rattle.gatt_laws.specs.laws.NothingCrosses.{TablesAgree}
use Rattle.gatt_laws.specs.laws.TwoWorlds.{SameTable}
use Rattle.octet_io.specs.Number.{Octets, two_octets}

-- an attribute that is found is one of the list, and passes the test
found-one : (P : Attr → Type 0) (test : Attr → Bool) (attributes : List Attr) (attr : Attr) → All P attributes → find test attributes ≡ Some attr
    → P attr × (test attr ≡ true)
found-one P test [] attr all = λ found. cc found
found-one P test (first ∷ rest) attr all =
    elim (test first) as (λ passes. test first ≡ passes → cond passes (Some first) (find test rest) ≡ Some attr → P attr × (test attr ≡ true)) [
      | true ↦ λ is found. let same : first ≡ attr = cc found in (subst P same (All-head P first rest all), ap test (sym same) ∙ is)
      | false ↦ λ is found. found-one P test rest attr (All-tail P first rest all) found
    ] refl

all-reversed : (P : Attr → Type 0) (attributes : List Attr) → All P attributes → All P (reverse attributes)
all-reversed P attributes all k d below =
    let count = length-reverse attributes in
    let within : k < length attributes = omega arith in
    subst P (sym (get_or-reverse attributes k d within)) (all (length attributes - 1 - k) d (omega arith))

-- each attribute stands at its handle
at-place : (attributes : List Attr) (first k : ℕ) (d : Attr) → HaveHandlesFrom first attributes → k < length attributes
    → ((get_or attributes k d).handle ≡ first + k) × (slice_get attributes k ≡ Some (get_or attributes k d))
at-place [] first k d handles below = absurd (omega (arith, below))
at-place (attr ∷ rest) first zero d handles below = (omega (arith, handles.0), refl)
at-place (attr ∷ rest) first (suc k) d handles below =
    let later = at-place rest (first + 1) k d handles.1 (omega (arith, below)) in
    (omega (arith, later.0), later.1)

abbrev IsAtItsHandle : List Attr → Attr → Type 0
IsAtItsHandle attributes attr = (0 < attr.handle) × (attribute_at attributes attr.handle ≡ Some attr)

there : (attributes : List Attr) (handle : Handle) (attr : Attr) → 0 < handle → slice_get attributes (handle - 1) ≡ Some attr → attribute_at attributes handle
    ≡ Some attr
there attributes handle attr used at = grind (arith, nat_tests)

all-there : (attributes : List Attr) → HaveHandlesFrom 1 attributes → All (IsAtItsHandle attributes) attributes
all-there attributes handles k d below =
    let attr : Attr = get_or attributes k d in
    let place = at-place attributes 1 k d handles below in
    let used : 0 < attr.handle = omega (arith, place.0) in
    let before : k ≡ attr.handle - 1 = omega (arith, place.0) in
    (used, there attributes attr.handle attr used (sym (ap (slice_get attributes) before) ∙ place.1))

shown-anyhow : (hidden service : Bool) → service ≡ true → (hidden && not service) ≡ false
shown-anyhow true true is = refl
shown-anyhow false true is = refl
shown-anyhow hidden false is = cc is

module _ (hidden : Handle → Bool) (attributes : List Attr) (xs ys : Values) (handles : HaveHandlesFrom 1 attributes)
    (same : SameBut (λ handle. hidden handle && not (is_service_type (type_at attributes handle))) xs ys) where
  abbrev of : Values → Contents
  of values = record { attributes = attributes; values = values }

  service-same : (attr : Attr) → IsAtItsHandle attributes attr → is_service_type attr.kind ≡ true → value_at xs attr.handle ≡ value_at ys attr.handle
  service-same attr at service =
      let kind : type_at attributes attr.handle ≡ attr.kind = ap (λ (found : Option Attr). option_map_or (λ (a : Attr). a.kind) found 0) at.1 in
      same.shown attr.handle at.0 (shown-anyhow (hidden attr.handle) (is_service_type (type_at attributes attr.handle)) (ap is_service_type kind ∙ service))

  declared-same : (place : ℕ) (found : Option Attr) → last_service (take place attributes) ≡ found
      → option_map_or (declares_generic_attribute (of xs)) found false ≡ option_map_or (declares_generic_attribute (of ys)) found false
  declared-same place None is = refl
  declared-same place (Some service) is =
      let P : Attr → Type 0 = IsAtItsHandle attributes in
      let found = found-one P (λ (attr : Attr). is_service_type attr.kind) (reverse (take place attributes)) service
      (all-reversed P (take place attributes) (All-take P place attributes (all-there attributes handles))) is in
      ap (λ (octets : Octets). (service.kind == PRIMARY_SERVICE) && bytes_eq octets (two_octets GENERIC_ATTRIBUTE_SERVICE))
      (service-same service found.0 found.1)

  test-same : (attr : Attr) → is_changer (of xs) attr ≡ is_changer (of ys) attr
  test-same attr =
      ap (λ (declared : Bool). is_value attr.role && (attr.kind == SERVICE_CHANGED) && has_property attr.guard.properties INDICATE
      && attr.fixed && (attr.largest == 4) && declared)
      (declared-same (attr.handle - 1) (last_service (take (attr.handle - 1) attributes)) refl)

  changer-same : changer_of (of xs) ≡ changer_of (of ys)
  changer-same = λ i. option_map (λ (attr : Attr). attr.handle) (find (λ attr. test-same attr i) attributes)

weaken-and : (hidden service : Bool) → hidden ≡ false → (hidden && not service) ≡ false
weaken-and false service is = refl
weaken-and true service is = cc is

pub tables_same : (hidden : Handle → Bool) (one other : Contents) → HaveHandlesFrom 1 one.attributes → TablesAgree hidden one other → SameTable hidden one other
tables_same hidden one other handles agree =
    let attributes = agree.attributes in
    let whole : record { attributes = one.attributes; values = other.values } ≡ other = λ i. record { attributes = attributes i; values = other.values } in
    record {
      attributes = attributes;
      changer = changer-same hidden one.attributes one.values other.values handles agree.values ∙ ap changer_of whole;
      values = record {
        count = agree.values.count;
        lengths = agree.values.lengths;
        shown = λ handle used shown. agree.values.shown handle used (weaken-and (hidden handle) (is_service_type (type_at one.attributes handle)) shown);
      };
    }
