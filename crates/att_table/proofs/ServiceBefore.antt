-- The last service before a place is one of the table, and what the changer of a table is.
use Rattle.std.proofs.Common.{◌≡◌, ℕ, suc, ◌+◌, ◌-◌, ◌<◌, ◌≤◌, Bool, true, false, ◌==◌, ◌&&◌, cond, List, [], ◌∷◌, length, take, reverse, Option, Some, None, refl, sym, ap, subst, ◌∙◌, arith}
use Rattle.std.specs.Prelude.{slice_get, IfSome}
use Rattle.std.specs.List.{All, find}
use Rattle.std.specs.Option.{option_map, option_map_or}
use Rattle.std.proofs.lemmas.Bool.Decides.{nat_tests}
use Rattle.std.proofs.lemmas.List.{get_or-reverse, length-reverse}
use Rattle.std.proofs.lemmas.List.Elements.{All-nil, All-cons, All-head, All-tail, All-take}
use Rattle.att_numbers.specs.Types.{Handle}
use Rattle.att_numbers.specs.declared.attribute_type.TheConstants.{SERVICE_CHANGED}
use Rattle.att_policy.specs.declared.guard.TheConstants.Properties.{INDICATE}
use Rattle.att_policy.specs.Policy.{has_property}
use Rattle.att_values.specs.Cell.{Cell, IsUsed}
use Rattle.att_attributes.specs.declared.attr.Attr.{Attr}
use Rattle.att_attributes.specs.declared.type_index.Run.{Run}
use Rattle.att_attributes.specs.Attributes.{attribute_at, is_fixed_at, is_value, largest_at, HaveHandlesFrom}
use Rattle.att_table.specs.declared.changer.TheConstants.{CHANGER_LEN}
use Rattle.att_table.specs.Changer.{changer_of, declares_generic_attribute, is_changer, last_service, IsOfAChanger}
use Rattle.att_table.specs.Facts.{IsTable}
use Rattle.att_table.specs.Table.{Contents, value_at, values_of, IsKept, IsWhole}
use Rattle.att_table.proofs.Facts.{facts_of}
use Rattle.att_table.proofs.Tables.{kept-length}

-- what holds of each attribute holds of the one that is found
pub found-all : (P : Attr → Type 0) (test : Attr → Bool) (attributes : List Attr) (attr : Attr) → All P attributes → find test attributes ≡ Some attr → P attr
found-all P test [] attr all = λ found. cc found
found-all P test (first ∷ rest) attr all =
    elim (test first) as (λ passes. cond passes (Some first) (find test rest) ≡ Some attr → P attr) [
      | true ↦ λ found. let same : first ≡ attr = cc found in subst P same (All-head P first rest all)
      | false ↦ λ found. found-all P test rest attr (All-tail P first rest all) found
    ]

All-reverse : (P : Attr → Type 0) (attributes : List Attr) → All P attributes → All P (reverse attributes)
All-reverse P attributes all k d below =
    let count = length-reverse attributes in
    let within : k < length attributes = omega arith in
    subst P (sym (get_or-reverse attributes k d within)) (all (length attributes - 1 - k) d (omega arith))

-- handles are in use
abbrev IsHandleUpTo : Handle → Attr → Type 0
IsHandleUpTo last attr = (0 < attr.handle) × (attr.handle ≤ last)

all-used : (first last : Handle) (attributes : List Attr) → 0 < first → first + length attributes ≤ last + 1 → HaveHandlesFrom first attributes
    → All (IsHandleUpTo last) attributes
all-used first last [] used within handles = All-nil (IsHandleUpTo last)
all-used first last (attr ∷ rest) used within handles =
    All-cons (IsHandleUpTo last) attr rest (omega (arith, handles.0), omega (arith, handles.0))
    (all-used (first + 1) last rest (omega arith) (omega arith) handles.1)

pub service_used : (attributes : List Attr) (cells : List Cell) (places : ℕ) (service : Attr) → IsKept attributes cells → last_service (take places attributes)
    ≡ Some service
    → IsUsed cells service.handle
service_used attributes cells places service kept found =
    let P = IsHandleUpTo (length attributes) in
    let all = All-take P places attributes (all-used 1 (length attributes) attributes (omega arith) (omega arith) kept.numbered.handles) in
    let used = found-all P _ (reverse (take places attributes)) service (All-reverse P (take places attributes) all) found in
    let count = kept-length attributes cells kept in
    (used.0, omega (arith, used.1))

-- the attribute that is found stands at its handle, and passes the test
record IsFoundAt (test : Attr → Bool) (attributes : List Attr) (first : Handle) (attr : Attr) : Type 0 where
  from : first ≤ attr.handle
  place : slice_get attributes (attr.handle - first) ≡ Some attr
  passes : test attr ≡ true

found-here : (test : Attr → Bool) (next attr : Attr) (rest : List Attr) (first : Handle) → next.handle ≡ first → test next ≡ true → next ≡ attr
    → IsFoundAt test (next ∷ rest) first attr
found-here test next attr rest first own passes same =
    let handle : attr.handle ≡ first = ap (λ (a : Attr). a.handle) (sym same) ∙ own in
    let none : attr.handle - first ≡ 0 = omega arith in
    record {
      from = omega arith;
      place = ap (λ place. slice_get (next ∷ rest) place) none ∙ ap (λ (a : Attr). Some a) same;
      passes = ap test (sym same) ∙ passes;
    }

found-later : (test : Attr → Bool) (next attr : Attr) (rest : List Attr) (first : Handle) → IsFoundAt test rest (first + 1) attr
    → IsFoundAt test (next ∷ rest) first attr
found-later test next attr rest first later =
    let more : attr.handle - first ≡ suc (attr.handle - (first + 1)) = omega (arith, later.from) in
    record {
      from = omega (arith, later.from);
      place = ap (λ place. slice_get (next ∷ rest) place) more ∙ later.place;
      passes = later.passes;
    }

found-at : (test : Attr → Bool) (attributes : List Attr) (first : Handle) (attr : Attr) → HaveHandlesFrom first attributes → find test attributes ≡ Some attr
    → IsFoundAt test attributes first attr
found-at test [] first attr handles = λ found. cc found
found-at test (next ∷ rest) first attr handles =
    elim (test next) as (λ passes. test next ≡ passes → cond passes (Some next) (find test rest) ≡ Some attr → IsFoundAt test (next ∷ rest) first attr) [
      | true ↦ λ is found. found-here test next attr rest first handles.0 is (cc found)
      | false ↦ λ is found. found-later test next attr rest first (found-at test rest (first + 1) attr handles.1 found)
    ] refl

pub attribute-there : (attributes : List Attr) (handle : Handle) (attr : Attr) → 1 ≤ handle → slice_get attributes (handle - 1) ≡ Some attr
    → attribute_at attributes handle ≡ Some attr
attribute-there attributes handle attr used at = grind (arith, nat_tests)

-- what a changer is known to be
known : (one two three four five six : Bool) → one && two && three && four && five && six ≡ true → (one ≡ true) × (four ≡ true) × (five ≡ true)
known true true true true true six is = (refl, refl, refl)
known true true true true false six is = cc is
known true true true false five six is = cc is
known true true false four five six is = cc is
known true false three four five six is = cc is
known false two three four five six is = cc is

pub of_a_changer : (table : Contents) (attr : Attr) → IsTable table → find (is_changer table) table.attributes ≡ Some attr → IsOfAChanger table attr.handle
of_a_changer table attr facts found =
    let attributes = table.attributes in
    let at = found-at (is_changer table) attributes 1 attr facts.handles found in
    let is = known (is_value attr.role) (attr.kind == SERVICE_CHANGED) (has_property attr.guard.properties INDICATE) attr.fixed (attr.largest == CHANGER_LEN)
    (option_map_or (declares_generic_attribute table) (last_service (take (attr.handle - 1) attributes)) false) at.passes in
    let there = attribute-there attributes attr.handle attr at.from at.place in
    let fixed : is_fixed_at attributes attr.handle ≡ true = ap (λ found. option_map_or (λ (a : Attr). a.fixed) found false) there ∙ is.1 in
    let largest : largest_at attributes attr.handle ≡ attr.largest = ap (λ found. option_map_or (λ (a : Attr). a.largest) found 0) there in
    let four : attr.largest ≡ CHANGER_LEN = grind (arith, nat_tests, is.2) in
    record {
      value = ap (λ found. option_map_or (λ (a : Attr). is_value a.role) found false) there ∙ is.0;
      fixed = fixed;
      room = ap (λ keeps. cond keeps (length (value_at table.values attr.handle)) (largest_at attributes attr.handle)) fixed
          ∙ facts.fixed attr.handle fixed ∙ largest ∙ four;
    }

changer_known : (table : Contents) (found : Option Attr) → IsTable table → find (is_changer table) table.attributes ≡ found
    → IfSome (option_map (λ (attr : Attr). attr.handle) found) (λ handle. IsOfAChanger table handle)
changer_known table None facts found = tt
changer_known table (Some attr) facts found = of_a_changer table attr facts found

-- whatever is answered as the changer
pub changer_found : (attributes : List Attr) (cells : List Cell) (ends types : List Handle) (runs : List Run) (table : Contents) (result : Option Handle)
    → IsWhole attributes cells ends types runs
    → (let view : Contents = record { attributes = attributes; values = values_of cells } in view) ≡ table → result ≡ changer_of table
    → IfSome result (λ handle. IsOfAChanger table handle)
changer_found attributes cells ends types runs table result whole is answered =
    subst (λ answer. IfSome answer (λ handle. IsOfAChanger table handle)) (sym answered)
    (changer_known table (find (is_changer table) table.attributes) (facts_of attributes cells ends types runs table whole is) refl)
