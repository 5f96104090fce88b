-- The row of a client has room for each configuration of its table.
use Rattle.std.proofs.Common.{◌≡◌, ℕ, zero, suc, ◌+◌, ◌-◌, ◌<◌, ◌≤◌, Bool, true, false, ◌==◌, ◌&&◌, ◌||◌, cond, List, [], ◌∷◌, length, Some, None, if◌then◌else◌, refl, arith}
use Rattle.std.specs.List.{count_by}
use Rattle.std.specs.Option.{option_map_or}
use Rattle.std.specs.Prelude.{slice_get, nat_lt}
use Rattle.std.proofs.lemmas.Bool.Decides.{nat_tests}
use Rattle.std.proofs.lemmas.List.Elements.{All-cons, All-head, All-tail}
use Rattle.std.proofs.lemmas.List.Sums.{sum_by-cons}
use Rattle.att_numbers.specs.Types.{Handle, Row}
use Rattle.att_attributes.specs.declared.attr.Attr.{Attr}
use Rattle.att_attributes.specs.Attributes.{is_configuration, configurations_of, attribute_at, is_configuration_at, HaveHandlesFrom, IsNumbered}
use Rattle.att_table.specs.ConfigRow.{with_bits, has_entry, HasOneEntryEach, IsRowOf, HasRowRoom}
use Rattle.att_numbers.specs.declared.limit.TheConstants.{MAX_CONFIGURATIONS}

-- a write adds no other entry
has_with_bits : (row : Row) (handle bits other : ℕ) → has_entry (with_bits row handle bits) other ≡ has_entry row other || (handle == other)
has_with_bits [] handle bits other = grind (arith, nat_tests)
has_with_bits (entry ∷ row) handle bits other = grind (arith, nat_tests, has_with_bits row handle bits other)

pub one_entry_each : (row : Row) (handle bits : ℕ) → HasOneEntryEach row → HasOneEntryEach (with_bits row handle bits)
one_entry_each [] handle bits once = (refl, tt)
one_entry_each (entry ∷ row) handle bits once =
    elim (entry.0 == handle) as
    (λ same. (entry.0 == handle) ≡ same → HasOneEntryEach (if same then (handle, bits) ∷ row else entry ∷ with_bits row handle bits)) [
      | true ↦ λ same. (grind (arith, nat_tests, once.0), once.1)
      | false ↦ λ other. (grind (arith, nat_tests, once.0, has_with_bits row handle bits entry.0), one_entry_each row handle bits once.1)
    ] refl

-- and keeps the row one of its table
pub row_of : (attributes : List Attr) (row : Row) (handle bits : ℕ) → is_configuration_at attributes handle ≡ true → IsRowOf attributes row
    → IsRowOf attributes (with_bits row handle bits)
row_of attributes [] handle bits is all = All-cons (λ entry. is_configuration_at attributes entry.0 ≡ true) (handle, bits) [] is all
row_of attributes (entry ∷ row) handle bits is all =
    let test = λ (of : Handle × ℕ). is_configuration_at attributes of.0 ≡ true in
    elim (entry.0 == handle) as (λ same. IsRowOf attributes (if same then (handle, bits) ∷ row else entry ∷ with_bits row handle bits)) [
      | true ↦ All-cons test (handle, bits) row is (All-tail test entry row all)
      | false ↦ All-cons test entry (with_bits row handle bits) (All-head test entry row all)
          (row_of attributes row handle bits is (All-tail test entry row all))
    ]

-- at least as many pass where each that passed does, and one more where one did not
one_le : (p q : Bool) → (p ≡ true → q ≡ true) → cond p 1 0 ≤ cond q 1 0
one_le true q also = grind (arith, also refl)
one_le false q also = omega arith

count_le : (p q : Attr → Bool) (xs : List Attr) → ((attr : Attr) → p attr ≡ true → q attr ≡ true) → count_by p xs ≤ count_by q xs
count_le p q [] also = omega arith
count_le p q (x ∷ xs) also =
    let later = count_le p q xs also in
    let first = one_le (p x) (q x) (also x) in
    grind (arith, sum_by-cons (λ y. cond (p y) 1 0) x xs, sum_by-cons (λ y. cond (q y) 1 0) x xs)

count_less : (p q : Attr → Bool) (xs : List Attr) (place : ℕ) (attr : Attr) → ((other : Attr) → p other ≡ true → q other ≡ true)
    → slice_get xs place ≡ Some attr → p attr ≡ false → q attr ≡ true → count_by p xs + 1 ≤ count_by q xs
count_less p q [] place attr also at fails passes = cc at
count_less p q (x ∷ xs) zero attr also at fails passes =
    let later = count_le p q xs also in
    let same : x ≡ attr = cc at in
    let before : p x ≡ false = cc (same, fails) in
    let after : q x ≡ true = cc (same, passes) in
    grind (arith, sum_by-cons (λ y. cond (p y) 1 0) x xs, sum_by-cons (λ y. cond (q y) 1 0) x xs)
count_less p q (x ∷ xs) (suc place) attr also at fails passes =
    let later = count_less p q xs place attr also at fails passes in
    let first = one_le (p x) (q x) (also x) in
    grind (arith, sum_by-cons (λ y. cond (p y) 1 0) x xs, sum_by-cons (λ y. cond (q y) 1 0) x xs)

-- the attribute of a configuration
record IsAt (attributes : List Attr) (handle : ℕ) (attr : Attr) : Type 0 where
  used : 0 < handle
  place : slice_get attributes (handle - 1) ≡ Some attr
  own_handle : attr.handle ≡ handle
  is : is_configuration attr.role ≡ true

handle_from : (attributes : List Attr) (first place : ℕ) (attr : Attr) → HaveHandlesFrom first attributes → slice_get attributes place ≡ Some attr
    → attr.handle ≡ first + place
handle_from [] first place attr handles at = cc at
handle_from (x ∷ rest) first zero attr handles at = let same : x ≡ attr = cc at in grind (arith, handles.0)
handle_from (x ∷ rest) first (suc place) attr handles at = let later = handle_from rest (first + 1) place attr handles.1 at in omega arith

configuration_found : (attributes : List Attr) (handle : ℕ) → IsNumbered attributes → is_configuration_at attributes handle ≡ true → (attr : Attr)
    × IsAt attributes handle attr
configuration_found attributes handle numbered is =
    elim (attribute_at attributes handle) as (λ found. attribute_at attributes handle ≡ found
    → option_map_or (λ (attr : Attr). is_configuration attr.role) found false ≡ true → (attr : Attr) × IsAt attributes handle attr) [
      | None ↦ λ at has. cc has
      | Some attr ↦ λ at has.
          let used : 0 < handle = grind (arith, nat_tests) in
          let place : slice_get attributes (handle - 1) ≡ Some attr = grind (arith, nat_tests) in
          let own = handle_from attributes 1 (handle - 1) attr numbered.handles place in
          (attr, record { used = used; place = place; own_handle = omega arith; is = has })
    ] refl is

-- a row has at most as many entries as its table has configurations
abbrev is_covered : Row → Attr → Bool
is_covered row attr = is_configuration attr.role && has_entry row attr.handle

covered_by : (attributes : List Attr) (row : Row) → IsNumbered attributes → IsRowOf attributes row → HasOneEntryEach row
    → length row ≤ count_by (is_covered row) attributes
covered_by attributes [] numbered all once = omega arith
covered_by attributes (entry ∷ row) numbered all once =
    let test = λ (of : Handle × ℕ). is_configuration_at attributes of.0 ≡ true in
    let later = covered_by attributes row numbered (All-tail test entry row all) once.1 in
    let found = configuration_found attributes entry.0 numbered (All-head test entry row all) in
    let less = count_less (is_covered row) (is_covered (entry ∷ row)) attributes (entry.0 - 1) found.0
    (λ other passed. grind arith) found.1.place
    (grind (arith, found.1.own_handle, once.0)) (grind (arith, nat_tests, found.1.own_handle, found.1.is)) in
    omega arith

within : (attributes : List Attr) (row : Row) → IsNumbered attributes → configurations_of attributes ≤ MAX_CONFIGURATIONS → IsRowOf attributes row
    → HasOneEntryEach row → length row ≤ MAX_CONFIGURATIONS
within attributes row numbered few all once =
    let covered = covered_by attributes row numbered all once in
    let counted = count_le (is_covered row) (λ (attr : Attr). is_configuration attr.role) attributes (λ attr passed. grind arith) in
    omega arith

-- so there is room for a configuration that the row lacks
room_unless : (attributes : List Attr) (row : Row) (handle : ℕ) (has : Bool) → has_entry row handle ≡ has → IsNumbered attributes
    → configurations_of attributes ≤ MAX_CONFIGURATIONS
    → is_configuration_at attributes handle ≡ true → IsRowOf attributes row → HasOneEntryEach row → has || nat_lt (length row) MAX_CONFIGURATIONS ≡ true
room_unless attributes row handle true has numbered few is all once = refl
room_unless attributes row handle false has numbered few is all once =
    let more = within attributes ((handle, 0) ∷ row) numbered few (All-cons (λ entry. is_configuration_at attributes entry.0 ≡ true) (handle, 0) row is all)
    (has, once) in
    grind (arith, nat_tests)

pub room_in_row : (attributes : List Attr) (handle : ℕ) → IsNumbered attributes → configurations_of attributes ≤ MAX_CONFIGURATIONS
    → HasRowRoom attributes handle
room_in_row attributes handle numbered few is row all once = room_unless attributes row handle (has_entry row handle) refl numbered few is all once
