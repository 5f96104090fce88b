-- What holds of each table, by what holds of its cells.
use Rattle.std.proofs.Common.{◌≡◌, ℕ, zero, suc, ◌+◌, ◌-◌, ◌*◌, ◌<◌, ◌≤◌, Bool, true, false, ◌==◌, cond, List, [], ◌∷◌, ◌++◌, length, get_or, set, Some, None, refl, sym, ap, subst, ◌∙◌, inl, inr, arith, length-append, length-take, length-drop}
use Rattle.std.specs.Prelude.{All, IsSome, slice_get, sum_by}
use Rattle.std.specs.Option.{option_map_or}
use Rattle.std.proofs.lemmas.Bool.{cases_lt}
use Rattle.std.proofs.lemmas.Bool.Decides.{nat_tests}
use Rattle.std.proofs.lemmas.List.{get_or_past, append-nil, length-map, map-append}
use Rattle.std.proofs.lemmas.List.Elements.{All-nil, All-cons, All-head, All-tail, All-append}
use Rattle.std.proofs.lemmas.List.Sums.{sum_by-cons}
use Rattle.octet_io.specs.Number.{Octets}
use Rattle.att_numbers.specs.Types.{Handle}
use Rattle.att_values.specs.Cell.{Cell, no_cell, cell_at, value_with_part}
use Rattle.att_attributes.specs.declared.attr.Attr.{Attr}
use Rattle.att_attributes.specs.declared.type_index.Run.{Run}
use Rattle.att_attributes.specs.declared.attr.Role.{Role}
use Rattle.att_attributes.specs.declared.attr.Role.TheVariants.{Declaration, Value, Configuration, Descriptor}
use Rattle.att_attributes.specs.Attributes.{attribute_at, largest_at, is_configuration, is_configuration_at, is_fixed_at, is_value, is_value_at}
use Rattle.att_table.specs.Facts.{IsTable}
use Rattle.att_table.specs.Table.{Contents, value_at, room_at, values_of, most_octets, counted_octets, value_octets, StandBehind, last_role, AreExact, IsKept, IsNext, IsWhole}
use Rattle.att_attributes.proofs.OfType.{numbered_pushed}
use Rattle.att_table.proofs.Configurations.{room_in_row}
use Rattle.att_table.proofs.Services.{attribute_at-within}
use Rattle.att_table.proofs.Tables.{kept-length, kept-room, value_at-cell, cell-within}
use Rattle.att_numbers.specs.declared.limit.TheConstants.{MAX_ATTRIBUTES, MAX_DECLARATION, MAX_VALUE}

-- the largest lengths
most-value : (role : Role) → most_octets role ≤ MAX_VALUE
most-value Declaration = omega arith
most-value Value = omega arith
most-value Configuration = omega arith
most-value Descriptor = omega arith

abbrev IsLargest : Attr → Type 0
IsLargest attr = attr.largest ≤ most_octets attr.role

all-value : (attributes : List Attr) → All IsLargest attributes → All (λ (attr : Attr). attr.largest ≤ MAX_VALUE) attributes
all-value [] all = All-nil (λ (attr : Attr). attr.largest ≤ MAX_VALUE)
all-value (attr ∷ rest) all =
    let here = All-head IsLargest attr rest all in
    let most = most-value attr.role in
    All-cons (λ (attr : Attr). attr.largest ≤ MAX_VALUE) attr rest (omega arith) (all-value rest (All-tail IsLargest attr rest all))

counted-or-declared : (role : Role) (largest : ℕ) → largest ≤ most_octets role → largest ≤ counted_octets role largest + MAX_DECLARATION
counted-or-declared Declaration largest within = omega arith
counted-or-declared Value largest within = omega arith
counted-or-declared Configuration largest within = omega arith
counted-or-declared Descriptor largest within = omega arith

pub sum-largest : (attributes : List Attr) → All IsLargest attributes → sum_by (λ (attr : Attr). attr.largest) attributes ≤ value_octets attributes
    + MAX_DECLARATION * length attributes
sum-largest [] all = omega arith
sum-largest (attr ∷ rest) all =
    let later = sum-largest rest (All-tail IsLargest attr rest all) in
    let here = counted-or-declared attr.role attr.largest (All-head IsLargest attr rest all) in
    let sums = sum_by-cons (λ (a : Attr). a.largest) attr rest in
    let counts = sum_by-cons (λ (a : Attr). counted_octets a.role a.largest) attr rest in
    omega (arith, later, here, sums, counts)

-- the lengths of fixed values
pub exact-set : (attributes : List Attr) (cells : List Cell) (i : ℕ) (cell : Cell) → AreExact attributes cells
    → ((attr : Attr) → slice_get attributes i ≡ Some attr → attr.fixed ≡ true → length cell.octets ≡ cell.room) → AreExact attributes (set cells i cell)
exact-set [] cells i cell exact new = tt
exact-set (attr ∷ rest) [] i cell exact new = tt
exact-set (attr ∷ rest) (first ∷ cells) zero cell exact new = (new attr refl, exact.1)
exact-set (attr ∷ rest) (first ∷ cells) (suc i) cell exact new = (exact.0, exact-set rest cells i cell exact.1 new)

pub exact-push : (attributes : List Attr) (cells : List Cell) (attr : Attr) (cell : Cell) → length attributes ≡ length cells → AreExact attributes cells
    → (attr.fixed ≡ true → length cell.octets ≡ cell.room) → AreExact (attributes ++ attr ∷ []) (cells ++ cell ∷ [])
exact-push [] [] attr cell count exact new = (new, tt)
exact-push [] (first ∷ cells) attr cell count exact new = absurd (omega arith)
exact-push (head ∷ rest) [] attr cell count exact new = absurd (omega arith)
exact-push (head ∷ rest) (first ∷ cells) attr cell count exact new = (exact.0, exact-push rest cells attr cell (omega arith) exact.1 new)

pub exact-at : (attributes : List Attr) (cells : List Cell) (i : ℕ) (attr : Attr) → length attributes ≡ length cells → AreExact attributes cells
    → slice_get attributes i ≡ Some attr → attr.fixed ≡ true → length (get_or cells i no_cell).octets ≡ (get_or cells i no_cell).room
exact-at [] cells i attr count exact at fixed = cc at
exact-at (head ∷ rest) [] i attr count exact at fixed = absurd (omega arith)
exact-at (head ∷ rest) (first ∷ cells) zero attr count exact at fixed = let same : head ≡ attr = cc at in exact.0 (cc (same, fixed))
exact-at (head ∷ rest) (first ∷ cells) (suc i) attr count exact at fixed = exact-at rest cells i attr (omega arith) exact.1 at fixed

-- the roles
pub stand-push : (before : Role) (attributes : List Attr) (attr : Attr) → StandBehind before attributes
    → (is_configuration attr.role ≡ true → is_value (last_role before attributes) ≡ true) → StandBehind before (attributes ++ attr ∷ [])
stand-push before [] attr stand new = (new, tt)
stand-push before (first ∷ rest) attr stand new = (stand.0, stand-push first.role rest attr stand.1 new)

pub last-push : (before : Role) (attributes : List Attr) (attr : Attr) → last_role before (attributes ++ attr ∷ []) ≡ attr.role
last-push before [] attr = refl
last-push before (first ∷ rest) attr = last-push first.role rest attr

abbrev value_before : Role → List Attr → ℕ → Bool
value_before before attributes zero = is_value before
value_before before attributes (suc place) = option_map_or (λ (attr : Attr). is_value attr.role) (slice_get attributes place) false

stand-at : (before : Role) (attributes : List Attr) (place : ℕ) (attr : Attr) → StandBehind before attributes → slice_get attributes place ≡ Some attr
    → is_configuration attr.role ≡ true → value_before before attributes place ≡ true
stand-at before [] place attr stand at is = cc at
stand-at before (first ∷ rest) zero attr stand at is = let same : first ≡ attr = cc at in stand.0 (cc (same, is))
stand-at before (first ∷ rest) (suc zero) attr stand at is = stand-at first.role rest zero attr stand.1 at is
stand-at before (first ∷ rest) (suc (suc place)) attr stand at is = stand-at first.role rest (suc place) attr stand.1 at is

value-at : (attributes : List Attr) (place : ℕ) → value_before Declaration attributes place ≡ true → is_value_at attributes place ≡ true
value-at attributes zero before = cc before
value-at attributes (suc place) before =
    let test : (suc place == 0) ≡ false = grind (arith, nat_tests) in
    let less : suc place - 1 ≡ place = omega arith in
    rw (test, less) before

-- an attribute that passes a test
pub attribute_found : (attributes : List Attr) (handle : Handle) (test : Attr → Bool) → option_map_or test (attribute_at attributes handle) false ≡ true
    → (attr : Attr) × (0 < handle) × (slice_get attributes (handle - 1) ≡ Some attr) × (test attr ≡ true)
attribute_found attributes handle test passes =
    elim (attribute_at attributes handle) as (λ found. attribute_at attributes handle ≡ found → option_map_or test found false ≡ true → (attr : Attr)
    × (0 < handle) × (slice_get attributes (handle - 1) ≡ Some attr) × (test attr ≡ true)) [
      | None ↦ λ at has. cc has
      | Some attr ↦ λ at has. (attr, grind (arith, nat_tests), grind (arith, nat_tests), has)
    ] refl passes

is_there : (attributes : List Attr) (handle : Handle) (attr : Attr) → 0 < handle → slice_get attributes (handle - 1) ≡ Some attr
    → attribute_at attributes handle ≡ Some attr
is_there attributes handle attr used at = grind (arith, nat_tests)

some_is : (attributes : List Attr) (handle : Handle) (attr : Attr) → attribute_at attributes handle ≡ Some attr → IsSome (attribute_at attributes handle)
some_is attributes handle attr at = grind arith

value-within : (attributes : List Attr) (cells : List Cell) (handle : Handle) → IsKept attributes cells → 0 < handle
    → length (value_at (values_of cells) handle) ≤ largest_at attributes handle
value-within attributes cells handle kept used = elim (cases_lt (handle - 1) (length cells)) [
  | inr past ↦
      let value = value_at-cell cells handle ∙ ap (λ (cell : Cell). cell.octets) (get_or_past cells (handle - 1) no_cell past) in
      omega (arith, ap length value)
  | inl below ↦
      let count = kept-length attributes cells kept in
      let room = kept-room attributes cells handle kept (attribute_at-within attributes handle used (omega arith)) in
      omega (arith, room, ap length (value_at-cell cells handle), cell-within attributes cells handle kept)
]

value-fixed : (attributes : List Attr) (cells : List Cell) (handle : Handle) → IsKept attributes cells → is_fixed_at attributes handle ≡ true
    → length (value_at (values_of cells) handle) ≡ largest_at attributes handle
value-fixed attributes cells handle kept fixed =
    let found = attribute_found attributes handle (λ (attr : Attr). attr.fixed) fixed in
    let at = is_there attributes handle found.0 found.1 found.2 in
    ap length (value_at-cell cells handle)
    ∙ exact-at attributes cells (handle - 1) found.0 (kept-length attributes cells kept) kept.exact found.2 found.3
    ∙ kept-room attributes cells handle kept (some_is attributes handle found.0 at)

configuration-behind : (attributes : List Attr) (cells : List Cell) (handle : Handle) → IsKept attributes cells → is_configuration_at attributes handle ≡ true
    → is_value_at attributes (handle - 1) ≡ true
configuration-behind attributes cells handle kept is =
    let found = attribute_found attributes handle (λ (attr : Attr). is_configuration attr.role) is in
    value-at attributes (handle - 1) (stand-at Declaration attributes (handle - 1) found.0 kept.behind found.2 found.3)

facts : (attributes : List Attr) (cells : List Cell) (ends types : List Handle) (runs : List Run) → IsWhole attributes cells ends types runs
    → IsTable (record { attributes = attributes; values = values_of cells })
facts attributes cells ends types runs whole =
    let kept = whole.kept in
    let sum = sum-largest attributes kept.largest in
    record {
      handles = kept.numbered.handles;
      most = kept.numbered.most;
      one_value_each = length-map cells (λ (cell : Cell). cell.octets) ∙ sym (kept-length attributes cells kept);
      largest = all-value attributes kept.largest;
      within = λ handle used. value-within attributes cells handle kept used;
      fixed = λ handle is. value-fixed attributes cells handle kept is;
      behind = λ handle is. configuration-behind attributes cells handle kept is;
      configurations = whole.few;
      rows = λ handle. room_in_row attributes handle kept.numbered whole.few;
      octets = omega (arith, sum, whole.counted, kept.numbered.most);
    }

pub facts_of : (attributes : List Attr) (cells : List Cell) (ends types : List Handle) (runs : List Run) (table : Contents)
    → IsWhole attributes cells ends types runs
    → (let view : Contents = record { attributes = attributes; values = values_of cells } in view) ≡ table → IsTable table
facts_of attributes cells ends types runs table whole is = subst IsTable is (facts attributes cells ends types runs whole)

-- what a fixed value needs of what is written
fixed-here : (attributes : List Attr) (handle : Handle) (attr : Attr) → 0 < handle → slice_get attributes (handle - 1) ≡ Some attr → attr.fixed ≡ true
    → is_fixed_at attributes handle ≡ true
fixed-here attributes handle attr used at fixed = ap (λ found. option_map_or (λ (a : Attr). a.fixed) found false) (is_there attributes handle attr used at)
    ∙ fixed

-- a part keeps the length of a fixed value, and what replaces it has that length
abbrev pub KeepsLength : List Attr → List Cell → Bool → Handle → ℕ → Octets → Type 0
KeepsLength attributes cells keep handle offset part = (attr : Attr) → slice_get attributes (handle - 1) ≡ Some attr → attr.fixed ≡ true
    → length (value_with_part keep (cell_at cells handle).octets offset part) ≡ (cell_at cells handle).room

replaced : (attributes : List Attr) (cells : List Cell) (handle : Handle) (octets : Octets) → IsKept attributes cells → 0 < handle
    → (is_fixed_at attributes handle ≡ true → length octets ≡ room_at (record { attributes = attributes; values = values_of cells }) handle)
    → KeepsLength attributes cells false handle 0 octets
replaced attributes cells handle octets kept used exact attr at fixed =
    let is = fixed-here attributes handle attr used at fixed in
    let room : room_at (record { attributes = attributes; values = values_of cells }) handle ≡ length (value_at (values_of cells) handle) =
    ap (λ b. cond b (length (value_at (values_of cells) handle)) (largest_at attributes handle)) is in
    let own = exact-at attributes cells (handle - 1) attr (kept-length attributes cells kept) kept.exact at fixed in
    ap length (append-nil octets) ∙ exact is ∙ room ∙ ap length (value_at-cell cells handle) ∙ own

pub keeps_replaced : (attributes : List Attr) (cells : List Cell) (table : Contents) (handle : Handle) (octets : Octets)
    → IsKept attributes cells → (let view : Contents = record { attributes = attributes; values = values_of cells } in view) ≡ table → 0 < handle
    → (is_fixed_at table.attributes handle ≡ true → length octets ≡ room_at table handle) → KeepsLength attributes cells false handle 0 octets
keeps_replaced attributes cells table handle octets kept is used =
    let P : Contents → Type 0 = λ t. (is_fixed_at t.attributes handle ≡ true → length octets ≡ room_at t handle)
    → KeepsLength attributes cells false handle 0 octets in
    subst P is (λ exact. replaced attributes cells handle octets kept used exact)

length-kept : (value part : Octets) (offset : ℕ) → offset + length part ≤ length value → length (value_with_part true value offset part) ≡ length value
length-kept value part offset fits = simp (length-append, length-take, length-drop) (omega arith)

written : (attributes : List Attr) (cells : List Cell) (keep : Bool) (handle : Handle) (offset : ℕ) (part : Octets) → IsKept attributes cells → 0 < handle
    → keep ≡ is_fixed_at attributes handle → offset + length part ≤ room_at (record { attributes = attributes; values = values_of cells }) handle
    → KeepsLength attributes cells keep handle offset part
written attributes cells keep handle offset part kept used keeps fits attr at fixed =
    let is = fixed-here attributes handle attr used at fixed in
    let room : room_at (record { attributes = attributes; values = values_of cells }) handle ≡ length (value_at (values_of cells) handle) =
    ap (λ b. cond b (length (value_at (values_of cells) handle)) (largest_at attributes handle)) is in
    let own = exact-at attributes cells (handle - 1) attr (kept-length attributes cells kept) kept.exact at fixed in
    let value = (cell_at cells handle).octets in
    let within : offset + length part ≤ length value = omega (arith, fits, room, ap length (value_at-cell cells handle)) in
    ap (λ b. length (value_with_part b value offset part)) (keeps ∙ is) ∙ length-kept value part offset within ∙ own

pub keeps_written : (attributes : List Attr) (cells : List Cell) (table : Contents) (keep : Bool) (handle : Handle) (offset : ℕ) (part : Octets)
    → IsKept attributes cells → (let view : Contents = record { attributes = attributes; values = values_of cells } in view) ≡ table → 0 < handle
    → keep ≡ is_fixed_at table.attributes handle → offset + length part ≤ room_at table handle → KeepsLength attributes cells keep handle offset part
keeps_written attributes cells table keep handle offset part kept is used =
    let P : Contents → Type 0 = λ t. keep ≡ is_fixed_at t.attributes handle → offset + length part ≤ room_at t handle
    → KeepsLength attributes cells keep handle offset part in
    subst P is (λ keeps fits. written attributes cells keep handle offset part kept used keeps fits)

-- one more attribute with its value
abbrev Fits : Cell → Type 0
Fits cell = length cell.octets ≤ cell.room

pub kept-pushed : (attributes : List Attr) (cells : List Cell) (attr : Attr) (value : Octets) → IsKept attributes cells → length attributes < MAX_ATTRIBUTES
    → IsNext attributes attr value
    → IsKept (attributes ++ attr ∷ []) (cells ++ record { room = attr.largest; octets = value } ∷ [])
kept-pushed attributes cells attr value kept room next =
    let cell : Cell = record { room = attr.largest; octets = value } in
    record {
      numbered = numbered_pushed attributes attr kept.numbered room next.handle;
      largest = All-append IsLargest attributes (attr ∷ []) kept.largest (All-cons IsLargest attr [] next.largest (All-nil IsLargest));
      behind = stand-push Declaration attributes attr kept.behind next.behind;
      exact = exact-push attributes cells attr cell (kept-length attributes cells kept) kept.exact next.exact;
      rooms = map-append (λ (a : Attr). a.largest) attributes (attr ∷ []) ∙ ap (λ rooms. rooms ++ attr.largest ∷ []) kept.rooms
          ∙ sym (map-append (λ (c : Cell). c.room) cells (cell ∷ []));
      within = All-append Fits cells (cell ∷ []) kept.within (All-cons Fits cell [] next.fits (All-nil Fits));
    }
