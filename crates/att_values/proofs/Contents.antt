-- The cells of a store as a map from handles to values.
use Rattle.std.proofs.Common.{◌≡◌, ℕ, zero, suc, ◌+◌, ◌-◌, ◌<◌, Bool, false, ◌==◌, ◌&&◌, nat_lt, nat_le, if◌then◌else◌, List, [], ◌∷◌, length, map, get_or, set, Some, None, refl, ap, sym, ◌∙◌, arith, nat_cmp}
use Rattle.std.specs.Prelude.{IsSome, is_some, unwrap_or}
use Rattle.std.specs.List.{enumerate_from, slice_get}
use Rattle.std.specs.Ordering.{eq_by_cmp}
use Rattle.std.specs.Cmp.{unsigned_tied}
use Rattle.std.specs.FinMap.{find, get, insert, get-from_entries, get-insert, gets, same_map, nat_cmp-IsAntisymmetric}
use Rattle.std.proofs.Math.Path.{fun_ext}
use Rattle.std.proofs.lemmas.Cmp.{nat_cmp_total}
use Rattle.std.proofs.lemmas.Bool.Decides.{nat_tests}
use Rattle.std.proofs.lemmas.Option.{slice_get-get_or, slice_get_past}
use Rattle.std.proofs.lemmas.List.{length-map, get_or-map, map-set, get_or_past}
use Rattle.att_values.specs.Cell.{Cell, no_cell, IsUsed, cell_at, value_with_part, patched_cell, with_part}
use Rattle.att_values.specs.ValueStore.{contents_of, rooms_of, value_in}

-- what a search for a handle finds in the values, counted from a number on
find_before : (xs : List (List ℕ)) (from handle : ℕ) → handle < from → find nat_cmp handle (enumerate_from from xs) ≡ None
find_before [] from handle before = refl
find_before (x ∷ xs) from handle before =
    rw (unsigned_tied handle from) (grind (arith, nat_tests, find_before xs (from + 1) handle (omega arith)))

find_enumerated : (xs : List (List ℕ)) (from k handle : ℕ) → handle ≡ from + k → find nat_cmp handle (enumerate_from from xs) ≡ slice_get xs k
find_enumerated [] from k handle at = refl
find_enumerated (x ∷ xs) from zero handle at = rw (unsigned_tied handle from) (grind (arith, nat_tests))
find_enumerated (x ∷ xs) from (suc k) handle at =
    rw (unsigned_tied handle from) (grind (arith, nat_tests, find_enumerated xs (from + 1) k handle (omega arith)))

abbrev values : List Cell → List (List ℕ)
values cells = map (λ (cell : Cell). cell.octets) cells

-- the contents have the value of each handle that is in use
pub value_used : (cells : List Cell) (handle : ℕ) → IsUsed cells handle → get (contents_of cells) handle ≡ Some (cell_at cells handle).octets
value_used cells handle used =
    let octets = λ (cell : Cell). cell.octets in
    let count : length (values cells) ≡ length cells = length-map cells octets in
    get-from_entries nat_cmp_total (enumerate_from 1 (values cells)) handle
    ∙ find_enumerated (values cells) 1 (handle - 1) handle (omega arith)
    ∙ slice_get-get_or (values cells) (handle - 1) [] (omega arith)
    ∙ ap Some (get_or-map octets cells (handle - 1) no_cell [] (omega arith))

-- and no others
pub value_zero : (cells : List Cell) → get (contents_of cells) 0 ≡ None
value_zero cells = get-from_entries nat_cmp_total (enumerate_from 1 (values cells)) 0 ∙ find_before (values cells) 1 0 (omega arith)

pub value_past : (cells : List Cell) (handle : ℕ) → length cells < handle → get (contents_of cells) handle ≡ None
value_past cells handle past =
    let count : length (values cells) ≡ length cells = length-map cells (λ (cell : Cell). cell.octets) in
    get-from_entries nat_cmp_total (enumerate_from 1 (values cells)) handle
    ∙ find_enumerated (values cells) 1 (handle - 1) handle (omega arith)
    ∙ slice_get_past (values cells) (handle - 1) (omega arith)

pub has_used : (cells : List Cell) (handle : ℕ) → is_some (get (contents_of cells) handle) ≡ (nat_lt 0 handle && nat_le handle (length cells))
has_used cells zero = rw (value_zero cells) refl
has_used cells (suc handle) =
    grind (arith, nat_tests, value_used cells (suc handle), value_past cells (suc handle))

pub used_has : (cells : List Cell) (handle : ℕ) → IsSome (get (contents_of cells) handle) → IsUsed cells handle
used_has cells handle has =
    let test = has_used cells handle in
    (grind (arith, nat_tests), grind (arith, nat_tests))

-- the room of a handle that is in use
pub room_used : (cells : List Cell) (handle : ℕ) → IsUsed cells handle → rooms_of cells handle ≡ (cell_at cells handle).room
room_used cells handle used = grind (arith, nat_tests)

pub room_unused : (cells : List Cell) (handle : ℕ) → (nat_lt 0 handle && nat_le handle (length cells)) ≡ false → rooms_of cells handle ≡ 0
room_unused cells handle unused = grind (arith, nat_tests, get_or_past {X = Cell})

-- a value that is written over one is that of its handle
slice_get-set : (xs : List (List ℕ)) (i k : ℕ) (value : List ℕ) → i < length xs → slice_get (set xs i value) k ≡ (if k == i then Some value else slice_get xs k)
slice_get-set [] i k value below = absurd (omega arith)
slice_get-set (x ∷ xs) zero zero value below = refl
slice_get-set (x ∷ xs) zero (suc k) value below = grind (arith, nat_tests)
slice_get-set (x ∷ xs) (suc i) zero value below = grind (arith, nat_tests)
slice_get-set (x ∷ xs) (suc i) (suc k) value below = grind (arith, nat_tests, slice_get-set xs i k value (omega arith))

get_after_zero : (cells : List Cell) (k : ℕ) → get (contents_of cells) (suc k) ≡ slice_get (values cells) k
get_after_zero cells k = get-from_entries nat_cmp_total (enumerate_from 1 (values cells)) (suc k) ∙ find_enumerated (values cells) 1 k (suc k) (omega arith)

get_written : (cells : List Cell) (i q : ℕ) (cell : Cell) → i < length cells
    → get (contents_of (set cells i cell)) q ≡ (if eq_by_cmp nat_cmp q (suc i) then Some cell.octets else get (contents_of cells) q)
get_written cells i zero cell below =
    let differ : (0 == suc i) ≡ false = grind (arith, nat_tests) in
    rw (unsigned_tied 0 (suc i), differ) (value_zero (set cells i cell) ∙ sym (value_zero cells))
get_written cells i (suc k) cell below =
    let octets = λ (cell : Cell). cell.octets in
    let count : length (values cells) ≡ length cells = length-map cells octets in
    let same : (suc k == suc i) ≡ (k == i) = grind (arith, nat_tests) in
    rw (unsigned_tied (suc k) (suc i), same, get_after_zero cells k)
    (get_after_zero (set cells i cell) k
    ∙ ap (λ values. slice_get values k) (map-set octets cells i cell)
    ∙ slice_get-set (values cells) i k cell.octets (omega arith))

contents_of-set : (cells : List Cell) (i : ℕ) (cell : Cell) → i < length cells
    → contents_of (set cells i cell) ≡ insert (contents_of cells) (suc i) cell.octets
contents_of-set cells i cell below =
    same_map nat_cmp_total nat_cmp-IsAntisymmetric _ _
    (λ q. get_written cells i q cell below ∙ sym (get-insert nat_cmp_total (contents_of cells) (suc i) cell.octets q))

-- a part that is written into a cell is written into the value of its handle alone
pub contents_of-with_part : (cells : List Cell) (keep : Bool) (handle offset : ℕ) (part : List ℕ) → IsUsed cells handle
    → contents_of (with_part cells keep handle offset part)
    ≡ insert (contents_of cells) handle (value_with_part keep (value_in (contents_of cells) handle) offset part)
contents_of-with_part cells keep handle offset part used =
    let cell = patched_cell keep (cell_at cells handle) offset part in
    let at : suc (handle - 1) ≡ handle = omega arith in
    let value : value_in (contents_of cells) handle ≡ (cell_at cells handle).octets = ap (λ o. unwrap_or o []) (value_used cells handle used) in
    contents_of-set cells (handle - 1) cell (omega arith)
    ∙ rw value (ap (λ h. insert (contents_of cells) h cell.octets) at)

-- and no room changes
room-set : (cells : List Cell) (i k : ℕ) (cell : Cell) → cell.room ≡ (get_or cells i no_cell).room → (get_or (set cells i cell) k no_cell).room
    ≡ (get_or cells k no_cell).room
room-set [] i k cell same = refl
room-set (first ∷ rest) zero zero cell same = same
room-set (first ∷ rest) zero (suc k) cell same = refl
room-set (first ∷ rest) (suc i) zero cell same = refl
room-set (first ∷ rest) (suc i) (suc k) cell same = room-set rest i k cell same

pub rooms_of-with_part : (cells : List Cell) (keep : Bool) (handle offset : ℕ) (part : List ℕ) → rooms_of (with_part cells keep handle offset part)
    ≡ rooms_of cells
rooms_of-with_part cells keep handle offset part =
    fun_ext (λ other. ap (λ room. if other == 0 then 0 else room)
    (room-set cells (handle - 1) (other - 1) (patched_cell keep (cell_at cells handle) offset part) refl))

-- what is known of a handle
pub ruleset handles = (nat_tests, has_used, used_has, value_used, room_used, room_unused, contents_of-with_part, rooms_of-with_part)

-- what a map has after a change
pub ruleset changes = (nat_tests, unsigned_tied, gets)
