-- A table whose values are kept in cells.
use Rattle.std.proofs.Common.{◌≡◌, ℕ, ◌+◌, ◌-◌, ◌≤◌, Bool, true, false, List, length, get_or, map, refl, sym, ◌∙◌, ap, subst, inl, inr, arith, length-append, length-take, length-drop}
use Rattle.std.specs.Prelude.{IsSome, Option, Some, None, slice_get, unwrap_or, cond, sum, sum_by}
use Rattle.std.specs.Option.{option_map, option_map_or}
use Rattle.std.proofs.Math.Seq.{map-set_same}
use Rattle.std.proofs.lemmas.Bool.{cases_lt}
use Rattle.std.proofs.lemmas.List.{map-set, get_or_past, length-map, append-nil}
use Rattle.std.proofs.Math.ListN.{get_or-map as get_or-map_default}
use Rattle.std.proofs.lemmas.List.Sums.{sum-map}
use Rattle.std.proofs.lemmas.List.Elements.{All-get_or, All-set}
use Rattle.std.proofs.lemmas.Option.{slice_get-map, unwrap_or-slice_get}
use Rattle.att_attributes.specs.declared.attr.Attr.{Attr}
use Rattle.att_values.specs.Cell.{Cell, no_cell, cell_at, value_with_part, patched_cell, with_part}
use Rattle.att_attributes.specs.Attributes.{attribute_at, is_fixed_at}
use Rattle.att_table.specs.Table.{Contents, value_at, with_value, room_at, values_of, AreExact, IsKept}
use Rattle.att_attributes.proofs.Places.{attribute_at-found}

-- a part that fits keeps the value within its room
length-patched : (keep : Bool) (value : List ℕ) (offset : ℕ) (part : List ℕ) (room : ℕ)
    → offset ≤ length value → offset + length part ≤ room → length value ≤ room → length (value_with_part keep value offset part) ≤ room
length-patched true value offset part room in_value fits within = simp (length-append, length-take, length-drop) (omega arith)
length-patched false value offset part room in_value fits within = simp (length-append, length-take, length-drop) (omega arith)

-- as many cells as attributes
pub kept-length : (attributes : List Attr) (cells : List Cell) → IsKept attributes cells → length attributes ≡ length cells
kept-length attributes cells kept = simp length-map at (ap length kept.rooms)

unwrap_or-map : (f : Attr → ℕ) (found : Option Attr) → unwrap_or (option_map f found) 0 ≡ option_map_or f found 0
unwrap_or-map f None = refl
unwrap_or-map f (Some attr) = refl

-- the room of a cell is the largest length of its attribute
pub kept-room : (attributes : List Attr) (cells : List Cell) (handle : ℕ) → IsKept attributes cells → IsSome (attribute_at attributes handle)
    → (cell_at cells handle).room ≡ option_map_or (λ (attr : Attr). attr.largest) (attribute_at attributes handle) 0
kept-room attributes cells handle kept found =
    sym (get_or-map_default (λ (cell : Cell). cell.room) cells (handle - 1) no_cell)
    ∙ ap (λ (rooms : List ℕ). get_or rooms (handle - 1) 0) (sym kept.rooms)
    ∙ sym (unwrap_or-slice_get (map (λ (attr : Attr). attr.largest) attributes) (handle - 1) 0)
    ∙ ap (λ (room : Option ℕ). unwrap_or room 0) (slice_get-map (λ (attr : Attr). attr.largest) attributes (handle - 1))
    ∙ unwrap_or-map (λ (attr : Attr). attr.largest) (slice_get attributes (handle - 1))
    ∙ ap (λ (attr : Option Attr). option_map_or (λ (a : Attr). a.largest) attr 0) (sym (attribute_at-found attributes handle found))

-- a value is that of its cell, and keeps within its room
pub value_at-cell : (cells : List Cell) (handle : ℕ) → value_at (values_of cells) handle ≡ (cell_at cells handle).octets
value_at-cell cells handle = get_or-map_default (λ (cell : Cell). cell.octets) cells (handle - 1) no_cell

pub cell-within : (attributes : List Attr) (cells : List Cell) (handle : ℕ) → IsKept attributes cells → length (cell_at cells handle).octets
    ≤ (cell_at cells handle).room
cell-within attributes cells handle kept = elim (cases_lt (handle - 1) (length cells)) [
  | inr past ↦ rw (get_or_past cells (handle - 1) no_cell past) (omega arith)
  | inl below ↦ All-get_or (λ (cell : Cell). length cell.octets ≤ cell.room) cells (handle - 1) no_cell below kept.within
]

-- what a part may have in the value, it may have in the cell
fits_room : (attributes : List Attr) (cells : List Cell) (handle size : ℕ) (fixed : Bool)
    → IsKept attributes cells → IsSome (attribute_at attributes handle)
    → size ≤ cond fixed (length (value_at (values_of cells) handle)) (option_map_or (λ (attr : Attr). attr.largest) (attribute_at attributes handle) 0)
    → size ≤ (cell_at cells handle).room
fits_room attributes cells handle size true kept found fits =
    omega (arith, cell-within attributes cells handle kept, ap length (value_at-cell cells handle))
fits_room attributes cells handle size false kept found fits = omega (arith, kept-room attributes cells handle kept found)

pub fits_cell : (attributes : List Attr) (cells : List Cell) (table : Contents) (handle size : ℕ)
    → IsKept attributes cells → (let view : Contents = record { attributes = attributes; values = values_of cells } in view) ≡ table
    → IsSome (attribute_at table.attributes handle) → size ≤ room_at table handle → size ≤ (cell_at cells handle).room
fits_cell attributes cells table handle size kept is =
    let P : Contents → Type 0 = λ t. IsSome (attribute_at t.attributes handle) → size ≤ room_at t handle → size ≤ (cell_at cells handle).room in
    subst P is (λ found fits. fits_room attributes cells handle size (is_fixed_at attributes handle) kept found fits)

pub kept-patched : (attributes : List Attr) (cells : List Cell) (keep : Bool) (handle offset : ℕ) (part : List ℕ)
    → IsKept attributes cells → offset ≤ length (cell_at cells handle).octets → offset + length part ≤ (cell_at cells handle).room
    → AreExact attributes (with_part cells keep handle offset part)
    → IsKept attributes (with_part cells keep handle offset part)
kept-patched attributes cells keep handle offset part kept in_value fits exact = record {
  numbered = kept.numbered;
  largest = kept.largest;
  behind = kept.behind;
  exact = exact;
  rooms = kept.rooms ∙ sym (map-set_same (λ (cell : Cell). cell.room) cells (handle - 1) (patched_cell keep (cell_at cells handle) offset part) no_cell refl);
  within = All-set (λ (cell : Cell). length cell.octets ≤ cell.room) cells (handle - 1) (patched_cell keep (cell_at cells handle) offset part)
      (length-patched keep (cell_at cells handle).octets offset part (cell_at cells handle).room in_value fits (cell-within attributes cells handle kept))
      kept.within;
}

-- the values after a part is written into a cell
pub values_of-with_part : (cells : List Cell) (keep : Bool) (handle offset : ℕ) (part : List ℕ)
    → values_of (with_part cells keep handle offset part)
    ≡ with_value (values_of cells) handle (value_with_part keep (value_at (values_of cells) handle) offset part)
values_of-with_part cells keep handle offset part =
    map-set (λ (cell : Cell). cell.octets) cells (handle - 1) (patched_cell keep (cell_at cells handle) offset part)
    ∙ ap (λ value. with_value (values_of cells) handle (value_with_part keep value offset part)) (sym (value_at-cell cells handle))

-- the same of a table with these values
pub patched_values : (cells new : List Cell) (table : Contents) (fixed : Bool) (handle place offset : ℕ) (part : List ℕ)
    → values_of cells ≡ table.values → new ≡ with_part cells fixed handle place part → fixed ≡ is_fixed_at table.attributes handle → place ≡ offset
    → values_of new ≡ with_value table.values handle (value_with_part (is_fixed_at table.attributes handle) (value_at table.values handle) offset part)
patched_values cells new table fixed handle place offset part same is fixed_is at =
    ap values_of is ∙ values_of-with_part cells fixed handle place part ∙ (cc)

-- a value that is replaced as a whole
pub replaced_values : (cells new : List Cell) (table : Contents) (handle : ℕ) (octets : List ℕ)
    → values_of cells ≡ table.values → new ≡ with_part cells false handle 0 octets
    → values_of new ≡ with_value table.values handle octets
replaced_values cells new table handle octets same is =
    ap values_of is ∙ values_of-with_part cells false handle 0 octets
    ∙ ap (with_value (values_of cells) handle) (append-nil octets)
    ∙ ap (λ (values : List (List ℕ)). with_value values handle octets) same

-- the octets that all values take are their largest lengths
pub octets-kept : (attributes : List Attr) (cells : List Cell) → IsKept attributes cells
    → sum_by (λ (cell : Cell). cell.room) cells ≡ sum_by (λ (attr : Attr). attr.largest) attributes
octets-kept attributes cells kept =
    sym (sum-map (λ (cell : Cell). cell.room) cells) ∙ ap sum (sym kept.rooms) ∙ sum-map (λ (attr : Attr). attr.largest) attributes
