-- The values of a store in one vector, as they are read and as a write leaves them.
use Rattle.std.proofs.Common.{◌≡◌, ℕ, zero, suc, ◌+◌, ◌-◌, ◌<◌, ◌≤◌, max, Bool, true, false, if◌then◌else◌, List, [], ◌∷◌, ◌++◌, length, take, drop, get_or, set, refl, ap, sym, ◌∙◌, rules, arith}
use Rattle.std.specs.List.{fold}
use Rattle.std.proofs.lemmas.List.{same_lists, places as list_places, get_or-map, length-map, length-take-le, length-drop}
use Rattle.att_values.specs.declared.flat_store.Place.{Place}
use Rattle.att_values.specs.Cell.{Cell, no_cell, IsUsed, cell_at, value_with_part, patched_cell, with_part}
use Rattle.att_values.specs.FlatStore.{cell_in, cells_in, IsLaidOut}
use Rattle.att_numbers.specs.declared.limit.TheConstants.{MAX_VALUE}

-- the octets after a part is written over them from a place on
abbrev pub written : List ℕ → ℕ → List ℕ → List ℕ
written octets at part = take at octets ++ part ++ drop (at + length part) octets

-- a write leaves what stands before it
pub written_before : (octets part : List ℕ) (at start len : ℕ) → start + len ≤ at → at + length part ≤ length octets
    → take len (drop start (written octets at part)) ≡ take len (drop start octets)
written_before octets part at start len before fits =
    same_lists _ _ (search (rules, list_places)) (λ k d h. grind (arith, list_places))

-- and what stands after it
pub written_after : (octets part : List ℕ) (at start len : ℕ) → at + length part ≤ start → at + length part ≤ length octets
    → take len (drop start (written octets at part)) ≡ take len (drop start octets)
written_after octets part at start len after fits =
    same_lists _ _ (search (rules, list_places)) (λ k d h. grind (arith, list_places))

-- a part that is written into a value that keeps the octets after it
pub written_kept : (octets part : List ℕ) (start len offset : ℕ) → offset ≤ len → start + len ≤ length octets → start + offset + length part ≤ length octets
    → take (max len (offset + length part)) (drop start (written octets (start + offset) part))
    ≡ value_with_part true (take len (drop start octets)) offset part
written_kept octets part start len offset within inside fits =
    same_lists _ _ (search (rules, list_places)) (λ k d h. grind (arith, list_places))

-- a part that ends a value
pub written_last : (octets part : List ℕ) (start len offset : ℕ) → offset ≤ len → start + len ≤ length octets → start + offset + length part ≤ length octets
    → take (offset + length part) (drop start (written octets (start + offset) part)) ≡ value_with_part false (take len (drop start octets)) offset part
written_last octets part start len offset within inside fits =
    same_lists _ _ (search (rules, list_places)) (λ k d h. grind (arith, list_places))

-- the octets end no earlier than the first place starts
pub starts_within : (places : List Place) (from end : ℕ) → IsLaidOut from places end → from ≤ end
starts_within [] from end laid = omega arith
starts_within (place ∷ places) from end laid = let h = starts_within places (from + place.room) end laid.3 in omega arith

-- each place stands within the octets, and its value within its room
pub place_within : (places : List Place) (i from end : ℕ) (place : Place) → IsLaidOut from places end → i < length places → place ≡ get_or places i place
    → (from ≤ place.start) × (place.start + place.room ≤ end) × (place.len ≤ place.room) × (place.room ≤ MAX_VALUE)
place_within [] i from end place laid below is = absurd (omega arith)
place_within (first ∷ rest) zero from end place laid below is =
    let later = starts_within rest (from + first.room) end laid.3 in
    rw is (omega (arith, laid.0), omega (arith, laid.0), laid.1, laid.2)
place_within (first ∷ rest) (suc i) from end place laid below is =
    let h = place_within rest i (from + first.room) end place laid.3 (omega arith) is in
    (omega arith, h.1, h.2, h.3)

-- all rooms add up to the octets
pub sum_rooms : (octets : List ℕ) (places : List Place) (from end : ℕ) → IsLaidOut from places end
    → fold (λ sum (cell : Cell). sum + cell.room) from (cells_in octets places) ≡ end
sum_rooms octets [] from end laid = laid
sum_rooms octets (place ∷ places) from end laid = sum_rooms octets places (from + place.room) end laid.3

-- a place whose value ends before its octet `end`, or keeps its octets from there on
abbrev pub ended : Bool → Place → ℕ → Place
ended keep place end = record { start = place.start; len = if keep then max place.len end else end; room = place.room }

-- a write leaves the cells after it
cells_after : (places : List Place) (octets part : List ℕ) (at from end : ℕ) → IsLaidOut from places end → at + length part ≤ from
    → at + length part ≤ length octets
    → cells_in (written octets at part) places ≡ cells_in octets places
cells_after [] octets part at from end laid after fits = refl
cells_after (place ∷ places) octets part at from end laid after fits =
    let rest = cells_after places octets part at (from + place.room) end laid.3 (omega arith) fits in
    let here = written_after octets part at place.start place.len (omega (arith, laid.0)) fits in
    cc

-- the cell in which a part was written
cell_patched : (octets part : List ℕ) (place : Place) (offset : ℕ) (keep : Bool) → offset ≤ place.len → place.start + place.len ≤ length octets
    → place.start + offset + length part ≤ length octets
    → cell_in (written octets (place.start + offset) part) (ended keep place (offset + length part)) ≡ patched_cell keep (cell_in octets place) offset part
cell_patched octets part place offset true within inside fits =
    let here = written_kept octets part place.start place.len offset within inside fits in cc
cell_patched octets part place offset false within inside fits =
    let here = written_last octets part place.start place.len offset within inside fits in cc

-- a part that is written into one value is written into its cell alone
patched_in : (places : List Place) (i : ℕ) (octets part : List ℕ) (from offset : ℕ) (keep : Bool) (place : Place)
    → IsLaidOut from places (length octets) → i < length places → place ≡ get_or places i place → offset ≤ place.len → offset + length part ≤ place.room
    → cells_in (written octets (place.start + offset) part) (set places i (ended keep place (offset + length part)))
    ≡ set (cells_in octets places) i (patched_cell keep (cell_in octets place) offset part)
patched_in [] i octets part from offset keep place laid below read within room = absurd (omega arith)
patched_in (first ∷ rest) zero octets part from offset keep place laid below read within room =
    let at = place_within (first ∷ rest) 0 from (length octets) place laid below read in
    let start : place.start ≡ from = rw read laid.0 in
    let rooms : place.room ≡ first.room = ap (λ (p : Place). p.room) read in
    let here = cell_patched octets part place offset keep within (omega (arith, at)) (omega (arith, at)) in
    let later = cells_after rest octets part (place.start + offset) (from + first.room) (length octets) laid.3 (omega (arith, start, rooms)) (omega (arith, at))
    in
    cc
patched_in (first ∷ rest) (suc i) octets part from offset keep place laid below read within room =
    let at = place_within rest i (from + first.room) (length octets) place laid.3 (omega arith) read in
    let here = written_before octets part (place.start + offset) first.start first.len (omega (arith, laid.0, laid.1, at)) (omega (arith, at)) in
    let later = patched_in rest i octets part (from + first.room) offset keep place laid.3 (omega arith) read within room in
    cc

-- and leaves the places laid out
IsLaidOut-set : (places : List Place) (i from end : ℕ) (place : Place) (len : ℕ) → IsLaidOut from places end → i < length places → place ≡ get_or places i place
    → len ≤ place.room
    → IsLaidOut from (set places i (record { start = place.start; len = len; room = place.room })) end
IsLaidOut-set [] i from end place len laid below read room = absurd (omega arith)
IsLaidOut-set (first ∷ rest) zero from end place len laid below read room =
    rw read (laid.0, (rw (← read) room), laid.2, laid.3)
IsLaidOut-set (first ∷ rest) (suc i) from end place len laid below read room =
    (laid.0, laid.1, laid.2, IsLaidOut-set rest i (from + first.room) end place len laid.3 (omega arith) read room)

-- where the value at a handle stands: its place is the one that is read
pub record StandsAt (octets : List ℕ) (cells : List Cell) (handle : ℕ) (place : Place) : Type 0 where
  pub cell : cell_at cells handle ≡ cell_in octets place
  pub len : length (cell_at cells handle).octets ≡ place.len
  pub fits : length (cell_at cells handle).octets ≤ (cell_at cells handle).room
  pub value_ends : place.start + place.len ≤ length octets
  pub room_ends : place.start + place.room ≤ length octets
  pub room : place.room ≤ MAX_VALUE

pub stands_at : (octets : List ℕ) (places : List Place) (cells : List Cell) (end handle at : ℕ) (place : Place)
    → IsLaidOut 0 places end → end ≡ length octets → cells_in octets places ≡ cells → IsUsed cells handle → at ≡ handle → place ≡ get_or places (at - 1) place
    → StandsAt octets cells handle place
stands_at octets places cells end handle at place laid is_end view used is read =
    let count : length places ≡ length cells = sym (length-map places (cell_in octets)) ∙ ap length view in
    let within = place_within places (at - 1) 0 end place laid (omega arith) read in
    let cell : cell_at cells handle ≡ cell_in octets place =
    rw (← view, ← is) (get_or-map (cell_in octets) places (at - 1) place no_cell (omega arith) ∙ ap (cell_in octets) (sym read)) in
    let len : length (cell_at cells handle).octets ≡ place.len =
    ap (λ (cell : Cell). length cell.octets) cell ∙ length-take-le place.len (drop place.start octets) (omega (arith, within, length-drop place.start octets))
    in
    let room : (cell_at cells handle).room ≡ place.room = ap (λ (cell : Cell). cell.room) cell in
    record {
      cell = cell;
      len = len;
      fits = omega (arith, within);
      value_ends = omega (arith, within);
      room_ends = omega (arith, within);
      room = within.3;
    }

-- a part that is written into the value at a handle, as a vector holds it
pub part_written : (octets new part : List ℕ) (places : List Place) (cells : List Cell) (end handle at offset : ℕ) (keep : Bool) (place : Place)
    → IsLaidOut 0 places end → end ≡ length octets → cells_in octets places ≡ cells → IsUsed cells handle → at ≡ handle → place ≡ get_or places (at - 1) place
    → offset ≤ length (cell_at cells handle).octets → offset + length part ≤ (cell_at cells handle).room
    → new ≡ written octets (place.start + offset) part
    → cells_in new (set places (at - 1) (ended keep place (offset + length part))) ≡ with_part cells keep handle offset part
part_written octets new part places cells end handle at offset keep place laid is_end view used is read within fits wrote =
    let here = stands_at octets places cells end handle at place laid is_end view used is read in
    let count : length places ≡ length cells = sym (length-map places (cell_in octets)) ∙ ap length view in
    let room : (cell_at cells handle).room ≡ place.room = ap (λ (cell : Cell). cell.room) here.cell in
    let laid_out : IsLaidOut 0 places (length octets) = rw (← is_end) laid in
    let value_with_part = patched_in places (at - 1) octets part 0 offset keep place laid_out (omega arith) read (omega (arith, here.len)) (omega arith) in
    let cell = here.cell in
    cc

-- and the places that it leaves
pub part_laid_out : (octets part : List ℕ) (places : List Place) (cells : List Cell) (end handle at offset : ℕ) (keep : Bool) (place : Place)
    → IsLaidOut 0 places end → end ≡ length octets → cells_in octets places ≡ cells → IsUsed cells handle → at ≡ handle → place ≡ get_or places (at - 1) place
    → offset + length part ≤ (cell_at cells handle).room
    → IsLaidOut 0 (set places (at - 1) (ended keep place (offset + length part))) end
part_laid_out octets part places cells end handle at offset keep place laid is_end view used is read fits =
    let here = stands_at octets places cells end handle at place laid is_end view used is read in
    let count : length places ≡ length cells = sym (length-map places (cell_in octets)) ∙ ap length view in
    let within = place_within places (at - 1) 0 end place laid (omega arith) read in
    let room : (cell_at cells handle).room ≡ place.room = ap (λ (cell : Cell). cell.room) here.cell in
    IsLaidOut-set places (at - 1) 0 end place (if keep then max place.len (offset + length part) else offset + length part) laid (omega arith) read
    (grind (arith, within))
