-- The values of a store in one vector, when one more is appended.
use Rattle.std.proofs.Common.{◌≡◌, ℕ, ◌+◌, ◌-◌, ◌≤◌, List, [], ◌∷◌, ◌++◌, length, take, drop, replicate, refl, ap, sym, ◌∙◌, rules, arith}
use Rattle.std.proofs.lemmas.List.{append_assoc, length-append, length-replicate, map_push, same_lists, places as list_places}
use Rattle.att_values.specs.declared.flat_store.Place.{Place}
use Rattle.att_values.specs.Cell.{Cell}
use Rattle.att_values.specs.FlatStore.{cell_in, cells_in, IsLaidOut}
use Rattle.att_values.proofs.InPlace.{starts_within}
use Rattle.att_numbers.specs.declared.limit.TheConstants.{MAX_VALUE}

-- octets at the end leave the values before them
value_before : (octets more : List ℕ) (start len : ℕ) → start + len ≤ length octets
    → take len (drop start (octets ++ more)) ≡ take len (drop start octets)
value_before octets more start len inside =
    same_lists _ _ (search (rules, list_places)) (λ k d h. grind (arith, list_places))

cells_before : (places : List Place) (octets more : List ℕ) (from : ℕ) → IsLaidOut from places (length octets)
    → cells_in (octets ++ more) places ≡ cells_in octets places
cells_before [] octets more from laid = refl
cells_before (place ∷ places) octets more from laid =
    let rest = cells_before places octets more (from + place.room) laid.3 in
    let later = starts_within places (from + place.room) (length octets) laid.3 in
    let here = value_before octets more place.start place.len (omega (arith, laid.0, laid.1, later)) in
    cc

-- octets at the end are the value of a place that starts there
value_last : (octets value : List ℕ) (room : ℕ)
    → take (length value) (drop (length octets) (octets ++ value ++ replicate (room - length value) 0)) ≡ value
value_last octets value room =
    same_lists _ _ (search (rules, list_places)) (λ k d h. grind (arith, list_places))

-- one more place
laid_out_more : (places : List Place) (from end : ℕ) (place : Place) → IsLaidOut from places end → place.start ≡ end → place.len ≤ place.room
    → place.room ≤ MAX_VALUE
    → IsLaidOut from (places ++ place ∷ []) (end + place.room)
laid_out_more [] from end place laid start len room = (start ∙ sym laid, len, room, ap (λ n. n + place.room) laid)
laid_out_more (first ∷ rest) from end place laid start len room =
    (laid.0, laid.1, laid.2, laid_out_more rest (from + first.room) end place laid.3 start len room)

-- a value with its room, after the others
abbrev pub appended : List ℕ → List ℕ → ℕ → List ℕ
appended octets value room = octets ++ value ++ replicate (room - length value) 0

abbrev pub with_place : List Place → ℕ → ℕ → ℕ → List Place
with_place places start len room = places ++ record { start = start; len = len; room = room } ∷ []

pub cells_pushed : (octets new value : List ℕ) (places pushed : List Place) (cells : List Cell) (end start room : ℕ)
    → IsLaidOut 0 places end → end ≡ length octets → cells_in octets places ≡ cells
    → new ≡ appended octets value room → start ≡ end → pushed ≡ with_place places start (length value) room
    → cells_in new pushed ≡ cells ++ record { room = room; octets = value } ∷ []
cells_pushed octets new value places pushed cells end start room laid is_end view is starts is_pushed =
    let laid_out : IsLaidOut 0 places (length octets) = rw (← is_end) laid in
    let padding : List ℕ = replicate (room - length value) 0 in
    let before : cells_in new places ≡ cells =
    rw (is, append_assoc octets value padding) (cells_before places octets (value ++ padding) 0 laid_out ∙ view) in
    let here : take (length value) (drop start new) ≡ value = rw (is, starts, is_end) (value_last octets value room) in
    let last : Place = record { start = start; len = length value; room = room } in
    let all = map_push (cell_in new) places last in
    cc

pub laid_out_pushed : (octets new value : List ℕ) (places pushed : List Place) (end new_end start room : ℕ)
    → IsLaidOut 0 places end → end ≡ length octets → new_end ≡ length new
    → new ≡ appended octets value room → start ≡ end → pushed ≡ with_place places start (length value) room
    → length value ≤ room → room ≤ MAX_VALUE
    → IsLaidOut 0 pushed new_end
laid_out_pushed octets new value places pushed end new_end start room laid is_end is_new_end is starts is_pushed fits largest =
    let count : new_end ≡ end + room =
    is_new_end ∙ ap length is ∙ grind (
      arith,
      length-append (octets ++ value) (replicate {A = ℕ} (room - length value) 0),
      length-append octets value,
      length-replicate {A = ℕ} (room - length value) 0,
    ) in
    rw (is_pushed, count) (laid_out_more places 0 end (record { start = start; len = length value; room = room }) laid starts fits largest)
