-- Values in one vector, each at a fixed start with space for its largest length.
use Rattle.std.specs.Prelude.{◌≡◌, ℕ, ◌+◌, ◌≤◌, List, [], ◌∷◌, take, drop, map}
use Rattle.octet_io.specs.Number.{Octets}
use Rattle.att_values.specs.declared.flat_store.Place.{Place}
use Rattle.att_values.specs.Cell.{Cell}
use Rattle.att_numbers.specs.declared.limit.TheConstants.{MAX_VALUE}

abbrev pub cell_in : Octets → Place → Cell
cell_in octets place =
    record { room = place.room; octets = take place.len (drop place.start octets) }

abbrev pub cells_in : Octets → List Place → List Cell
cells_in octets places = map (cell_in octets) places

-- The rooms of the places adjoin, from `from` to `end`.
abbrev pub IsLaidOut : ℕ → List Place → ℕ → Type 0
IsLaidOut from [] end = from ≡ end
IsLaidOut from (place ∷ places) end =
    (place.start ≡ from) × (place.len ≤ place.room) × (place.room ≤ MAX_VALUE)
    × IsLaidOut (from + place.room) places end
