-- Entries whose parts stand one behind the other.
use Rattle.std.proofs.Common.{◌≡◌, ℕ, ◌+◌, ◌<◌, ◌≤◌, List, [], ◌∷◌, ◌++◌, length, map, take, drop, get_or, refl, sym, ap, ◌∙◌, arith}
use Rattle.std.proofs.lemmas.Grind.{common_steps}
use Rattle.std.proofs.lemmas.List.{take-append-le, drop-append-le, take_all, nil_from_length, drop_more}
use Rattle.std.proofs.lemmas.List.Sums.{sum_by-cons}
use Rattle.att_writes.specs.declared.queue.Place.{Place}
use Rattle.att_writes.specs.Entry.{Entry}
use Rattle.att_writes.specs.Queue.{entries_in, sizes_of, prepared_octets}

pub sizes_cons : (place : Place) (places : List Place) → sizes_of (place ∷ places) ≡ place.len + sizes_of places
sizes_cons place places = sum_by-cons (λ (of : Place). of.len) place places

pub length_entries : (places : List Place) (octets : List ℕ) → length (entries_in places octets) ≡ length places
length_entries [] octets = refl
length_entries (place ∷ places) octets = grind (arith, length_entries places (drop place.len octets))

pub octets_laid : (places : List Place) (octets : List ℕ) → sizes_of places ≡ length octets → prepared_octets (entries_in places octets) ≡ length octets
octets_laid [] octets sizes = grind (arith, common_steps)
octets_laid (place ∷ places) octets sizes =
    let all = sizes_cons place places in
    let left : sizes_of places ≡ length (drop place.len octets) = grind (arith, common_steps) in
    let rest = octets_laid places (drop place.len octets) left in
    let entry : Entry = record { handle = place.handle; offset = place.offset; part = take place.len octets } in
    let cons = sum_by-cons (λ (of : Entry). length of.part) entry (entries_in places (drop place.len octets)) in
    grind (arith, common_steps)

pub entry_pushed : (places : List Place) (octets part : List ℕ) (place : Place) → sizes_of places ≡ length octets → place.len ≡ length part
    → entries_in (places ++ place ∷ []) (octets ++ part) ≡ entries_in places octets ++ record { handle = place.handle; offset = place.offset; part = part } ∷ []
entry_pushed [] octets part place sizes size =
    let none : octets ≡ [] = nil_from_length octets (sym sizes) in
    let whole : take place.len part ≡ part = take_all place.len part (omega arith) in
    cc (none, whole)
entry_pushed (first ∷ places) octets part place sizes size =
    let all = sizes_cons first places in
    let front : take first.len (octets ++ part) ≡ take first.len octets = take-append-le first.len octets part (omega arith) in
    let back : drop first.len (octets ++ part) ≡ drop first.len octets ++ part = drop-append-le first.len octets part (omega arith) in
    let left : sizes_of places ≡ length (drop first.len octets) = grind (arith, common_steps) in
    let rest = entry_pushed places (drop first.len octets) part place left size in
    rw (front, back, rest) refl

pub handles_laid : (places : List Place) (octets : List ℕ) → map (λ (entry : Entry). entry.handle) (entries_in places octets)
    ≡ map (λ (place : Place). place.handle) places
handles_laid [] octets = refl
handles_laid (place ∷ places) octets = ap (λ handles. place.handle ∷ handles) (handles_laid places (drop place.len octets))

-- the entry at a place, and what is left behind it
abbrev pub no_place : Place
no_place = record { handle = 0; offset = 0; len = 0 }

abbrev pub entry_at : List Place → ℕ → List ℕ → Entry
entry_at places i octets = record {
  handle = (get_or places i no_place).handle;
  offset = (get_or places i no_place).offset;
  part = take (get_or places i no_place).len octets;
}

pub drop_next : {A : Type 0} (xs : List A) (i : ℕ) (d : A) → i < length xs → drop i xs ≡ get_or xs i d ∷ drop (i + 1) xs
drop_next xs i d below = drop_more xs i d below

pub entries_left : (places : List Place) (i : ℕ) (octets : List ℕ) → i < length places
    → entries_in (drop i places) octets ≡ entry_at places i octets ∷ entries_in (drop (i + 1) places) (drop (get_or places i no_place).len octets)
entries_left places i octets below = ap (λ left. entries_in left octets) (drop_next places i no_place below)

pub part_within : (places : List Place) (i : ℕ) (octets : List ℕ) → i < length places → sizes_of (drop i places) ≡ length octets
    → (get_or places i no_place).len ≤ length octets
part_within places i octets below sizes =
    let all = ap sizes_of (drop_next places i no_place below) ∙ sizes_cons (get_or places i no_place) (drop (i + 1) places) in
    omega arith

pub sizes_left : (places : List Place) (i : ℕ) (octets : List ℕ) → i < length places → sizes_of (drop i places) ≡ length octets
    → sizes_of (drop (i + 1) places) ≡ length (drop (get_or places i no_place).len octets)
sizes_left places i octets below sizes =
    let all = ap sizes_of (drop_next places i no_place below) ∙ sizes_cons (get_or places i no_place) (drop (i + 1) places) in
    grind (arith, common_steps)

-- the same of octets of which so many are used
pub length_used : (octets : List ℕ) (used : ℕ) → used ≤ length octets → length (take used octets) ≡ used
length_used octets used within = grind (arith, common_steps)

pub octets_used : (places : List Place) (octets : List ℕ) (used : ℕ) → sizes_of places ≡ used → used ≤ length octets
    → prepared_octets (entries_in places (take used octets)) ≡ used
octets_used places octets used sizes within =
    let count = length_used octets used within in
    octets_laid places (take used octets) (sizes ∙ sym count) ∙ count

pub part_pushed : (places : List Place) (octets part : List ℕ) (used : ℕ) (place : Place) → sizes_of places ≡ used → used ≤ length octets
    → place.len ≡ length part
    → entries_in (places ++ place ∷ []) (take used octets ++ part)
    ≡ entries_in places (take used octets) ++ record { handle = place.handle; offset = place.offset; part = part } ∷ []
part_pushed places octets part used place sizes within size =
    entry_pushed places (take used octets) part place (sizes ∙ sym (length_used octets used within)) size

pub ruleset laid = (length_entries, length_used, octets_used, part_pushed)
