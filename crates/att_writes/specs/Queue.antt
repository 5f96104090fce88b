-- The queue of prepared writes of a client (Core 5.0, Vol 3 Part F, 3.4.6).
use Rattle.std.specs.Prelude.{◌≡◌, ℕ, ◌+◌, ◌≤◌, Bool, ◌==◌, ◌&&◌, not, nat_lt, nat_le, if◌then◌else◌, List, [], ◌∷◌, ◌++◌, length, map, take, drop, filter, sum_by, Option, Some, None, Result, Ok, Err}
use Rattle.att_numbers.specs.declared.refusal.Refusal as numbers
use Rattle.att_numbers.specs.Types.{Handle, Code}
use Rattle.att_numbers.specs.declared.error_code.TheConstants.{PREPARE_QUEUE_FULL}
use Rattle.att_numbers.specs.declared.opcode.TheConstants.{PREPARE_WRITE_REQUEST}
use Rattle.att_policy.specs.declared.policy.Access.TheVariants.{Write}
use Rattle.att_policy.specs.declared.policy.Rule.{Rule}
use Rattle.att_policy.specs.declared.standing.Standing.{Standing}
use Rattle.att_policy.specs.Policy.{first_broken_of}
use Rattle.att_attributes.specs.declared.attr.Attr.{Attr}
use Rattle.att_attributes.specs.Attributes.{guard_at}
use Rattle.att_policy.specs.Refusal.{Refusal}
use Rattle.att_writes.specs.Applied.{Stored}
use Rattle.att_writes.specs.declared.queue.Place.{Place}
use Rattle.att_writes.specs.Entry.{Entry}
use Rattle.octet_io.specs.Number.{Octets}
use Rattle.att_writes.specs.declared.queue.TheConstants.{MAX_PREPARED, MAX_PREPARED_OCTETS}

-- The length of all parts, and the limit of the queue (this profile's own).
abbrev pub prepared_octets : List Entry → ℕ
prepared_octets entries = sum_by (λ (entry : Entry). length entry.part) entries

-- (P-PREP-1)
abbrev pub has_queue_room : List Entry → Octets → Bool
has_queue_room entries part =
    nat_lt (length entries) MAX_PREPARED
    && nat_le (prepared_octets entries + length part) MAX_PREPARED_OCTETS

-- The handles, each once, in the order of their first writes.
abbrev pub once_each : List Handle → List Handle
once_each [] = []
once_each (handle ∷ rest) = handle ∷ filter (λ other. not (other == handle)) (once_each rest)

abbrev pub handles_of_entries : List Entry → List Handle
handles_of_entries entries = once_each (map (λ (entry : Entry). entry.handle) entries)

-- The entries of these places, with their parts in sequence.
abbrev pub entries_in : List Place → Octets → List Entry
entries_in [] octets = []
entries_in (place ∷ places) octets =
    record { handle = place.handle; offset = place.offset; part = take place.len octets }
    ∷ entries_in places (drop place.len octets)

abbrev pub sizes_of : List Place → ℕ
sizes_of places = sum_by (λ (place : Place). place.len) places

-- The parts match their places, within the limits and the allocated memory.
pub record PartsAreLaidOut (places : List Place) (octets : Octets) (used place_room : ℕ) : Type 0
  where
    pub sizes : sizes_of places ≡ used
    pub few_entries : length places ≤ MAX_PREPARED
    pub few_octets : used ≤ MAX_PREPARED_OCTETS
    pub has_place_room : MAX_PREPARED ≤ place_room
    pub has_octet_room : length octets ≡ MAX_PREPARED_OCTETS

-- The policy is checked before the space in the queue. (P-PREP-2)
abbrev pub broken_or_full : Option (Rule × Code) → Bool → Option Code
broken_or_full (Some broken) fits = Some broken.1
broken_or_full None fits = if fits then None else Some PREPARE_QUEUE_FULL

-- (P-PREP-2)
abbrev pub prepare_fault : List Attr → Standing → List Entry → Entry → Option Code
prepare_fault attributes standing entries entry =
    broken_or_full (first_broken_of Write (guard_at attributes entry.handle) standing)
    (has_queue_room entries entry.part)

abbrev pub queue_after : List Entry → Entry → Option Code → List Entry
queue_after entries entry (Some code) = entries
queue_after entries entry None = entries ++ entry ∷ []

abbrev pub prepare_outcome : Entry → Option Code → Result Unit numbers.Refusal
prepare_outcome entry (Some code) =
    Err (record { opcode = PREPARE_WRITE_REQUEST; handle = entry.handle; code = code })
prepare_outcome entry None = Ok tt

abbrev pub touched_by : List Entry → Result Stored Refusal → List Handle
touched_by entries (Ok stored) = handles_of_entries entries
touched_by entries (Err refusal) = []
