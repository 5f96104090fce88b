-- PDUs in a ring (code only).
use Rattle.std.specs.Prelude.{◌≡◌, ℕ, ◌+◌, ◌%◌, ◌<◌, ◌≤◌, List, [], ◌++◌, length, take, drop, map, get_or}
use Rattle.std.specs.List.{zip}
use Rattle.arrayvec.specs.ArrayVec.{ArrayVec}
use Rattle.octet_io.specs.Number.{Octets}
use Rattle.le_acl.specs.Packets.{Pdu}
use Rattle.le_acl.specs.declared.pdus.Header.{Header}
use Rattle.le_acl.specs.declared.pdus.TheConstants.{MAX_PDUS}

-- The queued PDUs, and the buffer for the next.
pub record Queued : Type 0 where
  pub pdus : List Pdu
  pub room : Octets

abbrev pub empty : ArrayVec ℕ
empty = record { items = [] }

abbrev pub no_header : Header
no_header = record { channel = 0; len = 0 }

-- The PDU of a header and a buffer, which begins with the payload.
abbrev pub pdu_of : Header × ArrayVec ℕ → Pdu
pdu_of slot = (slot.0.channel, take slot.0.len slot.1.items)

-- `count` slots from `first` on, around the end.
abbrev pub window : {X : Type 0} → ℕ → ℕ → List X → List X
window first count slots = take count (drop first slots ++ take first slots)

abbrev pub queued_of : ℕ → ℕ → List Header → List (ArrayVec ℕ) → Queued
queued_of first count headers payloads = record {
  pdus = map pdu_of (zip (window first count headers) (window first count payloads));
  room = (get_or payloads ((first + count) % MAX_PDUS) empty).items;
}

abbrev pub HasAll : List Header → List (ArrayVec ℕ) → ℕ → Type 0
HasAll headers payloads place =
    (get_or headers place no_header).len ≤ length (get_or payloads place empty).items

pub record IsRing (first count : ℕ) (headers : List Header) (payloads : List (ArrayVec ℕ)) : Type 0
  where
    pub first_below : first < MAX_PDUS
    pub count_within : count ≤ MAX_PDUS
    pub headers_length : length headers ≡ MAX_PDUS
    pub payloads_length : length payloads ≡ MAX_PDUS
    pub all_there : (i : ℕ) → i < count → HasAll headers payloads ((first + i) % MAX_PDUS)
