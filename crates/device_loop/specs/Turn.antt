-- One turn of a device: the state is saved before the application is answered and notified, and
-- before packets that depend on it are sent. This profile defines it.
use Rattle.std.specs.Prelude.{◌≡◌, ℕ, IsSome, List, [], ◌∷◌, ◌++◌, Contains, Option, Some, None}
use Rattle.gatt_host.specs.HostModel.{RefinesRun, HostModel}
use Rattle.gatt_laws.specs.machine.Input.{Item, run}
use Rattle.gatt_laws.specs.machine.Notice.{Received}
use Rattle.gatt_laws.specs.machine.Start.{Start}
use Rattle.octet_io.specs.Number.{Octets}
use Rattle.device_loop.specs.declared.outside.Saving.{Saving}
use Rattle.device_loop.specs.declared.outside.Sending.{Sending}
use Rattle.device_loop.specs.declared.turn.Turn.{Turn}
use Rattle.device_loop.specs.Happenings.{HistoryEntry, Saved, Unsaved, SavedState, saved_state, Sent, Told, Records}
use Rattle.device_loop.specs.Outside.{Sends, octets_to_send, saving_entry, waits_after}
use Rattle.device_loop.specs.Serving.{Known, ServesDevice, known}
use Rattle.device_loop.specs.Withholding.{HasNoDataFor}

-- All waiting octets are sent, except the data to be withheld.
pub record SendsWhatWaits (saving : Saving) (sending : Sending) (before after : Option Octets)
    (recorded records : Option (List HistoryEntry)) : Type 0 where
  pub waiting : Octets
  pub waits : before ≡ Some waiting
  pub sends : Sends sending (octets_to_send saving waiting) recorded records
  pub left : after ≡ Some (waits_after sending (octets_to_send saving waiting))

-- The device saves the state, or records the connections with unsaved changes. Only then it answers
-- and notifies its application, and then it sends.
pub record SavesThenSends (turn : Turn) (state : SavedState) (before after : Option Octets)
    (recorded records : Option (List HistoryEntry)) : Type 0 where
  pub saved : Option (List HistoryEntry)
  pub saves : Records (saving_entry turn.saving state ∷ []) recorded saved
  pub told : Option (List HistoryEntry)
  pub tells : Records (Told ∷ []) saved told
  pub sends : SendsWhatWaits turn.saving turn.sending before after told records

pub record NothingHappens (come comes : Known) (before after : Option Octets)
    (heard hears : Option (List Received)) : Type 0 where
  pub happens : comes ≡ come
  pub writes : after ≡ before
  pub hearing : hears ≡ heard

-- A host that has not stopped is served one turn. Its output waits after earlier output until the
-- new state is saved.
pub record TakesATurn (turn : Turn) (old new : HostModel) (come comes : Known)
    (before after : Option Octets) (heard hears : Option (List Received)) : Type 0 where
  pub written : Option Octets
  pub recorded : Option (List HistoryEntry)
  pub serves : old.fault ≡ None
      → ServesDevice turn.served 1 old new come (known comes.octets comes.calls recorded) before
      written heard hears
  pub stopped : IsSome old.fault
      → NothingHappens come (known comes.octets comes.calls recorded) before written heard hears
  pub settles : SavesThenSends turn (saved_state new.server) written after recorded comes.history

-- An entry allows these octets to be sent next: the state was saved, or they have no data for
-- connections with unsaved changes.
abbrev pub AllowsSending : HistoryEntry → Octets → Type 0
AllowsSending (Saved state) octets = Unit
AllowsSending (Unsaved state connections) octets =
    (handle : ℕ) → Contains connections handle → HasNoDataFor handle octets
AllowsSending entry octets = ⊥

-- The last entry is `Told`, and the one before allows these octets.
pub record EndsSaved (entries : List HistoryEntry) (octets : Octets) : Type 0 where
  pub earlier : List HistoryEntry
  pub last : HistoryEntry
  pub parts : entries ≡ earlier ++ last ∷ Told ∷ []
  pub allows : AllowsSending last octets

abbrev pub IsOutcome : HistoryEntry → Type 0
IsOutcome (Saved state) = Unit
IsOutcome (Unsaved state connections) = Unit
IsOutcome entry = ⊥

-- The outcome of saving came last.
pub record EndsWithOutcome (entries : List HistoryEntry) : Type 0 where
  pub earlier : List HistoryEntry
  pub last : HistoryEntry
  pub parts : entries ≡ earlier ++ last ∷ []
  pub outcome : IsOutcome last

-- Each `Told` directly follows the outcome of saving. Sent octets directly follow a `Told` whose
-- outcome allows them.
pub record SavedFirst (entries : List HistoryEntry) : Type 0 where
  pub told : (first rest : List HistoryEntry) → entries ≡ first ++ Told ∷ rest
      → EndsWithOutcome first
  pub sent : (first rest : List HistoryEntry) (octets : Octets)
      → entries ≡ first ++ Sent octets ∷ rest
      → EndsSaved first octets

-- A call preserves `SavedFirst`.
abbrev pub KeepsTheOrder : Option (List HistoryEntry) → Option (List HistoryEntry) → Type 0
KeepsTheOrder None after = Unit
KeepsTheOrder (Some before) None = ⊥
KeepsTheOrder (Some before) (Some after) = SavedFirst before → SavedFirst after

abbrev pub StaysInOrder : HostModel → Option (List HistoryEntry) → Option (List HistoryEntry)
    → Type 0
StaysInOrder old before after =
    (start : Start) (input : List Item) (sent : List Octets) → RefinesRun (run start input) sent old
    → KeepsTheOrder before after
