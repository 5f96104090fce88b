-- The events of a host and the history of a device, which this profile defines.
use Rattle.std.specs.Prelude.{◌≡◌, ℕ, List, [], ◌∷◌, ◌++◌, Option, Some, None}
use Rattle.std.specs.List.{flat_map}
use Rattle.att_numbers.specs.Types.{Values}
use Rattle.gatt_host.specs.Calls.{call_of}
use Rattle.gatt_host.specs.Feeding.{octet_items}
use Rattle.gatt_host.specs.ServerState.{ServerState}
use Rattle.gatt_laws.specs.machine.Calls.{Call, Refused}
use Rattle.gatt_laws.specs.machine.Input.{Item, ACall}
use Rattle.gatt_subs.specs.Rows.{Subscriptions}
use Rattle.octet_io.specs.Number.{Octets}
use Rattle.device_loop.specs.declared.happenings.Next.{Next}
use Rattle.device_loop.specs.declared.happenings.Next.TheVariants as next

pub data DeviceInput : Type 0 where
  Came : (octets : Octets) → DeviceInput
  Asked : (call : Call) → DeviceInput

-- The state that a device saves: subscriptions and the values of the table.
pub record SavedState : Type 0 where
  pub rows : Subscriptions
  pub values : Values

abbrev pub saved_state : ServerState → SavedState
saved_state server = record { rows = server.rows; values = server.table.values }

-- An entry of the history. `Answered` has the refusal of the call, if any. `Unsaved` has the
-- connections with unsaved changes. `Told` means that the application was answered and notified.
-- `Unsent` octets found nobody there, and `Broken` has those left after a failure.
pub data HistoryEntry : Type 0 where
  Waited : (deadline : Option ℕ) → HistoryEntry
  Happened : (happening : DeviceInput) → HistoryEntry
  Answered : (refusal : Option Refused) → HistoryEntry
  Ended : HistoryEntry
  Failed : HistoryEntry
  Saved : (state : SavedState) → HistoryEntry
  Unsaved : (state : SavedState) (connections : List ℕ) → HistoryEntry
  Sent : (octets : Octets) → HistoryEntry
  Unsent : (octets : Octets) → HistoryEntry
  Broken : (left : Octets) → HistoryEntry
  Told : HistoryEntry

abbrev pub next_octets : Next → Octets
next_octets (next.Octets octets) = octets.now
next_octets (next.Call call) = []
next_octets next.Ended = []
next_octets next.Failed = []

abbrev pub next_calls : Next → List Call
next_calls (next.Octets octets) = []
next_calls (next.Call call) = call_of call ∷ []
next_calls next.Ended = []
next_calls next.Failed = []

abbrev pub next_entry : Next → HistoryEntry
next_entry (next.Octets octets) = Happened (Came octets.now)
next_entry (next.Call call) = Happened (Asked (call_of call))
next_entry next.Ended = Ended
next_entry next.Failed = Failed

-- These calls are the next of the known calls.
abbrev pub Hands : Option (List Call) → Option (List Call) → List Call → Type 0
Hands None after calls = Unit
Hands (Some before) None calls = ⊥
Hands (Some before) (Some after) calls = before ≡ calls ++ after

-- These entries follow the known ones.
abbrev pub Records : List HistoryEntry → Option (List HistoryEntry) → Option (List HistoryEntry)
    → Type 0
Records entries None after = Unit
Records entries (Some before) None = ⊥
Records entries (Some before) (Some after) = after ≡ before ++ entries

-- The octets, the calls and the items of events.
abbrev pub input_octets : DeviceInput → Octets
input_octets (Came octets) = octets
input_octets (Asked call) = []

abbrev pub octets_that_came : List DeviceInput → Octets
octets_that_came happened = flat_map input_octets happened

abbrev pub calls_of : DeviceInput → List Call
calls_of (Came octets) = []
calls_of (Asked call) = call ∷ []

abbrev pub calls_in : List DeviceInput → List Call
calls_in happened = flat_map calls_of happened

abbrev pub input_items_of : DeviceInput → List Item
input_items_of (Came octets) = octet_items octets
input_items_of (Asked call) = ACall call ∷ []

abbrev pub items_in : List DeviceInput → List Item
items_in happened = flat_map input_items_of happened
