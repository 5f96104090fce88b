-- The input that a call processes, and the output that it writes.
use Rattle.std.specs.Prelude.{◌≡◌, ℕ, ◌+◌, length, IfSome, Bool, true, false, is_some, List, [], ◌∷◌, ◌++◌, map, take, if◌then◌else◌, Option, Some, None, Result, Ok, Err}
use Rattle.std.specs.Io.KnownBytes.{Appends}
use Rattle.std.specs.List.{flat_map}
use Rattle.gatt_host.specs.Calls.{call_of}
use Rattle.gatt_host.specs.declared.driving.Input.{Input}
use Rattle.gatt_host.specs.declared.driving.Input.TheVariants as input
use Rattle.gatt_host.specs.declared.host_fault.HostFault.{HostFault}
use Rattle.gatt_host.specs.declared.host_fault.HostFault.TheVariants as stop
use Rattle.gatt_host.specs.HostModel.{Refines, RefinesRun, HostModel, all_out}
use Rattle.gatt_laws.specs.machine.Input.{Run, Item, AnOctet, ACall, after_item, call_refusal, run}
use Rattle.gatt_laws.specs.machine.Start.{Start}
use Rattle.le_h4.specs.Division.{division}
use Rattle.le_h4.specs.Packet.{Packet}
use Rattle.octet_io.specs.Number.{Octets}
use Rattle.octet_io.specs.Stream.{CountsIf, WritesFront}

abbrev pub joined : List Octets → Octets
joined packets = flat_map (λ packet. packet) packets

pub record TakesAll (items : List Item) (old new : HostModel) (before after : Option Octets) : Type
    0 where
  pub packets : List Octets
  pub refines : Refines items packets old new
  pub written : Appends before after (joined packets)

-- The writer fails: the host processes the first items and writes a prefix of their packets.
pub record BreaksOff (items : List Item) (old new : HostModel) (before after : Option Octets) : Type
    0 where
  pub taken : List Item
  pub left : List Item
  pub parts : items ≡ taken ++ left
  pub packets : List Octets
  pub refines : Refines taken packets old new
  pub written : WritesFront (joined packets) before after

abbrev pub Feeds : List Item → HostModel → HostModel → Option Octets → Option Octets
    → Option HostFault → Type 0
Feeds items old new before after (Some stop.Write) = BreaksOff items old new before after
Feeds items old new before after fault = TakesAll items old new before after

-- All output of the run has been sent.
abbrev pub IsAllOut : HostModel → Type 0
IsAllOut host =
    (start : Start) (input : List Item) (sent : List Octets)
    → RefinesRun (run start input) sent host
    → (run start input).sent ≡ sent

abbrev pub WritesAllThatIsDue : Option HostFault → HostModel → Type 0
WritesAllThatIsDue (Some stop.Write) host = Unit
WritesAllThatIsDue fault host = IsAllOut host

-- Feeding causes no fault of the reader or of turns.
abbrev pub is_of_feeding : HostFault → Bool
is_of_feeding stop.Read = false
is_of_feeding stop.Turns = false
is_of_feeding fault = true

abbrev pub is_write_fault : Option HostFault → Bool
is_write_fault (Some stop.Write) = true
is_write_fault fault = false

abbrev pub is_read_fault : Option HostFault → Bool
is_read_fault (Some stop.Read) = true
is_read_fault fault = false

-- A call ends: nothing is pending, or the host has stopped; all output of the run has been sent,
-- unless the writer failed; and exactly that failure is counted.
pub record Settles (host : HostModel) (failed failed' : Option ℕ) : Type 0 where
  pub out : all_out host ≡ true
  pub due : WritesAllThatIsDue host.fault host
  pub failures : CountsIf (is_write_fault host.fault) failed failed'

-- A call processes these items and writes their output.
pub record Processes (items : List Item) (old new : HostModel) (before after : Option Octets)
    (failed failed' : Option ℕ) : Type 0 where
  pub feeds : Feeds items old new before after new.fault
  pub feeding : IfSome new.fault (λ fault. is_of_feeding fault ≡ true)
  pub settles : Settles new failed failed'

abbrev pub octet_items : Octets → List Item
octet_items octets = map AnOctet octets

abbrev pub input_items : Input → List Item
input_items (input.Bytes octets) = octet_items octets.now
input_items (input.Call call) = ACall (call_of call) ∷ []

abbrev pub items_of : List Input → List Item
items_of inputs = flat_map input_items inputs

-- The items that a call processed: the octets used, or all if it stopped.
abbrev pub items_taken : Octets → Result ℕ HostFault → List Item
items_taken octets (Ok used) = octet_items (take used octets)
items_taken octets (Err fault) = octet_items octets

-- The octets used end exactly one packet, or they are all octets and end none.
abbrev pub IsUpToAPacket : Octets → ℕ → List Packet → Type 0
IsUpToAPacket octets used [] = used ≡ length octets
IsUpToAPacket octets used (packet ∷ packets) = packets ≡ []

abbrev pub TakesUpToAPacket : Octets → ℕ → HostModel → Type 0
TakesUpToAPacket octets used host =
    (start : Start) (input : List Item) (sent : List Octets)
    → RefinesRun (run start input) sent host
    → host.fault ≡ None
    → IsUpToAPacket octets used
    (division ((run start input).intake.unfinished ++ take used octets)).packets

-- The number of calls that the run refuses.
abbrev pub refused_at : Run → Item → ℕ
refused_at run (ACall call) = if is_some (call_refusal run.intake call) then 1 else 0
refused_at run item = 0

abbrev pub refused_in : Run → List Item → ℕ
refused_in run [] = 0
refused_in run (item ∷ items) = refused_at run item + refused_in (after_item run item) items

abbrev pub CountsRefused : ℕ → List Item → HostModel → Type 0
CountsRefused count items host =
    (start : Start) (input : List Item) (sent : List Octets)
    → RefinesRun (run start input) sent host
    → count ≡ refused_in (run start input) items
