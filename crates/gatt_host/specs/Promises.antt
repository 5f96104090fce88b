-- The laws that a host keeps, in every run and in the one that a call continues, and its output
-- after opening.
pub use Rattle.gatt_theorems.specs.InRuns.{KeepsConnectionsApartIn, KeepsThePolicyIn}
pub use Rattle.gatt_theorems.specs.Promise.{Promise}
use Rattle.std.specs.Prelude.{◌≡◌, true, List, [], ◌++◌, Option, Some, None}
use Rattle.gatt_host.specs.declared.host_fault.HostFault.{HostFault}
use Rattle.gatt_host.specs.declared.host_fault.HostFault.TheVariants as stop
use Rattle.gatt_host.specs.Feeding.{joined}
use Rattle.gatt_host.specs.HostModel.{HostModel, Refines, RefinesRun, SameFault, all_out}
use Rattle.gatt_laws.specs.machine.Input.{Item, run}
use Rattle.gatt_laws.specs.machine.Start.{Start}
use Rattle.octet_io.specs.Number.{Octets}
use Rattle.octet_io.specs.Stream.{WritesFront}

-- This run keeps the law and has this host. The packets that were sent are a prefix of its output.
pub record KeepsInRun (Law : Start → List Item → Type 0) (start : Start) (input : List Item)
    (sent : List Octets) (host : HostModel) : Type 0 where
  pub law : Law start input
  pub reached : RefinesRun (run start input) sent host
  pub rest : List Octets
  pub front : (run start input).sent ≡ sent ++ rest

-- Each run in which the host was before a call continues by these items and these packets.
abbrev pub ContinuesRuns : (Start → List Item → Type 0) → List Item → List Octets → HostModel
    → HostModel → Type 0
ContinuesRuns Law items packets old new =
    (start : Start) (input : List Item) (sent : List Octets) → RefinesRun (run start input) sent old
    → KeepsInRun Law start (input ++ items) (sent ++ packets) new

-- The items that were processed are all of these, or a prefix of them if the writer failed.
abbrev pub AreProcessed : Option HostFault → List Item → List Item → Type 0
AreProcessed (Some stop.Write) items processed = (left : List Item) × (items ≡ processed ++ left)
AreProcessed fault items processed = processed ≡ items

-- Each run continues by the items that a call processes and by the packets that they cause, of
-- which the writer takes a prefix.
pub record ContinuesWriting (Law : Start → List Item → Type 0) (items : List Item)
    (old new : HostModel) (before after : Option Octets) : Type 0 where
  pub processed : List Item
  pub all : AreProcessed new.fault items processed
  pub packets : List Octets
  pub runs : ContinuesRuns Law processed packets old new
  pub written : WritesFront (joined packets) before after

-- A host that has stopped processes none of the items of a call.
abbrev pub items_unless_stopped : Option HostFault → List Item → List Item
items_unless_stopped None items = items
items_unless_stopped (Some fault) items = []

-- A call without a writer processes exactly these items and sends nothing.
abbrev pub ContinuesByThePolicy : List Item → HostModel → HostModel → Type 0
ContinuesByThePolicy items old new =
    ContinuesRuns KeepsThePolicyIn (items_unless_stopped old.fault items) [] old new

abbrev pub ContinuesApart : List Item → HostModel → HostModel → Type 0
ContinuesApart items old new =
    ContinuesRuns KeepsConnectionsApartIn (items_unless_stopped old.fault items) [] old new

-- A call with a writer.
abbrev pub WritesByThePolicy : List Item → HostModel → HostModel → Option Octets → Option Octets
    → Type 0
WritesByThePolicy items old new before after =
    ContinuesWriting KeepsThePolicyIn (items_unless_stopped old.fault items) old new before after

abbrev pub WritesApart : List Item → HostModel → HostModel → Option Octets → Option Octets → Type 0
WritesApart items old new before after =
    ContinuesWriting KeepsConnectionsApartIn (items_unless_stopped old.fault items) old new before
    after

-- The packets are a prefix of the input's output, and all of it once everything is sent. The host
-- stops when the run does, for the same reason, or for its own reader, writer or turns.
pub record IsWhatIsDue (start : Start) (items : List Item) (packets : List Octets)
    (later : HostModel) : Type 0 where
  pub rest : List Octets
  pub front : (run start items).sent ≡ packets ++ rest
  pub all : later.fault ≡ None → all_out later ≡ true → (run start items).sent ≡ packets
  pub fault : SameFault (run start items).intake.fault later.fault

-- The output is what is due after any calls: octets in any pieces, packets, calls and tables.
abbrev pub GivesWhatIsDue : Start → HostModel → Type 0
GivesWhatIsDue start opened = (items : List Item) (packets : List Octets) (later : HostModel)
    → Refines items packets opened later
    → IsWhatIsDue start items packets later
