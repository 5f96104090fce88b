-- The notices that a listener receives of a host's input.
use Rattle.std.specs.Prelude.{◌≡◌, List, ◌++◌, Option, Some, None}
use Rattle.std.specs.Io.KnownBytes.{Consumes}
use Rattle.gatt_host.specs.declared.host_fault.HostFault.{HostFault}
use Rattle.gatt_host.specs.declared.host_fault.HostFault.TheVariants as stop
use Rattle.gatt_host.specs.Feeding.{octet_items}
use Rattle.gatt_host.specs.HostModel.{Refines, RefinesRun, HostModel}
use Rattle.gatt_laws.specs.machine.Input.{Item, run}
use Rattle.gatt_laws.specs.machine.Notice.{Received, received_in}
use Rattle.gatt_laws.specs.machine.Start.{Start}
use Rattle.octet_io.specs.Number.{Octets}

-- The listener receives these notices after the earlier ones, if they are known.
abbrev pub Hears : List Received → Option (List Received) → Option (List Received) → Type 0
Hears notices None after = Unit
Hears notices (Some before) None = ⊥
Hears notices (Some before) (Some after) = after ≡ before ++ notices

abbrev pub HearsOf : List Item → HostModel → Option (List Received) → Option (List Received)
    → Type 0
HearsOf items old before after =
    (start : Start) (input : List Item) (sent : List Octets) → RefinesRun (run start input) sent old
    → Hears (received_in (run start input) items) before after

-- The listener receives the notices of the items before the writer's failure.
pub record HearsTheFront (items : List Item) (old new : HostModel)
    (before after : Option (List Received)) : Type 0 where
  pub taken : List Item
  pub left : List Item
  pub parts : items ≡ taken ++ left
  pub packets : List Octets
  pub refines : Refines taken packets old new
  pub heard : HearsOf taken old before after

abbrev pub Listens : List Item → HostModel → HostModel → Option HostFault → Option (List Received)
    → Option (List Received) → Type 0
Listens items old new (Some stop.Write) before after = HearsTheFront items old new before after
Listens items old new fault before after = HearsOf items old before after

-- The listener receives the notices of the octets that were read.
pub record ListensServing (old new : HostModel) (remaining left : Option Octets)
    (before after : Option (List Received)) : Type 0 where
  pub read : Octets
  pub consumed : Consumes remaining left read
  pub listens : Listens (octet_items read) old new new.fault before after
