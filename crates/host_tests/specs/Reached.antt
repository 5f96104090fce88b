-- A host that some run has.
use Rattle.std.specs.Prelude.{List}
use Rattle.gatt_host.specs.HostModel.{HostModel, RefinesRun}
use Rattle.gatt_laws.specs.machine.Input.{Item, run}
use Rattle.gatt_laws.specs.machine.Start.{Start}
use Rattle.octet_io.specs.Number.{Octets}

pub record IsInARun (host : HostModel) : Type 0 where
  pub start : Start
  pub input : List Item
  pub sent : List Octets
  pub refines : RefinesRun (run start input) sent host
