-- A device of two sides: octets of a controller and calls of an application, all known.
use Rattle.std.specs.Prelude.{◌≡◌, List, ◌++◌, Option}
use Rattle.device_loop.specs.Happenings.{DeviceInput, octets_that_came, calls_in, items_in}
use Rattle.gatt_host.specs.Feeding.{Feeds}
use Rattle.gatt_host.specs.HostModel.{HostModel}
use Rattle.gatt_laws.specs.machine.Calls.{Call}
use Rattle.octet_io.specs.Number.{Octets}

-- The host was fed what is gone from the two sides, each in its order, and nothing else.
pub record FeedsBoth (octets octets_left : Octets) (calls calls_left : List Call)
    (old new : HostModel) (before after : Option Octets) : Type 0 where
  pub happened : List DeviceInput
  pub octets_gone : octets ≡ octets_that_came happened ++ octets_left
  pub calls_gone : calls ≡ calls_in happened ++ calls_left
  pub feeds : Feeds (items_in happened) old new before after new.fault
