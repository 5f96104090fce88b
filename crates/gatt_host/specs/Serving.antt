-- Serving: the octets that it reads from a controller, processes and writes.
use Rattle.std.specs.Prelude.{◌≡◌, ℕ, ◌-◌, ◌*◌, ◌<◌, ◌≤◌, length, is_ok, IsOk, IfOk, List, [], ◌∷◌, ◌++◌, Option, Result, Ok, Err}
use Rattle.std.specs.Io.KnownBytes.{Consumes, IsAtEnd}
use Rattle.std.specs.Result.{result_err}
use Rattle.gatt_host.specs.declared.host_fault.HostFault.{HostFault}
use Rattle.gatt_host.specs.declared.host_fault.HostFault.TheVariants as stop
use Rattle.gatt_host.specs.declared.serving.End.{End}
use Rattle.gatt_host.specs.declared.serving.TheConstants.{TURN}
use Rattle.gatt_host.specs.Feeding.{Feeds, is_read_fault, octet_items}
use Rattle.gatt_host.specs.HostModel.{HostModel}
use Rattle.gatt_host.specs.Promises.{ContinuesWriting, KeepsConnectionsApartIn, KeepsThePolicyIn}
use Rattle.gatt_laws.specs.machine.Input.{Item, TheEnd}
use Rattle.octet_io.specs.Number.{Octets}
use Rattle.octet_io.specs.Stream.{CountsIf, CountsMany}

-- The octets that were read, and the end of the input if it was reached.
abbrev pub items_read : {A : Type 0} → Result A HostFault → Octets → List Item
items_read (Ok ended) read = octet_items read ++ TheEnd ∷ []
items_read (Err fault) read = octet_items read

-- Each read returned at least one octet and at most `TURN`.
pub record IsReadIn (turns : ℕ) (read : Octets) : Type 0 where
  pub some : turns ≤ length read
  pub most : length read ≤ TURN * turns

-- The octets that were read are processed, and their output is written. Each run in which the host
-- was continues by these octets and keeps the laws.
pub record Serves (result : Result End HostFault) (turns : ℕ) (old new : HostModel)
    (remaining left before after : Option Octets) : Type 0 where
  pub read : Octets
  pub consumed : Consumes remaining left read
  pub feeds : Feeds (items_read result read) old new before after new.fault
  pub policy : ContinuesWriting KeepsThePolicyIn (items_read result read) old new before after
  pub apart : ContinuesWriting KeepsConnectionsApartIn (items_read result read) old new before after
  pub at_end : IsOk result → IsAtEnd left
  pub ended : IfOk result (λ (end : End). (0 < end.turns) × IsReadIn (end.turns - 1) read)
  pub over : result ≡ Err stop.Turns → IsReadIn turns read

-- A call makes at most `turns` reads, and exactly that many if it returns `Turns`. It finds the end
-- once if it returns `Ok`, and a read fails exactly if it returns `Read`.
pub record Reads (result : Result End HostFault) (turns : ℕ)
    (reads reads' found found' failed failed' : Option ℕ) : Type 0 where
  pub made : ℕ
  pub counted : CountsMany made reads reads'
  pub most : made ≤ turns
  pub told : IfOk result (λ (end : End). end.turns ≡ made)
  pub over : result ≡ Err stop.Turns → made ≡ turns
  pub ends : CountsIf (is_ok result) found found'
  pub failures : CountsIf (is_read_fault (result_err result)) failed failed'
