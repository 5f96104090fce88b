-- Calls and refusals in the terms of the state machine.
use Rattle.std.specs.Prelude.{ℕ}
use Rattle.host_api.specs.declared.app.App.{App}
use Rattle.host_api.specs.declared.app.App.TheVariants as app
use Rattle.host_api.specs.declared.app.AppFault.{AppFault}
use Rattle.host_api.specs.declared.app.AppFault.TheVariants as fault
use Rattle.host_api.specs.Refusals.{number_of_refusal}
use Rattle.gatt_laws.specs.machine.Calls.{Call, UpdateCall, AuthorizeCall, DisconnectCall, TickCall}
use Rattle.gatt_laws.specs.machine.Calls.{Refused, NoSuchHandle, NotAValue, BadLength}
use Rattle.gatt_laws.specs.machine.Calls.{NoSuchConnection, TimeWentBack, Stopped, NoServiceChanged}

-- A call and a refusal without the memory of their octets.
abbrev pub call_of : App → Call
call_of (app.Update handle value) = UpdateCall handle value.now
call_of (app.Authorize handle until) = AuthorizeCall handle until
call_of (app.Disconnect handle) = DisconnectCall handle
call_of (app.Tick time) = TickCall time

abbrev pub refused_of : AppFault → Refused
refused_of fault.NoSuchHandle = NoSuchHandle
refused_of fault.NotAValue = NotAValue
refused_of fault.BadLength = BadLength
refused_of fault.NoSuchConnection = NoSuchConnection
refused_of fault.TimeWentBack = TimeWentBack
refused_of fault.Stopped = Stopped
refused_of fault.NoServiceChanged = NoServiceChanged

abbrev pub fault_of_refused : Refused → AppFault
fault_of_refused NoSuchHandle = fault.NoSuchHandle
fault_of_refused NotAValue = fault.NotAValue
fault_of_refused BadLength = fault.BadLength
fault_of_refused NoSuchConnection = fault.NoSuchConnection
fault_of_refused TimeWentBack = fault.TimeWentBack
fault_of_refused Stopped = fault.Stopped
fault_of_refused NoServiceChanged = fault.NoServiceChanged

abbrev pub number_of_refused : Refused → ℕ
number_of_refused refused = number_of_refusal (fault_of_refused refused)
