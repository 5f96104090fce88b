-- The effect of an answer to a command, and the fault for which a host stops (Core 5.0, Vol 2 Part
-- E, 4.4).
use Rattle.std.specs.Prelude.{ℕ, Bool, true, false, ◌&&◌, if◌then◌else◌, Option, Some, None, Result, Ok, Err}
use Rattle.gatt_host.specs.declared.host_fault.HostFault.{HostFault}
use Rattle.gatt_host.specs.declared.host_fault.HostFault.TheVariants as stop
use Rattle.gatt_laws.specs.machine.Controller.{Controller, is_ready}
use Rattle.gatt_laws.specs.machine.Event.{Happening}
use Rattle.gatt_laws.specs.machine.Packets.{Fault, Desync, BadEventCode, InitFailed, Hardware}
use Rattle.gatt_laws.specs.machine.State.{is_refusal}
use Rattle.host_connections.specs.Slots.{Place}
use Rattle.le_h4.specs.declared.deframer.H4Fault.{H4Fault}
use Rattle.le_h4.specs.declared.deframer.H4Fault.TheVariants as lost
use Rattle.le_hci.specs.declared.init.Init.{Init}

abbrev pub told_fault : Fault → HostFault
told_fault (Desync indicator) = stop.Desync indicator
told_fault (BadEventCode code) = stop.BadEvent code
told_fault (InitFailed fault) = stop.Init fault
told_fault (Hardware code) = stop.Hardware code

-- The fault for which the host stops, if it does.
abbrev pub stop_of : Result (Happening Place) Fault → Option HostFault
stop_of (Ok happening) = None
stop_of (Err fault) = Some (told_fault fault)

abbrev pub following_stop : Result (Option Init) Fault → Option HostFault
following_stop (Ok following) = None
following_stop (Err fault) = Some (told_fault fault)

abbrev pub following_if : Bool → Controller → Option Init
following_if followed controller = if followed then Some controller.init else None

-- The controller after an answer, which may lead to another state of initialisation.
abbrev pub answered_by : Controller → ℕ → ℕ → Option ℕ → Option Init → Controller
answered_by controller allowed opcode status (Some init) =
    record controller { credit = allowed; init = init; awaiting = false }
answered_by controller allowed opcode status None =
    if is_ready controller && is_refusal opcode status
    then record controller { credit = allowed; advertising = false; refused = true }
    else record controller { credit = allowed }

-- The fault of a host whose stream cannot be divided into packets.
abbrev pub lost_fault : H4Fault → HostFault
lost_fault (lost.Desync indicator) = stop.Desync indicator
