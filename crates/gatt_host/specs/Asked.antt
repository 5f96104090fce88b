-- The meaning of a call of the application to a host.
use Rattle.std.specs.Prelude.{Option, Some, None, Result, Ok, Err}
use Rattle.att_table.specs.Table.{Contents}
use Rattle.gatt_host.specs.Calls.{refused_of}
use Rattle.host_api.specs.declared.app.AppFault.{AppFault}
use Rattle.gatt_host.specs.ServerState.{ServerState}
use Rattle.gatt_host.specs.Meaning.{context_in}
use Rattle.gatt_laws.specs.machine.Calls.{Call, Refused, call_meaning, replacement_meaning}
use Rattle.gatt_laws.specs.machine.Event.{Happening}
use Rattle.host_connections.specs.Slots.{Place}

abbrev pub call_happening : ServerState → Call → Result (Happening Place) Refused
call_happening server call = call_meaning (context_in server) call

abbrev pub replacement_happening : ServerState → Contents → Result (Happening Place) Refused
replacement_happening server table = replacement_meaning (context_in server) table

abbrev pub refusal_in_result : Result Unit AppFault → Option Refused
refusal_in_result (Ok done) = None
refusal_in_result (Err refused) = Some (refused_of refused)

abbrev pub replacing_refusal_of : {A B : Type 0} → Result A (AppFault × B) → Option Refused
replacing_refusal_of (Ok old) = None
replacing_refusal_of (Err refused) = Some (refused_of refused.0)
