-- The result of a call of the application.
use Rattle.std.specs.Prelude.{◌≡◌, List, Option, Some, None, Result, Ok, Err}
use Rattle.gatt_host.specs.Asked.{refusal_in_result}
use Rattle.host_api.specs.declared.app.AppFault.{AppFault}
use Rattle.gatt_host.specs.declared.fault.Fault.{Fault}
use Rattle.gatt_host.specs.declared.fault.Fault.TheVariants as told
use Rattle.gatt_host.specs.declared.host_fault.HostFault.{HostFault}
use Rattle.gatt_host.specs.HostModel.{RefinesRun, HostModel}
use Rattle.gatt_laws.specs.machine.Calls.{Call}
use Rattle.gatt_laws.specs.machine.Input.{Item, call_refusal, run}
use Rattle.gatt_laws.specs.machine.Start.{Start}
use Rattle.octet_io.specs.Number.{Octets}

-- The host refuses the call exactly as its run does.
abbrev pub IsCallRefusedAs : Call → HostModel → Result Unit AppFault → Type 0
IsCallRefusedAs call old answer =
    (start : Start) (input : List Item) (sent : List Octets) → RefinesRun (run start input) sent old
    → refusal_in_result answer ≡ call_refusal (run start input).intake call

-- The fault of the host comes before the outcome of the call.
abbrev pub answer_told : Option HostFault → Result Unit AppFault → Result Unit Fault
answer_told (Some fault) answer = Err (told.Host fault)
answer_told None (Ok done) = Ok done
answer_told None (Err refused) = Err (told.Call refused)

pub record Answers (call : Call) (old : HostModel) (fault : Option HostFault)
    (result : Result Unit Fault) : Type 0 where
  pub answer : Result Unit AppFault
  pub told : result ≡ answer_told fault answer
  pub refused : fault ≡ None → IsCallRefusedAs call old answer

abbrev pub fault_told : Result Unit Fault → Option HostFault
fault_told (Err (told.Host fault)) = Some fault
fault_told result = None
