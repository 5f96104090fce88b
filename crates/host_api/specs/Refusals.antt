-- The numbers and texts of the faults by which a host refuses calls (this profile's own).
use Rattle.std.specs.Prelude.{ℕ, List, codes}
use Rattle.host_api.specs.declared.app.AppFault.{AppFault}
use Rattle.host_api.specs.declared.app.AppFault.TheVariants as fault

abbrev pub number_of_refusal : AppFault → ℕ
number_of_refusal fault.NoSuchHandle = 1
number_of_refusal fault.NotAValue = 2
number_of_refusal fault.BadLength = 3
number_of_refusal fault.NoSuchConnection = 4
number_of_refusal fault.TimeWentBack = 5
number_of_refusal fault.Stopped = 6
number_of_refusal fault.NoServiceChanged = 7

abbrev pub text_of_refusal : AppFault → List ℕ
text_of_refusal fault.NoSuchHandle = codes "there is no attribute with the handle"
text_of_refusal fault.NotAValue = codes "it is no characteristic value"
text_of_refusal fault.BadLength =
    codes "the value is longer than its largest length, or a fixed one has another length"
text_of_refusal fault.NoSuchConnection = codes "no connection with the handle serves"
text_of_refusal fault.TimeWentBack = codes "the time is earlier than the current time"
text_of_refusal fault.Stopped = codes "the host has stopped"
text_of_refusal fault.NoServiceChanged =
    codes "a table has no value that tells of changes, or they have it at different handles"
