-- The answers to the commands of an application (this profile's own).
use Rattle.std.specs.Prelude.{ℕ, ◌++◌, [], ◌∷◌, codes, Option, Some, None, Result, Ok, Err}
use Rattle.std.specs.Fmt.{decimal}
use Rattle.octet_io.specs.Number.{Octets}
use Rattle.host_api.specs.Refusals.{number_of_refusal, text_of_refusal}
use Rattle.host_api.specs.declared.app.AppFault.{AppFault}
use Rattle.host_api.specs.declared.app.AppFault.TheVariants.{NoSuchHandle}
use Rattle.app_lines.specs.NoticeText.{value_text}

abbrev pub line : Octets → Octets
line text = text ++ 10 ∷ []

abbrev pub done : Octets
done = line (codes "ok")

abbrev pub refused_answer : AppFault → Octets → Octets
refused_answer fault words =
    line (codes "fault" ++ 32 ∷ decimal (number_of_refusal fault) ++ codes ": " ++ words)

abbrev pub outcome_answer : Result (Unit {0}) AppFault → Octets
outcome_answer (Ok success) = done
outcome_answer (Err fault) = refused_answer fault (text_of_refusal fault)

abbrev pub handle_answer : Option ℕ → Octets
handle_answer (Some handle) = line (codes "handle" ++ 32 ∷ decimal handle)
handle_answer None = refused_answer NoSuchHandle (codes "there is no such characteristic")

abbrev pub value_answer : ℕ → Option Octets → Octets
value_answer handle (Some value) =
    line (codes "value" ++ 32 ∷ decimal handle ++ 32 ∷ value_text value)
value_answer handle None = outcome_answer (Err NoSuchHandle)
