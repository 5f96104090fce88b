-- A Command Status that refuses the command that initialisation awaits stops the host.
use Rattle.std.proofs.Common.{◌≡◌, ℕ, Bool, true, false, [], ◌∷◌, Option, Some, None, Result, Ok, Err, refl, sym, ap, ◌∙◌}
use Rattle.std.proofs.lemmas.Bool.{eqb-true}
use Rattle.std.specs.Prelude.{◌==◌, ◌&&◌, not, if◌then◌else◌}
use Rattle.std.specs.Option.{option_map_or}
use Rattle.gatt_host.proofs.owing.Nexts.{clash}
use Rattle.gatt_host.specs.Answers.{following_stop, stop_of}
use Rattle.gatt_host.specs.declared.host_fault.HostFault.TheVariants as stop
use Rattle.gatt_laws.specs.machine.Controller.{Controller}
use Rattle.gatt_laws.specs.machine.Packets.{Fault, InitFailed, answered, following_of, is_awaited, status_event}
use Rattle.le_hci.specs.declared.init.Init.{Init}
use Rattle.le_hci.specs.declared.init.InitFault.{InitFault}
use Rattle.le_hci.specs.declared.init.InitFault.TheVariants.{Refused}
use Rattle.le_hci.specs.Init.{handed_back, next_by, opcode_awaited, outcome_by, init_outcome}
use Rattle.octet_io.proofs.Choices.{and_true_right}
use Rattle.octet_io.specs.Number.{Octets}

abbrev refusal : ℕ → ℕ → Result (Option Init) Fault
refusal opcode status = Err (InitFailed (Refused opcode status))

abbrev returned_by : ℕ → ℕ → Bool → Result Octets InitFault
returned_by opcode status zero = if zero then Ok [] else Err (Refused opcode status)

leads-to : (found : Option ℕ) (state : Init) (opcode status : ℕ) → option_map_or (λ awaited. opcode == awaited) found false ≡ true
    → (status == 0) ≡ false → following_of (outcome_by found state (status ∷ [])) ≡ refusal opcode status
leads-to None state opcode status is other = absurd (clash is)
leads-to (Some awaited) state opcode status is other =
    ap (λ (zero : Bool). following_of (handed_back state (next_by state (returned_by awaited status zero)))) other
    ∙ ap (λ (code : ℕ). refusal code status) (sym (eqb-true opcode awaited is))

pub stops_where_refused : (controller : Controller) (status allowed opcode : ℕ) → is_awaited controller opcode ≡ true → (status == 0) ≡ false
    → stop_of (status_event controller status allowed opcode) ≡ Some (stop.Init (Refused opcode status))
stops_where_refused controller status allowed opcode is other =
    let leads : Result (Option Init) Fault = following_of (init_outcome controller.init (status ∷ [])) in
    ap (λ (awaits : Bool). stop_of (answered allowed opcode (Some status) (if awaits && not (status == 0) then leads else Ok None))) is
    ∙ ap (λ (zero : Bool). stop_of (answered allowed opcode (Some status) (if not zero then leads else Ok None))) other
    ∙ ap (λ (result : Result (Option Init) Fault). stop_of (answered allowed opcode (Some status) result))
    (leads-to (opcode_awaited controller.init) controller.init opcode status (and_true_right controller.awaiting _ is) other)

-- what stops initialisation stops the host
pub stops_where_told : (allowed opcode : ℕ) (status : Option ℕ) (following : Result (Option Init) Fault) → stop_of (answered allowed opcode status following)
    ≡ following_stop following
stops_where_told allowed opcode status (Ok following) = refl
stops_where_told allowed opcode status (Err fault) = refl
