-- The time of a host never goes back.
use Rattle.std.proofs.Common.{◌≡◌, ℕ, ◌<◌, ◌≤◌, Bool, true, false, List, Option, Some, None, Result, Ok, Err, refl, sym, subst, arith, lt-ltb}
use Rattle.std.specs.Prelude.{nat_lt, if◌then◌else◌}
use Rattle.gatt_laws.proofs.runs.Always.{always, any_tables}
use Rattle.gatt_laws.specs.machine.Calls.{Refused, TickCall, TimeWentBack, call_event}
use Rattle.gatt_laws.specs.machine.Event.{Event, Of, Completed, Credit, Update, Tick, Replaced, Nothing}
use Rattle.gatt_laws.specs.machine.Input.{Run, Item, after_item, after_items, after_result, call_refusal, refusal_in, unless_stopped}
use Rattle.gatt_laws.specs.machine.Packets.{Fault}
use Rattle.gatt_laws.specs.laws.Possible.{Possible}
use Rattle.gatt_laws.specs.machine.State.{State, change_of, step}
use Rattle.device_loop.specs.Time.{KeepsTheTime, time_at}

abbrev IsFrom : ℕ → State → Type 0
IsFrom least state = least ≤ state.shared.time

step-keeps : (least : ℕ) (state : State) (event : Event) → Possible (λ table. Unit) state event → IsFrom least state → IsFrom least (step state event)
unfolding step change_of
step-keeps least state (Of ordinal own) possible is = is
step-keeps least state (Completed entries) possible is = is
step-keeps least state (Credit allowed opcode status (Some init)) possible is = is
step-keeps least state (Credit allowed opcode status None) possible is = is
step-keeps least state (Update handle value) possible is = is
step-keeps least state (Tick time) possible is = omega (arith, is, possible)
step-keeps least state (Replaced table) possible is = is
step-keeps least state Nothing possible is = is

time-ascends : (run : Run) (items : List Item) → time_at run ≤ time_at (after_items run items)
time-ascends run items = always (λ table. Unit) (IsFrom (time_at run)) (step-keeps (time_at run)) run items (any_tables items) (omega arith)

-- by the fault that stands
abbrev tick_result : ℕ → ℕ → Bool → Result Event Refused
tick_result time now back = if back then Err TimeWentBack else Ok (Tick time)

back-refused : (run : Run) (time : ℕ) → run.intake.fault ≡ None → time < time_at run → call_refusal run.intake (TickCall time) ≡ Some TimeWentBack
back-refused run time none back =
    subst (λ (fault : Option Fault). refusal_in fault (call_event run.intake.state (TickCall time)) ≡ Some TimeWentBack) (sym none)
    (subst (λ (is : Bool). refusal_in None (tick_result time (time_at run) is) ≡ Some TimeWentBack) (sym (lt-ltb time (time_at run) back)) refl)

tick-tells : (run : Run) (time : ℕ) (fault : Option Fault) (back : Bool) → refusal_in fault (tick_result time (time_at run) back) ≡ None
    → time_at (unless_stopped fault run (after_result run (tick_result time (time_at run) back))) ≡ time
unfolding step change_of
tick-tells run time (Some fault) back is = cc is
tick-tells run time None true is = cc is
tick-tells run time None false is = refl

refused-unchanged : (run : Run) (fault : Option Fault) (result : Result Event Refused) (why : Refused) → refusal_in fault result ≡ Some why
    → unless_stopped fault run (after_result run result) ≡ run
refused-unchanged run (Some fault) result why is = refl
refused-unchanged run None (Ok event) why is = cc is
refused-unchanged run None (Err refused) why is = refl

pub keeps_the_time : KeepsTheTime
unfolding after_item
keeps_the_time = record {
  ascends = time-ascends;
  refuses = back-refused;
  tells = λ run time is. tick-tells run time run.intake.fault (nat_lt time (time_at run)) is;
  unchanged = λ run call why is. refused-unchanged run run.intake.fault (call_event run.intake.state call) why is;
}
