-- The laws of the time, which this profile defines.
use Rattle.std.specs.Prelude.{◌≡◌, ℕ, ◌<◌, ◌≤◌, List, Some, None}
use Rattle.gatt_laws.specs.machine.Calls.{Call, Refused, TickCall, TimeWentBack}
use Rattle.gatt_laws.specs.machine.Input.{Run, Item, ACall, after_item, after_items, call_refusal}

-- The time in milliseconds.
abbrev pub time_at : Run → ℕ
time_at run = run.intake.state.shared.time

-- The time never goes back, and a refused call changes nothing.
pub record KeepsTheTime : Type 0 where
  pub ascends : (run : Run) (items : List Item) → time_at run ≤ time_at (after_items run items)
  pub refuses : (run : Run) (time : ℕ) → run.intake.fault ≡ None → time < time_at run
      → call_refusal run.intake (TickCall time) ≡ Some TimeWentBack
  pub tells : (run : Run) (time : ℕ) → call_refusal run.intake (TickCall time) ≡ None
      → time_at (after_item run (ACall (TickCall time))) ≡ time
  pub unchanged : (run : Run) (call : Call) (why : Refused) → call_refusal run.intake call
      ≡ Some why
      → after_item run (ACall call) ≡ run
