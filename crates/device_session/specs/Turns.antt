-- The turns of the clock, the controller and the application (this profile's own).
use Rattle.std.specs.Prelude.{◌≡◌, ℕ, ◌<◌, ◌≤◌, ◌&&◌, ◌++◌, Bool, true, false, if◌then◌else◌, is_some, List, [], ◌∷◌, fold, nat_le, not, Option, Some, None}
use Rattle.device_session.specs.declared.turns.Turns.{Turns}

abbrev pub at_first : Turns
at_first = record { time = 0; is_told = false; is_current = false; was_read = false }

-- The time, if it has advanced.
abbrev pub tick_at : Turns → ℕ → Option ℕ
tick_at turns now = if nat_le now turns.time then None else Some now

-- The clock is read.
abbrev pub after_tick : Turns → ℕ → Turns
after_tick turns now =
    if nat_le now turns.time then record turns { is_current = true }
    else record turns { time = now; is_told = true; is_current = true }

-- The device has worked, for example saved, so the time is to be read again.
abbrev pub after_work : Turns → Turns
after_work turns = record turns { is_told = false; is_current = false }

-- A turn does not read the clock if the host has just got the time.
abbrev pub after_turn : Turns → ℕ → Turns
after_turn turns now =
    if turns.is_told then record turns { is_told = false } else after_tick turns now

-- The time that the host gets in a turn. If it gets none, it gets octets or a line.
abbrev pub tick_in : Turns → ℕ → Option ℕ
tick_in turns now = if turns.is_told then None else tick_at turns now

-- A turn of the device, whose clock says any time then.
abbrev pub IsTurn : Turns → Option ℕ → Turns → Type 0
IsTurn before time after =
    (now : ℕ) × (time ≡ tick_in before now) × (after ≡ after_turn before now)

-- The controller is read if it is readable, except in a second turn running while other input is
-- there.
abbrev pub reads : Turns → Bool → Bool → Bool
reads turns readable other = readable && not (turns.was_read && other)

abbrev pub after_reading : Turns → Bool → Bool → Turns
after_reading turns readable other = record turns { was_read = reads turns readable other }

-- Each time that is returned is later than all before.
abbrev pub TicksIncrease : Type 0
TicksIncrease =
    (turns : Turns) (now later first second : ℕ) (times : List ℕ) → tick_at turns now ≡ Some first
    → tick_at (fold after_tick (after_tick turns now) times) later ≡ Some second → first < second

abbrev pub after_unreadable : Turns → Bool → Turns
after_unreadable turns other = after_reading turns false other

-- A controller that is not read while it is readable is read in the next turn in which it is
-- readable.
abbrev pub ReadsInTurn : Type 0
ReadsInTurn =
    (turns : Turns) (other later : Bool) (unreadable : List Bool) → reads turns true other ≡ false
    → reads (fold after_unreadable (after_reading turns true other) unreadable) true later ≡ true

-- While other input is there, the controller is not read in two turns running.
abbrev pub SparesOthers : Type 0
SparesOthers =
    (turns : Turns) (readable other later : Bool) → reads turns readable other ≡ true
    → reads (after_reading turns readable other) later true ≡ false

-- All that a device does by its clock: it takes turns and works, for example saves. The clock says
-- a time in each turn, and another one at the end of the work.
pub data ClockStep : Type 0 where
  Turn : (now : ℕ) → ClockStep
  Work : (now : ℕ) → ClockStep

-- The turns, the end of the last work, and what the clock said last.
pub record Clocked : Type 0 where
  pub turns : Turns
  pub worked : ℕ
  pub now : ℕ

abbrev pub with_clock_step : Clocked → ClockStep → Clocked
with_clock_step clocked (Turn now) =
    record clocked { turns = after_turn clocked.turns now; now = now }
with_clock_step clocked (Work now) = record {
  turns = after_work clocked.turns;
  worked = now;
  now = now;
}

abbrev pub clock_at_start : Clocked
clock_at_start = record { turns = at_first; worked = 0; now = 0 }

abbrev pub clocked_after : List ClockStep → Clocked
clocked_after steps = fold with_clock_step clock_at_start steps

abbrev pub now_of : ClockStep → ℕ
now_of (Turn now) = now
now_of (Work now) = now

-- The clock of the device never goes back.
unfoldable pub NeverGoesBack : ℕ → List ClockStep → Type 0
NeverGoesBack last [] = Unit
NeverGoesBack last (step ∷ steps) = (last ≤ now_of step) × NeverGoesBack (now_of step) steps

-- The host has a time that is not before the end of the last work of the device: if it gets octets
-- or a line at the beginning of a turn, and if it gets further lines in the turn.
pub record IsAfterWork (clocked : Clocked) (now : ℕ) : Type 0 where
  pub first :
      is_some (tick_in clocked.turns now) ≡ false
      → clocked.worked ≤ (after_turn clocked.turns now).time
  pub further : clocked.turns.is_current ≡ true → clocked.worked ≤ clocked.turns.time

-- Octets and lines are judged by no time before the last work of the device.
abbrev pub JudgesAfterWork : Type 0
JudgesAfterWork =
    (steps : List ClockStep) (now : ℕ) → NeverGoesBack 0 (steps ++ Turn now ∷ [])
    → IsAfterWork (clocked_after steps) now
