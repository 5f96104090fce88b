-- The work of a device that takes time, after which its clock is read before its host gets anything
-- (this profile's own).
use Rattle.std.specs.Prelude.{◌≡◌, ℕ, Bool, if◌then◌else◌, IfSome, Option, Some, None}
use Rattle.gatt_laws.specs.machine.Calls.{TickCall}
use Rattle.device_loop.specs.Happenings.{Asked, Happened, next_entry}
use Rattle.device_loop.specs.declared.happenings.Next.{Next}
use Rattle.device_session.specs.declared.turns.Turns.{Turns}
use Rattle.device_session.specs.Turns.{after_turn, after_work, tick_in}
use Rattle.device_host.specs.declared.changes.Changes.{Changes}
use Rattle.device_host.specs.declared.keeping.Keeping.{Keeping}
use Rattle.device_host.specs.Changes.{is_made}

abbrev pub worked_if : Bool → Turns → Turns
worked_if works turns = if works then after_work turns else turns

-- A save is made if one is due at the time of the clock.
abbrev pub IsSaveTurned : Changes → Turns → Turns → Type 0
IsSaveTurned changes before after = (now : ℕ) × (after ≡ worked_if (is_made now changes) before)

-- Nothing is saved without files.
abbrev pub IsTurnSaved : Option Keeping → Turns → Turns → Type 0
IsTurnSaved (Some keeping) before after = IsSaveTurned keeping.changes before after
IsTurnSaved None before after = after ≡ before

-- If the clock says a later time in this turn, the host gets that and nothing else.
abbrev pub IsNextByClock : Turns → Next → Turns → Type 0
IsNextByClock before next after =
    (now : ℕ)
    × IfSome (tick_in before now) (λ time. next_entry next ≡ Happened (Asked (TickCall time)))
    × ((read : Bool) × (after ≡ record (after_turn before now) { was_read = read }))
