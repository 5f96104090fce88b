-- An application to which nothing is sent between an event and the save of what it changed (this
-- profile's own).
use Rattle.std.specs.Prelude.{◌≡◌, ◌⊎◌, true}
use Rattle.device_session.specs.Seats.{Seats, after_end}

-- No more lines are read, and all else stays as it is.
abbrev pub held : Seats → Seats
held seats = record seats { is_held = true }

abbrev pub IsSameOrHeld : Seats → Seats → Type 0
IsSameOrHeld before after = (after ≡ before) ⊎ (after ≡ held before)

abbrev pub IsSameOrEnded : Seats → Seats → Type 0
IsSameOrEnded before after = (after ≡ before) ⊎ (after ≡ after_end before)

-- The application, its seat and its output stay as they are, except that its lines may be held, or
-- that it is ended, since memory was refused for a line to it.
abbrev pub SendsNothing : Seats → Seats → Type 0
SendsNothing before after = (after ≡ before) ⊎ (after ≡ held before) ⊎ (after ≡ after_end before)
