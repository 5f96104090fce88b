-- The reasons for which no controller is reached (this profile's own).
use Rattle.std.specs.Prelude.{ℤ, Option, Some, None}
use Rattle.device_io.specs.declared.missed.Missed.{Missed}
use Rattle.device_io.specs.declared.missed.Missed.TheVariants.{Failed, Unwatched}

-- The reason for an error: the number of the system, if it has one.
abbrev pub missed_by : Option ℤ → Missed
missed_by (Some number) = Failed number
missed_by None = Unwatched
