-- The clock of the time limits of peers, a choice of this profile.
use Rattle.std.specs.Prelude.{ℕ, ◌+◌, ◌-◌, ◌^◌, min}

-- The counted time in milliseconds, at most 2^64 - 1. At most half a second counts of the time
-- since the last count.
abbrev pub counted_after : ℕ → ℕ → ℕ → ℕ
counted_after counted seen now = min (counted + min (now - seen) 500) (2 ^ 64 - 1)
