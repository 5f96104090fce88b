-- The time limits for a controller: a choice of this program.
use Rattle.std.specs.Prelude.{ℕ, ◌+◌, ◌-◌, ◌^◌, min, filter_map, List, Option}
use Rattle.std.specs.List.{reduce}
use Rattle.std.specs.Option.{option_map}

-- The end of a wait that began at a moment, in milliseconds, at most 2^64 - 1.
abbrev pub wait_end : ℕ → ℕ → ℕ
wait_end patience begun = min (begun + patience) (2 ^ 64 - 1)

-- The first moment at which a wait that has begun ends.
unfoldable pub given_up_at : ℕ → List (Option ℕ) → Option ℕ
given_up_at patience begun = reduce min (filter_map (option_map (wait_end patience)) begun)
