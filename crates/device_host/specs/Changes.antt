-- The changes of a host, saved or not (this profile's own). Times are milliseconds.
use Rattle.std.specs.Prelude.{ℕ, Bool, true, false, nat_le, Option, Some, None}
use Rattle.device_host.specs.declared.changes.Changes.{Changes}
use Rattle.device_host.specs.declared.changes.Changes.TheVariants as is

-- A failing save is not made again earlier because of another change.
abbrev pub with_change : Changes → Changes
with_change is.Saved = is.Due
with_change is.Due = is.Due
with_change (is.Failing retry) = is.Failing retry

-- A save is made at this time.
abbrev pub is_made : ℕ → Changes → Bool
is_made now is.Saved = false
is_made now is.Due = true
is_made now (is.Failing retry) = nat_le retry now

-- The time of the next save, if one must wait.
abbrev pub retry_of : Changes → Option ℕ
retry_of (is.Failing retry) = Some retry
retry_of other = None

abbrev pub is_all_saved : Changes → Bool
is_all_saved is.Saved = true
is_all_saved other = false
