-- The time of the confirmation timeout (this profile's own).
use Rattle.std.specs.Prelude.{◌+◌, ◌^◌, nat_lt, if◌then◌else◌, Option, Some, None}
use Rattle.std.specs.Option.{option_and_then}
use Rattle.gatt_subs.specs.declared.pending.TheConstants.{CONFIRMATION_TIMEOUT}
use Rattle.gatt_subs.specs.declared.pending.Unconfirmed.{Unconfirmed}
use Rattle.gatt_subs.specs.Indications.{Indications, Milliseconds}

abbrev pub late_at : Unconfirmed → Milliseconds
late_at unconfirmed = unconfirmed.since + CONFIRMATION_TIMEOUT

-- A time has 64 bits; a later timeout never happens.
abbrev pub late_from : Unconfirmed → Option Milliseconds
late_from unconfirmed = if nat_lt (late_at unconfirmed) (2 ^ 64) then Some (late_at unconfirmed)
    else None

abbrev pub deadline_of : Indications → Option Milliseconds
deadline_of pending = option_and_then late_from pending.unconfirmed
