-- Clients without a key that are disconnected after a time limit: a choice of this profile.
-- `heard` of a connection is the host's time. All other times are those of the peers' clock.
use Rattle.std.specs.Prelude.{ℕ, ◌+◌, ◌-◌, ◌^◌, ◌==◌, ◌&&◌, ◌||◌, Bool, false, if◌then◌else◌, fold, is_some, List, map, min, nat_le, unwrap_or, Option, Some, None}
use Rattle.std.specs.List.{find}
use Rattle.std.specs.Option.{option_map, option_map_or}
use Rattle.host_api.specs.declared.connection.Connection.{Connection}
use Rattle.device_session.specs.declared.strangers.Keyless.{Keyless}
use Rattle.device_session.specs.declared.strangers.Limits.{Limits}
use Rattle.device_session.specs.declared.strangers.Stranger.{Stranger}

-- A connection that has no key and that the host has not ended.
abbrev pub keyless_of : Connection → Option Keyless
keyless_of connection =
    if is_some connection.key || connection.ending then None
    else Some
    (record { ordinal = connection.ordinal; handle = connection.handle; heard = connection.heard })

-- The end of a time limit, in milliseconds, at most 2^64 - 1.
abbrev pub time_after : ℕ → Option ℕ → Option ℕ
time_after time limit = option_map (λ limit. min (time + limit) (2 ^ 64 - 1)) limit

abbrev pub sooner_of : Option ℕ → Option ℕ → Option ℕ
sooner_of (Some one) (Some other) = Some (min one other)
sooner_of (Some one) None = Some one
sooner_of None other = other

-- The time at which a client has been silent, or known, for too long.
abbrev pub due_of : Limits → Stranger → Option ℕ
due_of limits stranger =
    sooner_of (time_after stranger.heard limits.silent)
    (time_after stranger.found limits.staying)

abbrev pub is_due : Limits → ℕ → Stranger → Bool
is_due limits now stranger = option_map_or (λ due. nat_le due now) (due_of limits stranger) false

-- Some clients have a time limit.
abbrev pub are_limited : Limits → Bool
are_limited limits = is_some limits.silent || is_some limits.staying

abbrev pub first_due : Limits → ℕ → List Stranger → Option Stranger
first_due limits now known = find (is_due limits now) known

-- The first time at which one of the clients has been silent, or known, for too long.
abbrev pub first_limit : Limits → List Stranger → Option ℕ
first_limit limits known = fold sooner_of None (map (due_of limits) known)

-- The time at which a connection was first found, by its ordinal, which is unique within its host.
abbrev pub found_at : List Stranger → ℕ → ℕ → ℕ
found_at known ordinal now =
    unwrap_or
    (option_map (λ (one : Stranger). one.found)
    (find (λ (one : Stranger). one.connection.ordinal == ordinal) known)) now

-- This is the same connection, with no data since.
abbrev pub is_silent : Keyless → Keyless → Bool
is_silent connection later =
    connection.ordinal == later.ordinal && connection.heard == later.heard

-- The time at which the last data of a connection was found.
abbrev pub heard_at : List Stranger → Keyless → ℕ → ℕ
heard_at known connection now =
    unwrap_or
    (option_map (λ (one : Stranger). one.heard)
    (find (λ (one : Stranger). is_silent one.connection connection) known)) now

abbrev pub stranger_of : List Stranger → ℕ → Keyless → Stranger
stranger_of known now connection =
    record {
      connection = connection;
      heard = heard_at known connection now;
      found = found_at known connection.ordinal now;
    }

abbrev pub strangers_of : List Stranger → ℕ → List Keyless → List Stranger
strangers_of known now connections = map (stranger_of known now) connections
