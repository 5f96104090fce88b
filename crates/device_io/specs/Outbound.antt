-- The octets that wait for a controller (this profile's own). Times are in milliseconds.
use Rattle.std.specs.Prelude.{ℕ, ◌+◌, ◌==◌, ◌++◌, Bool, if◌then◌else◌, [], drop, length, nat_le, Option, Some, None}
use Rattle.octet_io.specs.Number.{Octets}
use Rattle.device_io.specs.declared.outbound.Outbound.{Outbound}
use Rattle.device_io.specs.declared.outbound.TheConstants.{MOST_WAITING}

abbrev pub nothing_waits : Outbound
nothing_waits = record { outbox = record { octets = []; limit = MOST_WAITING }; since = 0 }

abbrev pub is_empty : Outbound → Bool
is_empty outbound = length outbound.outbox.octets == 0

-- The time since when octets wait and none is accepted.
abbrev pub stalled_since : Outbound → Option ℕ
stalled_since outbound = if is_empty outbound then None else Some outbound.since

abbrev pub fits : Outbound → Octets → Bool
fits outbound octets =
    nat_le (length outbound.outbox.octets + length octets) outbound.outbox.limit

-- Octets that follow waiting ones do not change the time.
abbrev pub with_octets : Outbound → Octets → ℕ → Outbound
with_octets outbound octets now = record {
  outbox = record outbound.outbox { octets = outbound.outbox.octets ++ octets };
  since = if is_empty outbound then now else outbound.since;
}

abbrev pub after_accepted : Outbound → ℕ → ℕ → Outbound
after_accepted outbound count now = record {
  outbox = record outbound.outbox { octets = drop count outbound.outbox.octets };
  since = if count == 0 then outbound.since else now;
}
