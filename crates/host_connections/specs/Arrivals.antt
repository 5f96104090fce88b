-- The ordinals of connections, and when each was last heard (this profile's own).
use Rattle.std.specs.Prelude.{ℕ, ◌+◌, ◌-◌, ◌^◌, min, set, replicate}
use Rattle.host_api.specs.declared.TheConstants.{MAX_SLOTS}
use Rattle.host_connections.specs.declared.arrivals.Arrivals.{Arrivals}

-- The ordinal of one more connection, at most 2^64 - 1. (P-ALL-4)
abbrev pub counted_on : ℕ → ℕ
counted_on accepted = min (accepted + 1) (2 ^ 64 - 1)

abbrev pub no_arrivals : Arrivals
no_arrivals =
    record { accepted = 0; ordinals = replicate MAX_SLOTS 0; heard = replicate MAX_SLOTS 0 }

abbrev pub with_accepted : ℕ → ℕ → Arrivals → Arrivals
with_accepted place time arrivals = record {
  accepted = counted_on arrivals.accepted;
  ordinals = set arrivals.ordinals place (counted_on arrivals.accepted);
  heard = set arrivals.heard place time;
}

abbrev pub with_heard : ℕ → ℕ → Arrivals → Arrivals
with_heard place time arrivals = record arrivals { heard = set arrivals.heard place time }
