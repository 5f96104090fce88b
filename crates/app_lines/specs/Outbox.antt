-- The output that waits to be sent (this profile's own).
use Rattle.std.specs.Prelude.{ℕ}
use Rattle.octet_io.specs.Number.{Octets}

-- The queued octets, oldest first, and their limit.
pub record Waiting : Type 0 where
  pub octets : Octets
  pub limit : ℕ
