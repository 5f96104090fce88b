-- What is sent where it is not known what is recorded.
use Rattle.std.proofs.Common.{None, [], refl}
use Rattle.device_loop.specs.Outside.{SendsAFront}
use Rattle.octet_io.specs.Number.{Octets}

pub sends_unknown : (octets : Octets) → SendsAFront octets None None
sends_unknown octets = record {
  sent = [];
  left = octets;
  parts = refl;
  records = tt;
}
