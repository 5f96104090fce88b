use Rattle.std.proofs.Common.{◌<◌}
use Rattle.device_io.specs.declared.log.TheConstants.{LONGEST}
use Rattle.device_io.proofs.log.front_of.Given as goal

abbrev pub invariant-loop-byte : goal.invariant-loop-byte
invariant-loop-byte l = l.end < LONGEST
