use Rattle.std.proofs.Common.{◌+◌, ◌*◌, length}
use Rattle.le_h4.proofs.SoFar.{SoFar}
use Rattle.le_h4.proofs.deframer.gather_by_parts.Given as goal

abbrev pub invariant-packets : goal.invariant-packets
invariant-packets l = SoFar l.fn.skipping l.fn.gathered l.octets l.skipping l.gathered l.rest

abbrev pub decreases-packets : goal.decreases-packets
decreases-packets l = 2 * length l.rest + length l.gathered
