use Rattle.host_connections.specs.Places.{Covers}
use Rattle.host_connections.proofs.places.first_due.Given as goal

abbrev pub invariant-loop-place : goal.invariant-loop-place
invariant-loop-place l = Covers l.due l.places.bits l.slots

abbrev pub decreases-loop-place : goal.decreases-loop-place
decreases-loop-place l = l.places.bits
