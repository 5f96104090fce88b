use Rattle.att_attributes.proofs.Groups.{IsFound}
use Rattle.att_attributes.proofs.group.group_ends.Given as goal

abbrev pub invariant-loop-place : goal.invariant-loop-place
invariant-loop-place l = IsFound l.attributes l.ends.items l.place l.service_end l.innermost_end
