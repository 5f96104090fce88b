use Rattle.std.proofs.Common.{◌≡◌, drop}
use Rattle.att_writes.specs.Sizes.{size_with}
use Rattle.att_writes.proofs.fault.size_with.Given as goal

-- the places that are left lead from here to the same length
abbrev pub invariant-loop-place : goal.invariant-loop-place
invariant-loop-place l = size_with l.handle l.size (drop l.place-index l.places) ≡ size_with l.handle l.len l.places
