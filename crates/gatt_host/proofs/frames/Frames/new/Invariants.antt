use Rattle.std.proofs.Common.{◌≡◌}
use Rattle.std.specs.Prelude.{replicate}
use Rattle.gatt_host.proofs.frames.Frames.new.Given as goal
use Rattle.le_acl.specs.Reassembler.{no_assembly}

-- as many frames as were made
abbrev pub invariant-loop : goal.invariant-loop
invariant-loop l = l.assembled.items ≡ replicate l.counter no_assembly
