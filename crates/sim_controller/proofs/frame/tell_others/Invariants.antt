use Rattle.std.proofs.Common.{◌≡◌, ◌+◌, ◌≤◌, ◌++◌, length}
use Rattle.sim_controller.specs.declared.waiting.TheConstants.{MAX_PACKETS}
use Rattle.sim_controller.specs.Frames.{told_others}
use Rattle.sim_controller.proofs.frame.tell_others.Given as goal

-- what waits, and what is left, lead to the same packets, and there is room for them
abbrev pub invariant-loop-left : goal.invariant-loop-left
invariant-loop-left l = record {
  told : l.waiting.items ++ told_others l.phone l.cut l.left ≡ l.fn.waiting.items ++ told_others l.phone l.cut l.fn.octets;
  room : length l.waiting.items + length (told_others l.phone l.cut l.left) ≤ MAX_PACKETS;
  capacity : l.waiting.capacity ≡ MAX_PACKETS;
}

-- each round takes some of what is left
abbrev pub decreases-loop-left : goal.decreases-loop-left
decreases-loop-left l = length l.left
