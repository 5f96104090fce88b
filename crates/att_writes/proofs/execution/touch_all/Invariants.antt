use Rattle.std.proofs.Common.{◌≡◌, ◌≤◌, length}
use Rattle.att_writes.specs.Queue.{once_each}
use Rattle.att_writes.proofs.Touched.{with_new, handles_left}
use Rattle.att_writes.proofs.execution.touch_all.Given as goal

-- what is touched, and what is left, lead to the same handles
abbrev pub invariant-loop-place : goal.invariant-loop-place
invariant-loop-place l = record {
  few : length l.touched.items ≤ l.place-index;
  same : with_new l.touched.items (handles_left l.places l.place-index) ≡ once_each (handles_left l.places 0);
}
