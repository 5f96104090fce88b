use Rattle.std.proofs.Common.{◌≡◌, ◌-◌, ◌≤◌, ◌++◌, length, take, drop}
use Rattle.device_loop.specs.Withholding.{without_data_for}
use Rattle.device_loop.proofs.withholding.move_others.Given as goal

abbrev pub invariant-loop-size : goal.invariant-loop-size
invariant-loop-size l = record {
  so_far : take l.left l.octets ++ without_data_for l.connections (drop l.at l.octets) ≡ without_data_for l.connections l.fn.octets;
  behind : l.left ≤ l.at;
  within : l.at ≤ length l.octets;
  length : length l.octets ≡ length l.fn.octets;
}

abbrev pub decreases-loop-size : goal.decreases-loop-size
decreases-loop-size l = length l.octets - l.at
