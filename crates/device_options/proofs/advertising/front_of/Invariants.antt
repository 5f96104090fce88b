use Rattle.std.proofs.Common.{◌≤◌, length}
use Rattle.device_options.proofs.advertising.front_of.Given as goal

abbrev pub invariant-loop-front : goal.invariant-loop-front
invariant-loop-front l = l.front ≤ length l.name

abbrev pub decreases-loop-front : goal.decreases-loop-front
decreases-loop-front l = l.front
