use Rattle.std.proofs.Common.{◌≡◌, length}
use Rattle.gatt_commands.proofs.Telling.{HasTold}
use Rattle.gatt_commands.proofs.outcome.print_phone.Given as goal
use Rattle.sim_controller.specs.Simulated.{phone_at}

-- what is told so far, and what waits for the host stays
abbrev pub invariant-loop-frame : goal.invariant-loop-frame
invariant-loop-frame g l = record {
  told : HasTold l.fn.name l.fn.phone l.fn.sim l.sim (g.W.Write.contents l.fn.writer) (g.W.Write.contents l.writer);
  waiting : l.sim.waiting ≡ l.fn.sim.waiting;
}

abbrev pub decreases-loop-frame : goal.decreases-loop-frame
decreases-loop-frame g l = length (phone_at l.sim l.fn.phone).heard
