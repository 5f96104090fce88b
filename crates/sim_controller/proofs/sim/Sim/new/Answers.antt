use Rattle.sim_controller.proofs.ReadWhole.{tells_what_is_read}
use Rattle.sim_controller.proofs.sim.Sim.new.Goals as goal

pub returns-clause-read : goal.returns-clause-read
returns-clause-read c = tells_what_is_read
