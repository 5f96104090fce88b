use Rattle.device_session.proofs.Waiting.{is_heard_in_time}
use Rattle.device_session.proofs.askers.Askers.new.Goals as goal

pub returns-clause-in_time : goal.returns-clause-in_time
returns-clause-in_time c = is_heard_in_time
