use Rattle.device_session.proofs.Lines.{takes_each_line_once}
use Rattle.device_session.proofs.incoming.Incoming.new.Goals as goal

pub returns-clause-lines : goal.returns-clause-lines
returns-clause-lines c = takes_each_line_once
