use Rattle.device_session.proofs.Exchanges.{continues_lines}
use Rattle.device_session.proofs.asking.Asking.nothing.Goals as goal

pub returns-clause-continues : goal.returns-clause-continues
returns-clause-continues c = continues_lines
