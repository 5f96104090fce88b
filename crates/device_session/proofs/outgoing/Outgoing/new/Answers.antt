use Rattle.device_session.proofs.Readers.{spares_readers}
use Rattle.device_session.proofs.outgoing.Outgoing.new.Goals as goal

pub returns-clause-spares : goal.returns-clause-spares
returns-clause-spares c = spares_readers
