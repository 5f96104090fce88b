use Rattle.device_session.proofs.Tallying.{counts_each, logs_first_once}
use Rattle.device_session.proofs.refusals.Refusals.none.Goals as goal

pub returns-clause-once : goal.returns-clause-once
returns-clause-once c = logs_first_once

pub returns-clause-counts : goal.returns-clause-counts
returns-clause-counts c = counts_each
