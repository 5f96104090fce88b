use Rattle.device_session.proofs.pending.Pending.new.Goals as goal
use Rattle.device_session.proofs.Agreeing.{leaves_hosts_values}

pub returns-clause-values : goal.returns-clause-values
returns-clause-values c = leaves_hosts_values
