use Rattle.host_connections.proofs.Noted.{none_noted}
use Rattle.host_connections.proofs.handles.Handles.none.Goals as goal

pub returns : goal.returns
returns c = none_noted
