use Rattle.device_loop.proofs.Changes.{holds_who_has_changed}
use Rattle.device_loop.proofs.unsaved.Unsaved.has.Goals as goal

pub returns-clause-who : goal.returns-clause-who
returns-clause-who c = holds_who_has_changed
