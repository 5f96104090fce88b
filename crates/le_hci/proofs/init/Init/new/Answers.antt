use Rattle.le_hci.proofs.CommandsInOrder.{in_order}
use Rattle.le_hci.proofs.KnownBuffers.{knows_usable}
use Rattle.le_hci.proofs.init.Init.new.Goals as goal

pub returns-clause-in_order : goal.returns-clause-in_order
returns-clause-in_order c = in_order c.args.address c.args.advertising

pub returns-clause-usable : goal.returns-clause-usable
returns-clause-usable c = knows_usable c.args.address c.args.advertising
