use Rattle.std.proofs.Common.{arith}
use Rattle.std.proofs.lemmas.Grind.{common_steps}
use Rattle.le_hci.proofs.SentEvents.{is_read, result_is_sent}
use Rattle.le_hci.proofs.event.read_event.Goals as goal

pub returns-clause-exact : goal.returns-clause-exact
returns-clause-exact c = grind (arith, common_steps)

pub returns-clause-sent : goal.returns-clause-sent
returns-clause-sent c = result_is_sent _ c.type_inv.octets _ (returns-clause-exact c)

pub returns-clause-accepted : goal.returns-clause-accepted
returns-clause-accepted c = is_read c.args.octets.now
