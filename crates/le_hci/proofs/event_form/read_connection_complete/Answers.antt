use Rattle.std.proofs.Common.{◌∙◌, sym, arith}
use Rattle.std.proofs.lemmas.Grind.{common_steps}
use Rattle.le_hci.proofs.Fields.{connection_is}
use Rattle.le_hci.proofs.event_form.read_connection_complete.Goals as goal

pub returns : goal.returns
returns c = grind (arith, common_steps) ∙ sym (connection_is c.args.parameters.now)
