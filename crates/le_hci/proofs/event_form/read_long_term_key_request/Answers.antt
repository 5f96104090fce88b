use Rattle.std.proofs.Common.{◌∙◌, sym, arith}
use Rattle.std.proofs.lemmas.Grind.{common_steps}
use Rattle.le_hci.proofs.Fields.{request_is}
use Rattle.le_hci.proofs.event_form.read_long_term_key_request.Goals as goal

pub returns : goal.returns
returns c = grind (arith, common_steps) ∙ sym (request_is c.args.parameters.now)
