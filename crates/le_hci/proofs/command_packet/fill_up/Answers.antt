use Rattle.std.proofs.Common.{◌∙◌, ap, ◌++◌}
use Rattle.le_hci.proofs.Filling.{rest_of_zeros}
use Rattle.le_hci.specs.declared.command.TheConstants.{MAX_ADVERTISING_DATA}
use Rattle.le_hci.proofs.command_packet.fill_up.Goals as goal

pub returns : goal.returns
returns c = c.append.ensures ∙ ap (λ zeros. c.args.out.now.items ++ zeros) (rest_of_zeros MAX_ADVERTISING_DATA c.args.length)
