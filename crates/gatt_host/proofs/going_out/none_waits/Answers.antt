use Rattle.std.proofs.Common.{ap, sym, ◌∙◌}
use Rattle.std.specs.Prelude.{◌&&◌, not, is_none}
use Rattle.std.specs.List.{list_any}
use Rattle.gatt_host.proofs.owing.Nexts.{no_command_next}
use Rattle.host_connections.specs.Commands.{gives}
use Rattle.gatt_host.proofs.going_out.none_waits.Goals as goal

pub returns : goal.returns
returns c =
    ap not c.gives.ensures
    ∙ sym (ap (λ due. is_none due && not (list_any gives c.args.slots.now))
    (no_command_next c.args.controller.now c.args.slots.now c.has_command.result c.has_command.ensures c.if-has_command.false))
