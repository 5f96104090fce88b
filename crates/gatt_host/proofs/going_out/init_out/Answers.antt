use Rattle.std.proofs.Common.{sym, ◌∙◌}
use Rattle.gatt_host.proofs.owing.Nexts.{init_then}
use Rattle.gatt_host.proofs.going_out.init_out.Goals as goal

pub returns-clause-controller : goal.returns-clause-controller
returns-clause-controller c =
    init_then c.args.controller.now c.init_command_out.new.self c.init_command_out.result (sym c.takes.ensures ∙ c.if-not-takes.false)
    c.init_command_out.ensures.some c.init_command_out.ensures.after c.init_command_out.ensures.unchanged
