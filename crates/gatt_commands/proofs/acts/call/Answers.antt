use Rattle.std.proofs.Common.{ℕ, Some, sym, ap, ◌∙◌}
use Rattle.gatt_host.specs.Calls.{call_of}
use Rattle.gatt_commands.proofs.Doing.{called, told_of}
use Rattle.gatt_commands.specs.declared.refused.Refused.TheVariants.{Call}
use Rattle.gatt_commands.proofs.acts.call.Goals as goal

pub returns-in-Ok-clause-calls : goal.returns-in-Ok-clause-calls
returns-in-Ok-clause-calls c =
    called (call_of c.args.call) _ c.app.result c.args.host.now c.app.new.self (sym (ap told_of c.in-Ok.is))
    c.app.ensures.takes c.app.ensures.refused c.app.ensures.stopped c.app.ensures.unchanged

pub returns-in-Err-clause-calls : goal.returns-in-Err-clause-calls
returns-in-Err-clause-calls c =
    called (call_of c.args.call) _ c.app.result c.args.host.now c.app.new.self
    (ap (λ (number : ℕ). Some (Call number)) c.number.ensures ∙ sym (ap told_of c.in-Err.is))
    c.app.ensures.takes c.app.ensures.refused c.app.ensures.stopped c.app.ensures.unchanged
