use Rattle.std.proofs.Common.{ℕ, Some, sym, ap, ◌∙◌}
use Rattle.att_table.specs.Table.{Contents}
use Rattle.gatt_commands.proofs.Doing.{replaced, told_by}
use Rattle.gatt_commands.specs.declared.refused.Refused.TheVariants.{Call}
use Rattle.gatt_commands.proofs.acts.replace.Goals as goal

pub returns-in-Ok-clause-replaces : goal.returns-in-Ok-clause-replaces
returns-in-Ok-clause-replaces c =
    replaced c.args.next.now c.in_ok-table.table _ c.replace.result c.args.host.now c.replace.new.self _
    (cc (c.take.ensures.value, c.in_ok-table.was)) (sym (ap told_by c.in-Ok.is))
    c.replace.ensures.takes c.replace.ensures.refused c.replace.ensures.stopped c.replace.ensures.unchanged
    (ap (λ (table : Contents). Some table) c.in-Ok.ensures.given)

pub returns-in-Err-clause-replaces : goal.returns-in-Err-clause-replaces
returns-in-Err-clause-replaces c =
    replaced c.args.next.now c.in_ok-table.table _ c.replace.result c.args.host.now c.replace.new.self _
    (cc (c.take.ensures.value, c.in_ok-table.was))
    (ap (λ (number : ℕ). Some (Call number)) c.number.ensures ∙ sym (ap told_by c.in-Err.is))
    c.replace.ensures.takes c.replace.ensures.refused c.replace.ensures.stopped c.replace.ensures.unchanged
    (ap (λ (table : Contents). Some table) c.in-Err.ensures.given_back)
