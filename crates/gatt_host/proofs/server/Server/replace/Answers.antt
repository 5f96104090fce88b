use Rattle.std.proofs.Common.{ap, ◌∙◌}
use Rattle.att_table.specs.Table.{Contents}
use Rattle.gatt_host.specs.contracts.server.Server.{the_view}
use Rattle.gatt_host.specs.ServerState.{ServerState}
use Rattle.host_connections.proofs.OfTable.{replaced_of_table}
use Rattle.gatt_host.proofs.server.Server.replace.Goals as goal

pub notify-requires-clause-handles : goal.notify-requires-clause-handles
notify-requires-clause-handles c =
    let old : ServerState = the_view c.self.inside in
    replaced_of_table old.table.attributes c.args.table c.set.new.self c.changer-self-inside.result old.rows c.keep.new.self c.owe_changes.new.self old.slots
    c.replace.new.self
    (c.set.ensures.attributes ∙ ap (λ (it : Contents). it.attributes) c.replace-old.ensures.after) c.replace.ensures c.keep.ensures.each
    c.owe_changes.ensures.each
