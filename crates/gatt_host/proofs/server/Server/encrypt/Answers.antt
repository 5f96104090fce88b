use Rattle.std.proofs.Common.{◌<◌, length, subst, sym}
use Rattle.gatt_host.specs.contracts.server.Server.{the_view}
use Rattle.gatt_host.specs.Meaning.{IsOfItsTable}
use Rattle.gatt_host.specs.ServerState.{ServerState}
use Rattle.host_connections.proofs.OfTable.{linked_at_of_table}
use Rattle.le_security.specs.Link.{Encryption}
use Rattle.gatt_host.proofs.server.Server.encrypt.Goals as goal

pub end_link_event-requires-clause-of_table : goal.end_link_event-requires-clause-of_table
end_link_event-requires-clause-of_table c =
    let old : ServerState = the_view c.self.inside in
    let within : c.args.place < length old.slots = subst (λ (it : ServerState). c.args.place < length it.slots) (sym c.self.view_is) c.requires.place in
    linked_at_of_table old.table.attributes old.rows old.slots c.encrypt-gained.new.self c.args.place (Encryption c.args.status c.args.enabled) within
    c.encrypt-gained.ensures.after
    (subst (λ (server : ServerState). IsOfItsTable server) (sym c.self.view_is) c.requires.of_table)
