use Rattle.std.proofs.Common.{List, subst, sym}
use Rattle.att_attributes.specs.declared.attr.Attr.{Attr}
use Rattle.gatt_host.specs.contracts.server.Server.{the_view}
use Rattle.gatt_host.specs.Meaning.{IsOfItsTable}
use Rattle.gatt_host.specs.ServerState.{ServerState}
use Rattle.host_connections.specs.OfTable.{AreOfTable}
use Rattle.gatt_host.proofs.server.Server.update.Goals as goal

pub notify-requires-clause-handles : goal.notify-requires-clause-handles
notify-requires-clause-handles c =
    let old : ServerState = the_view c.self.inside in
    subst (λ (attributes : List Attr). AreOfTable attributes old.rows old.slots) (sym c.set.ensures.attributes)
    (subst (λ (server : ServerState). IsOfItsTable server) (sym c.self.view_is) c.requires.of_table)
