use Rattle.std.proofs.Common.{List, Option, subst, sym}
use Rattle.gatt_host.proofs.model.PacketsAlone.{alone_still}
use Rattle.gatt_host.specs.contracts.server.Server.{the_view}
use Rattle.gatt_host.specs.ServerState.{ServerState, OwesPacketsAlone}
use Rattle.host_connections.specs.SlotState.{SlotState}
use Rattle.gatt_host.proofs.server.Server.next_packet.Goals as goal

pub returns-clause-packets : goal.returns-clause-packets
returns-clause-packets c =
    let server : ServerState = the_view c.self.inside in
    subst (λ (slots : List (Option SlotState)). OwesPacketsAlone (record server { slots = slots })) (sym c.packet_out.ensures.after)
    (alone_still server (subst OwesPacketsAlone (sym c.self.view_is) c.requires))
