use Rattle.std.proofs.Common.{◌≡◌, List, [], Option, Some, ap, subst, sym, ◌∙◌}
use Rattle.std.specs.Prelude.{IfSome, IsSome}
use Rattle.att_numbers.specs.Types.{Handle}
use Rattle.gatt_host.specs.contracts.server.Server.{the_view}
use Rattle.gatt_host.specs.Meaning.{IsOfItsTable}
use Rattle.gatt_host.specs.ServerState.{ServerState, server_slot_at}
use Rattle.gatt_host.proofs.places.Places.{asked_then_heard, both_brought}
use Rattle.host_connections.specs.SlotState.{SlotState}
use Rattle.host_connections.proofs.OfTable.{of_table_if_any, row_at_of_table, served_of_table}
use Rattle.host_connections.specs.OfTable.{AreOfTable}
use Rattle.host_connections.specs.Skips.{all_skipped}
use Rattle.host_connections.specs.Slots.{SlotStates, all_heard, slot_state_at}
use Rattle.gatt_host.proofs.server.Server.serve_pdu.Goals as goal

pub returns : goal.returns
returns c =
    let old : ServerState = the_view c.self.inside in
    asked_then_heard old c.args.place c.args.pdu.now c.serve_slot-brought.new.table c.serve_slot-brought.new.rows c.serve_slot-brought.new.written.items
    c.handle-handle.result c.serve_slot-brought.result c.serve_slot-brought.new.self c.notify.new.self c.notify.new.skipped.items c.serve_slot-brought.ensures.after
    (c.notify.ensures.heard
    ∙ ap (λ (handles : List Handle). all_heard c.serve_slot-brought.new.table old.time c.serve_slot-brought.new.rows
    (Some c.args.place) [] handles
    c.serve_slot-brought.new.self) c.as_slice.ensures.value)
    (c.notify.ensures.skipped
    ∙ ap (λ (handles : List Handle). all_skipped c.serve_slot-brought.new.table old.time c.serve_slot-brought.new.rows (Some c.args.place) [] handles
    c.serve_slot-brought.new.self) c.as_slice.ensures.value)
    c.args.self.now c.self.view_is c.serve_slot-brought.ensures.table c.serve_slot-brought.ensures.bond c.serve_slot-brought.ensures.written
    (subst (λ (it : Option SlotState). IfSome it (λ slot_state. c.handle-handle.result ≡ slot_state.handle)) c.get.ensures c.handle-handle.ensures)
    (both_brought c.args.pdu.now c.serve_slot-brought.result (server_slot_at old c.args.place) c.serve_slot-brought.ensures.ended
    c.serve_slot-brought.ensures.confirmed)

pub serve_slot-brought-requires-clause-row : goal.serve_slot-brought-requires-clause-row
serve_slot-brought-requires-clause-row c =
    let old : ServerState = the_view c.self.inside in
    row_at_of_table old.table.attributes old.rows old.slots (subst (λ (server : ServerState). IsOfItsTable server) (sym c.self.view_is) c.requires.of_table)
    c.args.place

pub notify-requires-clause-handles : goal.notify-requires-clause-handles
notify-requires-clause-handles c =
    let old : ServerState = the_view c.self.inside in
    let there : IsSome (slot_state_at old.slots c.args.place) =
    subst (λ (server : ServerState). IsSome (slot_state_at server.slots c.args.place)) (sym c.self.view_is) c.requires.there in
    of_table_if_any c.as_slice.result.now c.serve_slot-brought.new.table.attributes c.serve_slot-brought.new.rows c.serve_slot-brought.new.self
    (subst (λ (slots : SlotStates). AreOfTable c.serve_slot-brought.new.table.attributes c.serve_slot-brought.new.rows slots)
    (sym c.serve_slot-brought.ensures.after)
    (served_of_table old.table c.serve_slot-brought.new.table old.time old.changer c.args.pdu.now old.rows c.serve_slot-brought.new.rows old.slots c.args.place
    (subst (λ (server : ServerState). IsOfItsTable server) (sym c.self.view_is) c.requires.of_table) there c.serve_slot-brought.ensures.table
    c.serve_slot-brought.ensures.bond))
