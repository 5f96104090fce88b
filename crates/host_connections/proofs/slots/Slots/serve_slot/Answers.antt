use Rattle.std.proofs.Common.{◌≡◌, ◌<◌, Option, length, subst, sym}
use Rattle.std.specs.Prelude.{IfSome, IsSome}
use Rattle.std.proofs.lemmas.Bool.{OnFalse_at}
use Rattle.att_table.specs.ConfigRow.{IsRowOf}
use Rattle.host_connections.proofs.AtPlace.{changed_at, served_goes_on, there_at}
use Rattle.host_connections.proofs.Noted.{changed_noted, served_handle}
use Rattle.host_connections.specs.Hearing.{slot_row_in_force}
use Rattle.host_connections.specs.SlotState.{SlotState}
use Rattle.host_connections.specs.Places.{WaitsForNothingNew}
use Rattle.host_connections.specs.Request.{bond_served, confirmed_of, handles_written_by, overflows, slot_after_request, table_after}
use Rattle.host_connections.specs.Slots.{SlotStates}
use Rattle.gatt_subs.specs.Rows.{row_of, ChangesBond}
use Rattle.host_connections.proofs.slots.Slots.serve_slot.Goals as goal

pub serve_pdu-brought-requires-clause-there : goal.serve_pdu-brought-requires-clause-there
serve_pdu-brought-requires-clause-there c =
    let slots = c.self.inside.slots.items in
    let place = c.args.place in
    let within : place < length slots = subst (λ (it : SlotStates). place < length it) (sym c.self.view_is) c.requires.place in
    subst (λ (it : Option SlotState). IsSome it)
    (sym (there_at slots c.args.self.now c.self.view_is place c.index_mut-slot.result.now within c.index_mut-slot.ensures.value)) c.requires.there

pub serve_pdu-brought-requires-clause-row : goal.serve_pdu-brought-requires-clause-row
serve_pdu-brought-requires-clause-row c =
    let slots = c.self.inside.slots.items in
    let place = c.args.place in
    let within : place < length slots = subst (λ (it : SlotStates). place < length it) (sym c.self.view_is) c.requires.place in
    subst (λ (it : Option SlotState).
    IfSome it (λ slot_state. IsRowOf c.args.table.now.attributes (slot_row_in_force (row_of c.args.rows.now slot_state.peer) slot_state)))
    (sym (there_at slots c.args.self.now c.self.view_is place c.index_mut-slot.result.now within c.index_mut-slot.ensures.value)) c.requires.row

pub invariant_of-self : goal.invariant_of-self
invariant_of-self c =
    let slots = c.self.inside.slots.items in
    let place = c.args.place in
    let slot = c.index_mut-slot.result.now in
    let within : place < length slots = subst (λ (it : SlotStates). place < length it) (sym c.self.view_is) c.requires.place in (
      c.note_served.ensures slots c.serve_pdu-brought.new.self within c.self.invariant.0 (λ none.
          subst (λ (it : Option SlotState). WaitsForNothingNew it c.serve_pdu-brought.new.self)
          (there_at slots slots (λ i. slots) place slot within c.index_mut-slot.ensures.value)
          (subst (λ (it : Option SlotState). WaitsForNothingNew slot it) (sym c.serve_pdu-brought.ensures.after)
          (served_goes_on c.args.table.now c.args.now c.args.rows.now c.args.pdu.now slot c.serve_pdu-brought.result.ended
          c.serve_pdu-brought.ensures.ended none)))
          (λ none. OnFalse_at none c.is_below_share-giving.ensures),
      λ other some. changed_noted slots c.self.inside.handles.noted place slot c.serve_pdu-brought.new.self
          (λ (slot_state : SlotState). slot_after_request c.args.table.now c.args.now (row_of c.args.rows.now slot_state.peer) c.args.pdu.now slot_state) within
          c.index_mut-slot.ensures.value
          (λ slot_state. served_handle c.args.table.now c.args.now (row_of c.args.rows.now slot_state.peer) c.args.pdu.now slot_state)
          c.serve_pdu-brought.ensures.after (c.self.invariant.1 other some),
    )

pub returns-clause-after : goal.returns-clause-after
returns-clause-after c =
    let slots = c.self.inside.slots.items in
    let place = c.args.place in
    let within : place < length slots = subst (λ (it : SlotStates). place < length it) (sym c.self.view_is) c.requires.place in
    changed_at slots c.args.self.now c.self.view_is place c.index_mut-slot.result.now within c.index_mut-slot.ensures.value
    (λ (slot_state : SlotState). slot_after_request c.args.table.now c.args.now (row_of c.args.rows.now slot_state.peer) c.args.pdu.now slot_state)
    c.serve_pdu-brought.new.self c.serve_pdu-brought.ensures.after

pub returns-clause-table : goal.returns-clause-table
returns-clause-table c =
    let slots = c.self.inside.slots.items in
    let place = c.args.place in
    let within : place < length slots = subst (λ (it : SlotStates). place < length it) (sym c.self.view_is) c.requires.place in
    subst (λ (it : Option SlotState).
    IfSome it
    (λ slot_state. c.serve_pdu-brought.new.table ≡ table_after c.args.table.now c.args.now (row_of c.args.rows.now slot_state.peer) c.args.pdu.now slot_state))
    (there_at slots c.args.self.now c.self.view_is place c.index_mut-slot.result.now within c.index_mut-slot.ensures.value) c.serve_pdu-brought.ensures.table

pub returns-clause-bond : goal.returns-clause-bond
returns-clause-bond c =
    let slots = c.self.inside.slots.items in
    let place = c.args.place in
    let within : place < length slots = subst (λ (it : SlotStates). place < length it) (sym c.self.view_is) c.requires.place in
    subst (λ (it : Option SlotState). IfSome it (λ slot_state.
    ChangesBond (bond_served c.args.table.now c.args.now c.args.changer.now (row_of c.args.rows.now slot_state.peer) c.args.pdu.now slot_state) slot_state.peer
    c.args.rows.now c.serve_pdu-brought.new.rows))
    (there_at slots c.args.self.now c.self.view_is place c.index_mut-slot.result.now within c.index_mut-slot.ensures.value) c.serve_pdu-brought.ensures.bond

pub returns-clause-written : goal.returns-clause-written
returns-clause-written c =
    let slots = c.self.inside.slots.items in
    let place = c.args.place in
    let within : place < length slots = subst (λ (it : SlotStates). place < length it) (sym c.self.view_is) c.requires.place in
    subst (λ (it : Option SlotState).
    IfSome it
    (λ slot_state. c.serve_pdu-brought.new.written.items ≡ handles_written_by c.args.table.now c.args.now (row_of c.args.rows.now slot_state.peer)
    c.args.pdu.now
    slot_state))
    (there_at slots c.args.self.now c.self.view_is place c.index_mut-slot.result.now within c.index_mut-slot.ensures.value) c.serve_pdu-brought.ensures.written

pub returns-clause-ended : goal.returns-clause-ended
returns-clause-ended c =
    let slots = c.self.inside.slots.items in
    let place = c.args.place in
    let within : place < length slots = subst (λ (it : SlotStates). place < length it) (sym c.self.view_is) c.requires.place in
    subst (λ (it : Option SlotState). IfSome it (λ slot_state. c.serve_pdu-brought.result.ended ≡ overflows c.args.pdu.now slot_state))
    (there_at slots c.args.self.now c.self.view_is place c.index_mut-slot.result.now within c.index_mut-slot.ensures.value) c.serve_pdu-brought.ensures.ended

pub returns-clause-confirmed : goal.returns-clause-confirmed
returns-clause-confirmed c =
    let slots = c.self.inside.slots.items in
    let place = c.args.place in
    let within : place < length slots = subst (λ (it : SlotStates). place < length it) (sym c.self.view_is) c.requires.place in
    subst (λ (it : Option SlotState). IfSome it (λ slot_state. c.serve_pdu-brought.result.confirmed ≡ confirmed_of c.args.pdu.now slot_state))
    (there_at slots c.args.self.now c.self.view_is place c.index_mut-slot.result.now within c.index_mut-slot.ensures.value)
    c.serve_pdu-brought.ensures.confirmed
