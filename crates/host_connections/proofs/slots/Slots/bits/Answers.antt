use Rattle.std.proofs.Common.{◌≤◌, ◌<◌, [], Option, length, sym, ap, ◌∙◌}
use Rattle.std.specs.Option.{option_map_or}
use Rattle.std.proofs.lemmas.Bool.{ltb-true, ltb-false}
use Rattle.att_table.specs.ConfigRow.{bits_at}
use Rattle.host_connections.proofs.AtPlace.{there_at}
use Rattle.host_connections.proofs.Found.{past}
use Rattle.host_connections.specs.Hearing.{slot_row_in_force}
use Rattle.host_connections.specs.SlotState.{SlotState}
use Rattle.host_connections.specs.Slots.{SlotStates, slot_row_at}
use Rattle.gatt_subs.specs.Rows.{row_of}
use Rattle.host_connections.proofs.slots.Slots.bits.Goals as goal

pub returns-in-Some : goal.returns-in-Some
returns-in-Some c =
    let a = c.args in
    let slots = c.deref.result.now in
    let within : a.place < length slots = ltb-true a.place (length slots) (sym c.in-Some.ensures.lookup.0) in
    c.bits.ensures
    ∙ ap (λ (it : Option SlotState).
    bits_at (option_map_or (λ (slot_state : SlotState). slot_row_in_force (row_of a.rows.now slot_state.peer) slot_state) it []) a.handle)
    (there_at slots a.self.now (c.deref.ensures.value ∙ c.self.view_is) a.place c.in-Some.slot.now within c.in-Some.ensures.lookup.1)

pub returns-in-None : goal.returns-in-None
returns-in-None c =
    let a = c.args in
    let slots = c.deref.result.now in
    let beyond : length slots ≤ a.place = ltb-false a.place (length slots) (sym c.in-None.ensures.lookup.0) in
    ap (λ (it : Option SlotState). bits_at (option_map_or (λ (slot_state : SlotState). slot_row_in_force (row_of a.rows.now slot_state.peer) slot_state) it [])
    a.handle) (sym (past slots a.place beyond))
    ∙ ap (λ (it : SlotStates). bits_at (slot_row_at it a.rows.now a.place) a.handle) (c.deref.ensures.value ∙ c.self.view_is)
