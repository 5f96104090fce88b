use Rattle.std.proofs.Common.{Option, false, ap, sym, ◌∙◌}
use Rattle.std.specs.Option.{option_map_or}
use Rattle.host_connections.proofs.Covering.{read_at}
use Rattle.host_connections.proofs.Noted.{found_serving}
use Rattle.host_connections.specs.SlotState.{SlotState}
use Rattle.host_connections.specs.Slots.{SlotStates, place_serving}
use Rattle.host_connections.proofs.slots.Slots.find_serving.Goals as goal

pub returns-in-Some-clause-place : goal.returns-in-Some-clause-place
returns-in-Some-clause-place c =
    let slots = c.as_slice-slots.result.now in
    let place = c.in-Some.place in
    found_serving slots c.args.handle place c.in-Some.ensures.place
    (ap (λ (slot : Option SlotState). option_map_or (λ (slot_state : SlotState). slot_state.live) slot false)
    (read_at slots place c.index-slots-place.result c.in-Some.ensures.there.within c.index-slots-place.is)
    ∙ sym c.is_live.ensures ∙ c.if-is_live.true)
    ∙ ap (λ (it : SlotStates). place_serving it c.args.handle) (c.as_slice-slots.ensures.value ∙ c.self.view_is)
