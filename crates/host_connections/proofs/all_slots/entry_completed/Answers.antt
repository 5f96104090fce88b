use Rattle.std.proofs.Common.{◌≡◌, get_or, Option, refl, ap, ◌∙◌}
use Rattle.std.specs.Option.{option_map, option_map_or}
use Rattle.std.proofs.lemmas.Bool.{OnFalse_at}
use Rattle.host_connections.proofs.AtPlace.{changed_at, completed_goes_on, completed_listens, there_at}
use Rattle.host_connections.proofs.Noted.{changed_noted}
use Rattle.host_connections.specs.SlotEffects.{slot_after_packets_completed}
use Rattle.host_connections.specs.SlotState.{SlotState}
use Rattle.host_connections.specs.Slots.{slot_state_at, slots_at}
use Rattle.host_connections.proofs.all_slots.entry_completed.Goals as goal

pub returns-in-Some-clause-after : goal.returns-in-Some-clause-after
returns-in-Some-clause-after c =
    let slots = c.args.slots.now in
    let place = c.in-Some.place in
    let change : SlotState → SlotState = slot_after_packets_completed c.args.entry.now.packets in
    changed_at slots slots (λ i. slots) place (get_or slots place c.index-slots-place.result) c.in-Some.ensures.there.within
    (ap (λ it. get_or slots place it) c.index-slots-place.is) change c.packets_completed.new.self c.packets_completed.ensures
    ∙ ap (λ found. option_map_or (λ place. slots_at place change slots) found slots) c.in-Some.ensures.place

pub returns-in-Some-clause-marked : goal.returns-in-Some-clause-marked
returns-in-Some-clause-marked c =
    let slots = c.args.slots.now in
    let place = c.in-Some.place in
    let within = c.in-Some.ensures.there.within in
    let count = c.args.entry.now.packets in
    let new = c.packets_completed.new.self in
    let is : new ≡ option_map (slot_after_packets_completed count) (slot_state_at slots place) =
    c.packets_completed.ensures ∙ ap (λ (it : Option SlotState). option_map (slot_after_packets_completed count) it)
    (there_at slots slots (λ i. slots) place (get_or slots place c.index-slots-place.result) within (ap (λ it. get_or slots place it) c.index-slots-place.is))
    in
    c.mark_giving.ensures slots new within c.requires.marked
    (completed_goes_on count (slot_state_at slots place) new is) (completed_listens count (slot_state_at slots place) new is)
    (λ none. OnFalse_at none c.may_give-giving.ensures)

pub returns-in-Some-clause-noted : goal.returns-in-Some-clause-noted
returns-in-Some-clause-noted c = λ other some.
    let slots = c.args.slots.now in
    let place = c.in-Some.place in
    changed_noted slots c.args.handles.now.noted place (get_or slots place c.index-slots-place.result) c.packets_completed.new.self
    (slot_after_packets_completed c.args.entry.now.packets) c.in-Some.ensures.there.within (ap (λ it. get_or slots place it) c.index-slots-place.is)
    (λ slot_state. refl) c.packets_completed.ensures (c.requires.noted other some)
