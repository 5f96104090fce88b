use Rattle.std.proofs.Common.{◌≡◌, Option, length, map, refl, sym, subst, ap, ◌∙◌}
use Rattle.std.specs.Option.{option_map}
use Rattle.std.proofs.lemmas.List.{length-map}
use Rattle.host_connections.proofs.Covering.{time_marked}
use Rattle.host_connections.proofs.Noted.{each_noted, written_over}
use Rattle.host_connections.specs.Handles.{AreNotedIfAny}
use Rattle.host_connections.specs.SlotState.{SlotState}
use Rattle.host_connections.specs.Places.{IsMarked}
use Rattle.host_connections.specs.Slots.{SlotStates}
use Rattle.host_connections.specs.SlotEffects.{after_time}
use Rattle.host_connections.proofs.slots.Slots.tick.Goals as goal

pub invariant_of-self : goal.invariant_of-self
invariant_of-self c =
    let slots = c.self.inside.slots.items in
    let noted = c.self.inside.handles.noted in
    let others = c.tick_all.new.slots in
    let change : SlotState → SlotState = (after_time c.args.now) in
    let changed : others ≡ map (λ (slot : Option SlotState). option_map change slot) slots =
    c.tick_all.ensures.after ∙ ap (λ (it : SlotStates). map (λ (slot : Option SlotState). option_map change slot) it) c.as_mut_slice.ensures.value in
    let count : length others ≡ length slots =
    ap (λ (it : SlotStates). length it) changed ∙ length-map slots (λ (slot : Option SlotState). option_map change slot) in
    subst (λ (it : SlotStates). IsMarked it c.self.inside.marks × AreNotedIfAny it noted)
    (sym (written_over c.self.inside.slots.len slots others count
    (ap (λ (it : SlotStates). length it) (sym c.as_mut_slice.ensures.value) ∙ c.as_mut_slice.ensures.len))) (
      subst (λ (it : SlotStates). IsMarked it c.self.inside.marks) (sym changed) (time_marked c.args.now slots c.self.inside.marks c.self.invariant.0),
      λ other some. each_noted slots others noted change (λ slot_state. refl) changed (c.self.invariant.1 other some),
    )
