use Rattle.std.proofs.Common.{◌<◌, Option, None, length, set, subst, sym, ap, ◌∙◌}
use Rattle.host_connections.proofs.AtPlace.{left_at, there_at}
use Rattle.host_connections.specs.Handles.{AreNoted}
use Rattle.host_connections.specs.Places.{IsMarked}
use Rattle.host_connections.specs.SlotState.{SlotState}
use Rattle.host_connections.specs.Slots.{SlotStates, at_place}
use Rattle.host_connections.proofs.slots.Slots.free.Goals as goal

pub invariant_of-self : goal.invariant_of-self
invariant_of-self c =
    let slots = c.self.inside.slots.items in
    let place = c.args.place in (
      subst (λ (it : Option SlotState). IsMarked (set slots place it) c.leave.new.self) (sym c.free.ensures) (c.leave.ensures slots place c.self.invariant.0),
      λ other some. subst (λ (it : SlotStates). AreNoted it c.note_all.new.self.noted) c.as_slice.ensures.value c.note_all.ensures,
    )

pub returns : goal.returns
returns c =
    let slots = c.self.inside.slots.items in
    let place = c.args.place in
    let slot = c.index_mut.result.now in
    let within : place < length slots = subst (λ (it : SlotStates). place < length it) (sym c.self.view_is) c.requires in
    left_at slots place slot c.free.new.self within (there_at slots slots (λ i. slots) place slot within c.index_mut.ensures.value) None c.free.ensures
    ∙ ap (λ (it : SlotStates). at_place place (λ (slot : Option SlotState). None) it) c.self.view_is
