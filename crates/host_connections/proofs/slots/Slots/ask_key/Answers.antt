use Rattle.std.proofs.Common.{◌<◌, length, refl, subst, sym}
use Rattle.host_connections.proofs.AtPlace.{changed_at, happened_at}
use Rattle.host_connections.proofs.Noted.{changed_noted}
use Rattle.host_connections.specs.SlotEffects.{after_key_asked}
use Rattle.host_connections.specs.SlotState.{SlotState}
use Rattle.host_connections.specs.Slots.{SlotStates}
use Rattle.le_security.specs.Keys.{key_asked_for}
use Rattle.host_connections.proofs.slots.Slots.ask_key.Goals as goal

pub invariant_of-self : goal.invariant_of-self
invariant_of-self c =
    let slots = c.self.inside.slots.items in
    let place = c.args.place in
    let within : place < length slots = subst (λ (it : SlotStates). place < length it) (sym c.self.view_is) c.requires in
    let change : SlotState → SlotState =
    λ slot_state. after_key_asked (key_asked_for c.args.keys.now slot_state.peer c.args.random_number c.args.diversifier) slot_state in (
      c.happen.ensures slots c.ask_key.new.self within c.self.invariant.0
          (happened_at slots place c.index_mut.result.now c.ask_key.new.self within c.index_mut.ensures.value change (λ slot_state is. is) c.ask_key.ensures)
          (λ none. cc none),
      λ other some. changed_noted slots c.self.inside.handles.noted place c.index_mut.result.now c.ask_key.new.self change within c.index_mut.ensures.value
          (λ slot_state. refl) c.ask_key.ensures (c.self.invariant.1 other some),
    )

pub returns : goal.returns
returns c =
    let slots = c.self.inside.slots.items in
    let within : c.args.place < length slots = subst (λ (it : SlotStates). c.args.place < length it) (sym c.self.view_is) c.requires in
    changed_at slots c.args.self.now c.self.view_is c.args.place c.index_mut.result.now within c.index_mut.ensures.value
    (λ slot_state. after_key_asked (key_asked_for c.args.keys.now slot_state.peer c.args.random_number c.args.diversifier) slot_state) c.ask_key.new.self
    c.ask_key.ensures
