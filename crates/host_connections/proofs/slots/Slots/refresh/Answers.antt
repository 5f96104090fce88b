use Rattle.std.proofs.Common.{◌≡◌, ◌<◌, Option, length, subst, sym, ◌∙◌}
use Rattle.std.specs.Prelude.{IfSome}
use Rattle.gatt_laws.specs.machine.Effect.{gained_encryption}
use Rattle.host_connections.proofs.AtPlace.{changed_at, happened_at, linked_waits, there_at}
use Rattle.host_connections.proofs.Noted.{changed_noted, linked_handle}
use Rattle.host_connections.specs.SlotEffects.{after_link_step}
use Rattle.host_connections.specs.SlotState.{SlotState}
use Rattle.host_connections.specs.Slots.{SlotStates}
use Rattle.le_security.specs.Link.{Refresh, after_step}
use Rattle.host_connections.proofs.slots.Slots.refresh.Goals as goal

pub invariant_of-self : goal.invariant_of-self
invariant_of-self c =
    let slots = c.self.inside.slots.items in
    let place = c.args.place in
    let within : place < length slots = subst (λ (it : SlotStates). place < length it) (sym c.self.view_is) c.requires in
    let change : SlotState → SlotState = after_link_step (Refresh c.args.status) in (
      c.happen.ensures slots c.refresh-gained.new.self within c.self.invariant.0
          (happened_at slots place c.index_mut-slot.result.now c.refresh-gained.new.self within c.index_mut-slot.ensures.value change
          (linked_waits (Refresh c.args.status)) c.refresh-gained.ensures.after) (λ none. sym c.has_command-commanded.ensures ∙ none),
      λ other some. changed_noted slots c.self.inside.handles.noted place c.index_mut-slot.result.now c.refresh-gained.new.self change within
          c.index_mut-slot.ensures.value
          (linked_handle (Refresh c.args.status)) c.refresh-gained.ensures.after (c.self.invariant.1 other some),
    )

pub returns-clause-after : goal.returns-clause-after
returns-clause-after c =
    let slots = c.self.inside.slots.items in
    let within : c.args.place < length slots = subst (λ (it : SlotStates). c.args.place < length it) (sym c.self.view_is) c.requires in
    changed_at slots c.args.self.now c.self.view_is c.args.place c.index_mut-slot.result.now within c.index_mut-slot.ensures.value
    (after_link_step (Refresh c.args.status)) c.refresh-gained.new.self c.refresh-gained.ensures.after

pub returns-clause-gained : goal.returns-clause-gained
returns-clause-gained c =
    let slots = c.self.inside.slots.items in
    let within : c.args.place < length slots = subst (λ (it : SlotStates). c.args.place < length it) (sym c.self.view_is) c.requires in
    subst (λ (it : Option SlotState).
    IfSome it (λ slot_state. c.refresh-gained.result ≡ gained_encryption slot_state.link.key (after_step slot_state.link (Refresh c.args.status)).key))
    (there_at slots c.args.self.now c.self.view_is c.args.place c.index_mut-slot.result.now within c.index_mut-slot.ensures.value)
    c.refresh-gained.ensures.gained
