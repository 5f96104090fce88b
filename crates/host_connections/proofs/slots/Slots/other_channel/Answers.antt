use Rattle.std.proofs.Common.{◌≡◌, ◌<◌, Option, length, subst, sym, ◌∙◌}
use Rattle.std.specs.Prelude.{IfSome}
use Rattle.gatt_laws.specs.machine.Effect.{channel_answer}
use Rattle.host_connections.proofs.AtPlace.{changed_at, happened_at, other_channel_waits, there_at}
use Rattle.host_connections.proofs.Noted.{changed_noted, other_channel_handle}
use Rattle.host_connections.specs.SlotEffects.{has_no_room, slot_after_other_channel}
use Rattle.host_connections.specs.SlotState.{SlotState}
use Rattle.host_connections.specs.Slots.{SlotStates}
use Rattle.host_connections.proofs.slots.Slots.other_channel.Goals as goal

pub invariant_of-self : goal.invariant_of-self
invariant_of-self c =
    let slots = c.self.inside.slots.items in
    let place = c.args.place in
    let within : place < length slots = subst (λ (it : SlotStates). place < length it) (sym c.self.view_is) c.requires in
    let change : SlotState → SlotState = slot_after_other_channel c.args.channel c.args.payload.now in (
      c.happen.ensures slots c.other_channel-ended.new.self within c.self.invariant.0
          (happened_at slots place c.index_mut-slot.result.now c.other_channel-ended.new.self within c.index_mut-slot.ensures.value change
          (other_channel_waits c.args.channel c.args.payload.now) c.other_channel-ended.ensures.after) (λ none. sym c.has_command-commanded.ensures ∙ none),
      λ other some. changed_noted slots c.self.inside.handles.noted place c.index_mut-slot.result.now c.other_channel-ended.new.self change within
          c.index_mut-slot.ensures.value
          (other_channel_handle c.args.channel c.args.payload.now) c.other_channel-ended.ensures.after (c.self.invariant.1 other some),
    )

pub returns-clause-after : goal.returns-clause-after
returns-clause-after c =
    let slots = c.self.inside.slots.items in
    let within : c.args.place < length slots = subst (λ (it : SlotStates). c.args.place < length it) (sym c.self.view_is) c.requires in
    changed_at slots c.args.self.now c.self.view_is c.args.place c.index_mut-slot.result.now within c.index_mut-slot.ensures.value
    (slot_after_other_channel c.args.channel c.args.payload.now) c.other_channel-ended.new.self c.other_channel-ended.ensures.after

pub returns-clause-ended : goal.returns-clause-ended
returns-clause-ended c =
    let slots = c.self.inside.slots.items in
    let within : c.args.place < length slots = subst (λ (it : SlotStates). c.args.place < length it) (sym c.self.view_is) c.requires in
    subst (λ (it : Option SlotState).
    IfSome it (λ slot_state. c.other_channel-ended.result ≡ has_no_room (channel_answer c.args.channel c.args.payload.now) slot_state))
    (there_at slots c.args.self.now c.self.view_is c.args.place c.index_mut-slot.result.now within c.index_mut-slot.ensures.value)
    c.other_channel-ended.ensures.ended
