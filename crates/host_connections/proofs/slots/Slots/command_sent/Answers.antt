use Rattle.std.proofs.Common.{◌≡◌, ◌<◌, Option, length, subst, sym, ap, ◌∙◌}
use Rattle.std.specs.Option.{option_map}
use Rattle.std.proofs.lemmas.Bool.{OnFalse_at}
use Rattle.host_connections.proofs.AtPlace.{changed_at, sent_goes_on, sent_listens, there_at}
use Rattle.host_connections.proofs.Noted.{changed_noted, sent_handle}
use Rattle.host_connections.specs.Commands.{slot_without_command}
use Rattle.host_connections.specs.SlotState.{SlotState}
use Rattle.host_connections.specs.Slots.{SlotStates, slot_state_at}
use Rattle.host_connections.proofs.slots.Slots.command_sent.Goals as goal

pub invariant_of-self : goal.invariant_of-self
invariant_of-self c =
    let slots = c.self.inside.slots.items in
    let place = c.args.place in
    let slot = c.index_mut-slot.result.now in
    let new = c.command_sent.new.self in
    let within : place < length slots = subst (λ (it : SlotStates). place < length it) (sym c.self.view_is) c.requires in
    let is : new ≡ option_map slot_without_command (slot_state_at slots place) =
    c.command_sent.ensures ∙ ap (λ (it : Option SlotState). option_map slot_without_command it)
    (there_at slots slots (λ i. slots) place slot within c.index_mut-slot.ensures.value) in (
      c.mark_giving.ensures slots new within c.self.invariant.0 (sent_goes_on (slot_state_at slots place) new is)
          (sent_listens (slot_state_at slots place) new is)
          (λ none. OnFalse_at none c.may_give-giving.ensures),
      λ other some. changed_noted slots c.self.inside.handles.noted place slot new slot_without_command within c.index_mut-slot.ensures.value sent_handle
          c.command_sent.ensures (c.self.invariant.1 other some),
    )

pub returns : goal.returns
returns c =
    let slots = c.self.inside.slots.items in
    let within : c.args.place < length slots = subst (λ (it : SlotStates). c.args.place < length it) (sym c.self.view_is) c.requires in
    changed_at slots c.args.self.now c.self.view_is c.args.place c.index_mut-slot.result.now within c.index_mut-slot.ensures.value slot_without_command
    c.command_sent.new.self c.command_sent.ensures
