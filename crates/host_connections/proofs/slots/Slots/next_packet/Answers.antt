use Rattle.std.proofs.Common.{◌≡◌, ◌<◌, Option, Some, length, subst, sym, ap, ◌∙◌}
use Rattle.std.specs.Bool.{OnTrue}
use Rattle.std.specs.Option.{option_and_then}
use Rattle.std.proofs.lemmas.Bool.{OnFalse_at, OnFalse_from, OnTrue_at, OnTrue_from}
use Rattle.host_connections.proofs.AtPlace.{changed_at, given_goes_on, given_listens, kept_at, there_at}
use Rattle.host_connections.proofs.Noted.{given_noted, noted_still}
use Rattle.host_connections.specs.Commands.{gives, slot_packet, slot_without_packet}
use Rattle.host_connections.specs.Handles.{noted_of}
use Rattle.host_connections.specs.SlotState.{SlotState}
use Rattle.host_connections.specs.Places.{may_listen, WaitsForNothingNew}
use Rattle.host_connections.specs.Slots.{SlotStates}
use Rattle.host_connections.proofs.slots.Slots.next_packet.Goals as goal

pub returns-clause-after : goal.returns-clause-after
returns-clause-after c =
    let slots = c.self.inside.slots.items in
    let within : c.args.place < length slots = subst (λ (it : SlotStates). c.args.place < length it) (sym c.self.view_is) c.requires in
    OnTrue_from _ _ (λ gives.
    changed_at slots c.args.self.now c.self.view_is c.args.place c.index_mut-slot.result.now within c.index_mut-slot.ensures.value
    slot_without_packet c.next_packet-given.new.self (OnTrue_at gives c.next_packet-given.ensures.after))

pub invariant_of-self : goal.invariant_of-self
invariant_of-self c =
    let slots = c.self.inside.slots.items in
    let place = c.args.place in
    let slot = c.index_mut-slot.result.now in
    let within : place < length slots = subst (λ (it : SlotStates). place < length it) (sym c.self.view_is) c.requires in
    let there = there_at slots slots (λ i. slots) place slot within c.index_mut-slot.ensures.value in
    let goes =
    given_goes_on slot c.next_packet-given.new.self c.next_packet-given.result c.next_packet-given.ensures.after c.next_packet-given.ensures.unchanged in (
      c.mark_giving.ensures slots c.next_packet-given.new.self within c.self.invariant.0
          (subst (λ (it : Option SlotState). WaitsForNothingNew it c.next_packet-given.new.self) there goes)
          (λ listens. sym (ap may_listen there) ∙ given_listens slot c.next_packet-given.new.self c.next_packet-given.result c.next_packet-given.ensures.after
          c.next_packet-given.ensures.unchanged listens)
          (λ none. OnFalse_at none c.may_give-giving.ensures),
      λ other some. noted_still slots c.self.inside.handles.noted (c.self.invariant.1 other some) place c.next_packet-given.new.self within
          (given_noted slot c.next_packet-given.new.self c.next_packet-given.result c.next_packet-given.ensures.after c.next_packet-given.ensures.unchanged
          ∙ ap noted_of there),
    )

pub returns-clause-gives : goal.returns-clause-gives
returns-clause-gives c =
    let slots = c.self.inside.slots.items in
    let within : c.args.place < length slots = subst (λ (it : SlotStates). c.args.place < length it) (sym c.self.view_is) c.requires in
    c.next_packet-given.ensures.gives
    ∙ ap gives (there_at slots c.args.self.now c.self.view_is c.args.place c.index_mut-slot.result.now within c.index_mut-slot.ensures.value)

pub returns-clause-packet : goal.returns-clause-packet
returns-clause-packet c =
    let slots = c.self.inside.slots.items in
    let within : c.args.place < length slots = subst (λ (it : SlotStates). c.args.place < length it) (sym c.self.view_is) c.requires in
    subst (λ (it : Option SlotState). OnTrue c.next_packet-given.result (option_and_then slot_packet it ≡ Some c.next_packet-given.new.out))
    (there_at slots c.args.self.now c.self.view_is c.args.place c.index_mut-slot.result.now within c.index_mut-slot.ensures.value)
    c.next_packet-given.ensures.packet

pub returns-clause-unchanged : goal.returns-clause-unchanged
returns-clause-unchanged c =
    let slots = c.self.inside.slots.items in
    let within : c.args.place < length slots = subst (λ (it : SlotStates). c.args.place < length it) (sym c.self.view_is) c.requires in
    OnFalse_from _ _ (λ none.
    kept_at slots c.args.self.now c.self.view_is c.args.place c.index_mut-slot.result.now within c.index_mut-slot.ensures.value
    c.next_packet-given.new.self (OnFalse_at none c.next_packet-given.ensures.unchanged))
