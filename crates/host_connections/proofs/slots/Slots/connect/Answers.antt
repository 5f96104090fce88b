use Rattle.std.proofs.Common.{◌≡◌, ℕ, ◌<◌, Bool, false, Option, Some, length, refl, set, subst, sym, ap, ◌∙◌}
use Rattle.host_connections.proofs.AtPlace.{left_at, there_at}
use Rattle.host_connections.proofs.Covering.{marked_still}
use Rattle.host_connections.specs.Places.{is_slot_due, IsMarked}
use Rattle.host_connections.specs.declared.places.Due.{Due}
use Rattle.host_connections.specs.declared.places.Due.TheVariants.{Command, Packet, Value, Indication}
use Rattle.le_hci.specs.declared.peer.Peer.{Peer}
use Rattle.host_connections.specs.SlotEffects.{new_slot_state}
use Rattle.host_connections.specs.SlotState.{SlotState}
use Rattle.host_connections.specs.Slots.{SlotStates, at_place}
use Rattle.host_connections.specs.Handles.{AreNoted}
use Rattle.host_connections.proofs.slots.Slots.connect.Goals as goal

idle : (handle : ℕ) (peer : Peer) (key_known : Bool) (rx_mtu share size : ℕ) (due : Due)
    → is_slot_due due (Some (new_slot_state handle peer key_known rx_mtu share size)) ≡ false
idle handle peer key_known rx_mtu share size Command = refl
idle handle peer key_known rx_mtu share size Packet = refl
idle handle peer key_known rx_mtu share size Value = refl
idle handle peer key_known rx_mtu share size Indication = refl

pub invariant_of-self : goal.invariant_of-self
invariant_of-self c =
    let slots = c.self.inside.slots.items in
    let place = c.args.place in
    let within : place < length slots = subst (λ (it : SlotStates). place < length it) (sym c.self.view_is) c.requires.place in
    let new : Option SlotState = Some (new_slot_state c.args.handle c.args.peer c.args.key_known c.args.rx_mtu c.args.share c.args.acl_len) in (
      subst (λ (it : Option SlotState). IsMarked (set slots place it) c.self.inside.marks) (sym c.connect.ensures)
          (marked_still slots place new c.self.inside.marks c.self.invariant.0
          (idle c.args.handle c.args.peer c.args.key_known c.args.rx_mtu c.args.share c.args.acl_len) refl),
      λ other some. subst (λ (it : SlotStates). AreNoted it c.note_all.new.self.noted) c.as_slice.ensures.value c.note_all.ensures,
    )

pub returns : goal.returns
returns c =
    let slots = c.self.inside.slots.items in
    let place = c.args.place in
    let slot = c.index_mut.result.now in
    let within : place < length slots = subst (λ (it : SlotStates). place < length it) (sym c.self.view_is) c.requires.place in
    let new : Option SlotState = Some (new_slot_state c.args.handle c.args.peer c.args.key_known c.args.rx_mtu c.args.share c.args.acl_len) in
    left_at slots place slot c.connect.new.self within (there_at slots slots (λ i. slots) place slot within c.index_mut.ensures.value) new c.connect.ensures
    ∙ ap (λ (it : SlotStates). at_place place (λ (slot : Option SlotState). new) it) c.self.view_is
