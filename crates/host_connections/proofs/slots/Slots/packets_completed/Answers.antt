use Rattle.std.proofs.Common.{◌≡◌, length, map, sym, subst, ap, ◌∙◌}
use Rattle.le_hci.specs.Event.{completed_packets_of}
use Rattle.host_connections.proofs.Noted.{written_over}
use Rattle.host_connections.specs.Handles.{AreNotedIfAny}
use Rattle.host_connections.specs.Places.{IsMarked}
use Rattle.host_connections.specs.Slots.{SlotStates, slots_after_entries}
use Rattle.host_connections.proofs.slots.Slots.packets_completed.Goals as goal

pub invariant_of-self : goal.invariant_of-self
invariant_of-self c =
    let old = c.self.inside.slots.items in
    let new = c.packets_completed.new.slots in
    let is : length c.as_mut_slice.result.now ≡ length old = ap (λ (it : SlotStates). length it) c.as_mut_slice.ensures.value in
    subst (λ (it : SlotStates). IsMarked it c.packets_completed.new.marks × AreNotedIfAny it c.self.inside.handles.noted)
    (sym (written_over c.self.inside.slots.len old new (c.packets_completed.auto.slots ∙ is) (sym is ∙ c.as_mut_slice.ensures.len)))
    (c.packets_completed.ensures.marked, c.packets_completed.ensures.noted)

pub returns : goal.returns
returns c =
    let old = c.self.inside.slots.items in
    let new = c.packets_completed.new.slots in
    let is : length c.as_mut_slice.result.now ≡ length old = ap (λ (it : SlotStates). length it) c.as_mut_slice.ensures.value in
    written_over c.self.inside.slots.len old new (c.packets_completed.auto.slots ∙ is) (sym is ∙ c.as_mut_slice.ensures.len)
    ∙ c.packets_completed.ensures.after
    ∙ ap (λ (it : SlotStates). slots_after_entries (map completed_packets_of c.args.entries.now) it) (c.as_mut_slice.ensures.value ∙ c.self.view_is)
