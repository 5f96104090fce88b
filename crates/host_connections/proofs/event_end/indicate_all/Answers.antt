use Rattle.std.proofs.Common.{[], refl, Option, subst, sym, ◌∙◌}
use Rattle.host_connections.specs.SlotState.{SlotState}
use Rattle.host_connections.specs.Slots.{SlotStates, slot_heard, slot_state_at}
use Rattle.host_connections.proofs.InTurn.{waiting_heard}
use Rattle.host_connections.proofs.OneByOne.{goes_on, goes_past, ends, IsSoFar}
use Rattle.host_connections.proofs.event_end.indicate_all.Goals as goal

pub loop-place-preserved-then-place-slots : goal.loop-place-preserved-then-place-slots
loop-place-preserved-then-place-slots c =
    let a = c.args in
    let hear : Option SlotState → Option SlotState = slot_heard a.moment.table.now a.moment.now a.moment.rows.now [] in
    let place = c.in-Some.place in
    let slots = c.loop-place.slots in
    let told = c.loop-place.invariant in
    let first = c.in-Some.ensures.first in (
      subst (λ (it : SlotStates). IsSoFar hear a.heard.now.waiting.bits c.remove.new.self.bits a.slots.now it) (sym c.indicate_at.ensures.slots)
          (goes_on hear refl a.heard.now.waiting.bits c.loop-place.left.bits c.remove.new.self.bits place a.slots.now slots told.0
          first.few first.within c.remove.ensures.removed c.remove.ensures.others (hear (slot_state_at slots place)) c.if-place-slots.true refl),
      c.indicate_at.ensures.covered told.1,
    )

pub loop-place-preserved : goal.loop-place-preserved
loop-place-preserved c =
    let a = c.args in
    let hear : Option SlotState → Option SlotState = slot_heard a.moment.table.now a.moment.now a.moment.rows.now [] in
    let told = c.loop-place.invariant in
    let first = c.in-Some.ensures.first in (
      goes_past hear refl a.heard.now.waiting.bits c.loop-place.left.bits c.remove.new.self.bits c.in-Some.place a.slots.now c.loop-place.slots told.0
          first.few first.within c.remove.ensures.removed c.remove.ensures.others c.if-place-slots.false,
      told.1,
    )

pub returns-clause-heard : goal.returns-clause-heard
returns-clause-heard c =
    let a = c.args in
    let hear : Option SlotState → Option SlotState = slot_heard a.moment.table.now a.moment.now a.moment.rows.now [] in
    ends hear refl a.heard.now.waiting.bits c.loop-place.left.bits a.slots.now c.loop-place.slots
    c.requires.few c.loop-place.invariant.0 (c.in_default.ensures.none refl)
    ∙ waiting_heard a.moment.table.now a.moment.now a.moment.rows.now a.heard.now.waiting.bits a.slots.now c.requires.covered.waiting
