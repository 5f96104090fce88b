use Rattle.std.proofs.Common.{◌≤◌, length, sym, subst, arith}
use Rattle.host_api.specs.declared.TheConstants.{MAX_SLOTS}
use Rattle.host_connections.proofs.Covering.{front_marked}
use Rattle.host_connections.proofs.Noted.{first_noted}
use Rattle.host_connections.specs.Handles.{AreNotedIfAny}
use Rattle.host_connections.specs.Places.{IsMarked}
use Rattle.host_connections.specs.Slots.{SlotStates}
use Rattle.host_connections.proofs.slots.Slots.truncate.Goals as goal

pub invariant_of-self : goal.invariant_of-self
invariant_of-self c =
    let noted = c.self.inside.handles.noted in (
      subst (λ (it : SlotStates). IsMarked it c.self.inside.marks) (sym c.truncate.ensures.items)
          (front_marked c.self.inside.slots.items c.args.count c.self.inside.marks
          (subst (λ (it : SlotStates). length it ≤ MAX_SLOTS) c.truncate.ensures.items (omega (arith, c.self.invariant.0.few, c.truncate.ensures.len)))
          c.self.invariant.0),
      subst (λ (it : SlotStates). AreNotedIfAny it noted) (sym c.truncate.ensures.items)
          (λ other some. first_noted c.self.inside.slots.items noted c.args.count (c.self.invariant.1 other some)),
    )
