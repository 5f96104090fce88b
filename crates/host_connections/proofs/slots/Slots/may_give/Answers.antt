use Rattle.std.proofs.Common.{◌≡◌, false, subst}
use Rattle.std.specs.Prelude.{not}
use Rattle.std.specs.Bool.{OnFalse}
use Rattle.std.specs.List.{list_any}
use Rattle.host_connections.proofs.Uncovered.{none_marked}
use Rattle.host_connections.specs.Commands.{gives}
use Rattle.host_connections.specs.Slots.{SlotStates}
use Rattle.host_connections.specs.declared.places.Due.TheVariants.{Packet}
use Rattle.host_connections.proofs.slots.Slots.may_give.Goals as goal

pub returns : goal.returns
returns c =
    subst (λ (slots : SlotStates). OnFalse (not c.is_empty.result) (list_any gives slots ≡ false)) c.self.view_is
    (none_marked Packet c.self.inside.marks.packets.bits c.self.inside.slots.items c.is_empty.result c.self.invariant.0.packets c.is_empty.ensures)
