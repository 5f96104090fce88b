use Rattle.std.proofs.Common.{◌≡◌, false, subst}
use Rattle.std.specs.Prelude.{not}
use Rattle.std.specs.Bool.{OnFalse}
use Rattle.std.specs.List.{list_any}
use Rattle.host_connections.proofs.Uncovered.{none_marked}
use Rattle.host_connections.specs.Commands.{has_command}
use Rattle.host_connections.specs.Slots.{SlotStates}
use Rattle.host_connections.specs.declared.places.Due.TheVariants.{Command}
use Rattle.host_connections.proofs.slots.Slots.may_have_command.Goals as goal

pub returns : goal.returns
returns c =
    subst (λ (slots : SlotStates). OnFalse (not c.is_empty.result) (list_any has_command slots ≡ false)) c.self.view_is
    (none_marked Command c.self.inside.marks.commands.bits c.self.inside.slots.items c.is_empty.result c.self.invariant.0.commands c.is_empty.ensures)
