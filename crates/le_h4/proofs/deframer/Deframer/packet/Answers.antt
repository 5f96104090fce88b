use Rattle.std.proofs.Common.{Some, sym, ◌∙◌, ap, subst}
use Rattle.std.specs.Prelude.{IsSome}
use Rattle.le_h4.specs.Deframer.{Deframing}
use Rattle.le_h4.specs.Progress.{reading}
use Rattle.le_h4.proofs.Feeding.{marked_reading}
use Rattle.le_h4.proofs.deframer.Deframer.packet.Goals as goal

pub returns : goal.returns
returns c =
    let view = ap (λ (d : Deframing). d.marked) c.self.view_is in
    let marked = subst IsSome (sym view) c.requires in
    sym view ∙ marked_reading _ _ _ c.self.invariant.0 marked ∙ ap Some (ap reading (sym c.as_slice.ensures.value) ∙ sym c.read_packet.ensures)
