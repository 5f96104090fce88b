use Rattle.std.proofs.Common.{◌≡◌, ℕ, ◌+◌, ◌-◌, ◌++◌, List, Some, take, drop, sym, ap, subst, ◌∙◌, arith, length-drop}
use Rattle.std.proofs.lemmas.List.{take_rest}
use Rattle.std.specs.List.{copy_within}
use Rattle.octet_io.specs.Number.{Octets}
use Rattle.device_loop.specs.Withholding.{first_size, is_data_for, without_data_for}
use Rattle.device_loop.proofs.Packets.{IsWithin, ends, moves, passes, within}
use Rattle.device_loop.proofs.withholding.move_others.Goals as goal
use Rattle.device_loop.proofs.withholding.move_others.Goals.{then-not-is_data_for, else-not-is_data_for}

pub loop-size-preserved : goal.loop-size-preserved
loop-size-preserved c =
    let inv = c.loop-size.invariant in
    let connections : List ℕ = c.args.connections.now in
    let xs : Octets = c.loop-size.octets in
    let at : ℕ = c.loop-size.at in
    let left : ℕ = c.loop-size.left in
    let size : ℕ = c.in-Some.size in
    let first : first_size (drop at xs) ≡ Some size = ap first_size (sym (take_rest xs at)) ∙ sym c.first_size.ensures ∙ c.in-Some.is in
    let packet : IsWithin (drop at xs) size = within (drop at xs) size first in
    let count : at + size - at ≡ size = omega arith in
    let is : c.is_data_for.result ≡ is_data_for connections (take size (drop at xs)) =
    c.is_data_for.ensures ∙ ap (λ (count : ℕ). is_data_for connections (take count (drop at xs))) count in
    elim c.if-not-is_data_for.branch [
      | then-not-is_data_for w ↦
          let moved : c.if-not-is_data_for.octets ≡ copy_within xs at (at + size) left = w.octets-is ∙ w.copy_within.ensures.after in
          record {
            so_far =
                subst (λ (count : ℕ). take count c.if-not-is_data_for.octets ++ without_data_for connections (drop (at + size) c.if-not-is_data_for.octets)
                ≡ without_data_for connections c.args.octets.now)
                (sym w.left-is)
                (moves connections xs _ left at inv.so_far inv.behind inv.within size c.if-not-is_data_for.octets first (sym is ∙ w.if-not-is_data_for.true)
                moved);
            behind = omega (arith, w.left-is, inv.behind);
            within = omega (arith, packet.fits, length-drop at xs, c.if-not-is_data_for.auto.octets, inv.within);
            length = c.if-not-is_data_for.auto.octets ∙ inv.length;
          }
      | else-not-is_data_for w ↦
          record {
            so_far = (λ i. take (w.left-is i) (w.octets-is i) ++ without_data_for connections (drop (at + size) (w.octets-is i)))
                ∙ passes connections xs _ left at inv.so_far inv.behind inv.within size first (sym is ∙ w.if-not-is_data_for.false);
            behind = omega (arith, w.left-is, inv.behind);
            within = omega (arith, packet.fits, length-drop at xs, c.if-not-is_data_for.auto.octets, inv.within);
            length = c.if-not-is_data_for.auto.octets ∙ inv.length;
          }
    ]

pub returns-clause-left : goal.returns-clause-left
returns-clause-left c =
    let inv = c.loop-size.invariant in
    ends c.args.connections.now c.loop-size.octets _ c.loop-size.left c.loop-size.at inv.so_far inv.behind inv.within c.copy_within-2.new.self
    (ap first_size (sym (take_rest c.loop-size.octets c.loop-size.at)) ∙ sym c.first_size.ensures ∙ c.in_default.is) c.copy_within-2.ensures.after
