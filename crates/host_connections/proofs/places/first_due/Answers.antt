use Rattle.std.proofs.Common.{◌≡◌, ◌<◌, false, length, refl, sym, ap, ◌∙◌, arith}
use Rattle.host_connections.proofs.Covering.{covered_without, first_due, none-due, read_at}
use Rattle.host_connections.proofs.Uncovered.{idle_outside, none_covered}
use Rattle.host_connections.proofs.Found.{past}
use Rattle.host_connections.specs.Places.{is_slot_due}
use Rattle.host_connections.specs.Slots.{slot_state_at}
use Rattle.host_connections.proofs.places.first_due.Goals.{else-place-slots-via-then-place-slots+else-is_due, else-place-slots-via-else-place-slots}
use Rattle.host_connections.proofs.places.first_due.Goals as goal

pub returns-then-is_due-clause-place : goal.returns-then-is_due-clause-place
returns-then-is_due-clause-place c =
    let slots = c.args.slots.now in
    let place = c.in-Some.place in
    let within : place < length slots = omega (arith, c.if-place-slots.true) in
    sym (first_due c.args.due slots place
    (ap (is_slot_due c.args.due) (read_at slots place c.index-slots-place.result within c.index-slots-place.is) ∙ sym c.is_due.ensures ∙ c.if-is_due.true)
    (λ other less. idle_outside c.args.due c.loop-place.places.bits slots other c.loop-place.invariant (c.in-Some.ensures.first.before other less)))

pub loop-place-preserved : goal.loop-place-preserved
loop-place-preserved c =
    let slots = c.args.slots.now in
    let place = c.in-Some.place in
    let idle : is_slot_due c.args.due (slot_state_at slots place) ≡ false = elim c.else-place-slots.branch [
      | else-place-slots-via-then-place-slots+else-is_due w ↦
          ap (is_slot_due c.args.due) (read_at slots place w.index-slots-place.result (omega (arith, w.if-place-slots.true)) w.index-slots-place.is)
          ∙ sym w.is_due.ensures ∙ w.if-is_due.false
      | else-place-slots-via-else-place-slots w ↦ ap (is_slot_due c.args.due) (past slots place (omega (arith, w.if-place-slots.false))) ∙ none-due c.args.due
    ] in
    covered_without c.args.due c.loop-place.places.bits c.remove.new.self.bits slots place c.requires.few c.loop-place.invariant idle c.remove.ensures.others

pub returns-clause-place : goal.returns-clause-place
returns-clause-place c = sym (none_covered c.args.due c.loop-place.places.bits c.args.slots.now c.loop-place.invariant (c.in_default.ensures.none refl))
