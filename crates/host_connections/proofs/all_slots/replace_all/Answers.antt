use Rattle.std.proofs.Common.{◌<◌, Option, length, set, ap, sym, ◌∙◌, arith}
use Rattle.std.specs.Option.{option_map}
use Rattle.std.proofs.lemmas.List.Edits.{map_over_more}
use Rattle.host_connections.specs.SlotState.{SlotState}
use Rattle.host_connections.specs.SlotEffects.{after_table}
use Rattle.host_connections.proofs.all_slots.replace_all.Goals as goal

pub loop-place-preserved : goal.loop-place-preserved
loop-place-preserved c =
    let slots = c.args.slots.now in
    let place = c.loop-place.place in
    let within : place < length slots = omega (arith, c.loop-place-test.true) in
    ap (λ (slot : Option SlotState). set c.loop-place.slots place slot)
    (c.replace.ensures ∙ ap (λ (slot : Option SlotState). option_map (after_table c.args.old.now.attributes c.args.new.now.attributes) slot)
    (sym c.index-slots-place.is))
    ∙ map_over_more (λ (slot : Option SlotState). option_map (after_table c.args.old.now.attributes c.args.new.now.attributes) slot) slots c.loop-place.slots
    place c.index-slots-place.result within c.loop-place.invariant c.index-slots-place.is
