use Rattle.std.proofs.Common.{◌<◌, [], Option, length, set, ap, sym, ◌∙◌, arith}
use Rattle.std.specs.Option.{option_map, option_map_or, option_to_list}
use Rattle.std.proofs.lemmas.List.Edits.{map_over_more}
use Rattle.host_connections.proofs.Late.{late_more, late_room}
use Rattle.host_connections.specs.SlotState.{SlotState}
use Rattle.host_connections.specs.Slots.{late_handle}
use Rattle.host_connections.specs.SlotEffects.{after_time}
use Rattle.host_connections.proofs.all_slots.tick_all.Goals as goal

pub loop-place-preserved : goal.loop-place-preserved
loop-place-preserved c =
    let slots = c.args.slots.now in
    let place = c.loop-place.place in
    let within : place < length slots = omega (arith, c.loop-place-test.true) in (
      ap (λ (slot : Option SlotState). set c.loop-place.slots place slot)
          (c.tick-handle.ensures.after ∙ ap (λ (slot : Option SlotState). option_map (after_time c.args.now) slot) (sym c.index-slots-place.is))
          ∙ map_over_more (λ (slot : Option SlotState). option_map (after_time c.args.now) slot) slots c.loop-place.slots place c.index-slots-place.result
          within c.loop-place.invariant.0 c.index-slots-place.is,
      c.add.ensures
          ∙ late_more c.args.now (λ (slot : Option SlotState). option_map (after_time c.args.now) slot) slots c.loop-place.slots place
          c.index-slots-place.result
          c.loop-place.late.items (option_to_list c.tick-handle.result) within c.loop-place.invariant.0 c.index-slots-place.is c.loop-place.invariant.1
          (c.tick-handle.ensures.late ∙ ap (λ (slot : Option SlotState). option_map_or (late_handle c.args.now) slot []) (sym c.index-slots-place.is)),
    )

pub add-requires : goal.add-requires
add-requires c =
    late_room c.args.now c.loop-place.place c.args.slots.now c.loop-place.late.items (omega (arith, c.loop-place-test.true)) c.requires c.loop-place.invariant.1
