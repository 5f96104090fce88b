use Rattle.std.proofs.Common.{◌≡◌, ◌++◌, Option, take, drop, map}
use Rattle.std.specs.Option.{option_map}
use Rattle.host_connections.specs.SlotState.{SlotState}
use Rattle.host_connections.specs.Slots.{late_handles}
use Rattle.host_connections.specs.SlotEffects.{after_time}
use Rattle.host_connections.proofs.all_slots.tick_all.Given as goal

abbrev pub invariant-loop-place : goal.invariant-loop-place
invariant-loop-place l =
    (l.slots ≡ map (λ (slot : Option SlotState). option_map (after_time l.now) slot) (take l.place l.fn.slots) ++ drop l.place l.fn.slots)
    × (l.late.items ≡ late_handles l.now (take l.place l.fn.slots))
