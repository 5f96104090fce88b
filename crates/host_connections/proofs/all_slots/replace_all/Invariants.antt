use Rattle.std.proofs.Common.{◌≡◌, ◌++◌, Option, take, drop, map}
use Rattle.std.specs.Option.{option_map}
use Rattle.host_connections.specs.SlotState.{SlotState}
use Rattle.host_connections.specs.SlotEffects.{after_table}
use Rattle.host_connections.proofs.all_slots.replace_all.Given as goal

abbrev pub invariant-loop-place : goal.invariant-loop-place
invariant-loop-place l =
    l.slots ≡ map (λ (slot : Option SlotState). option_map (after_table l.old.attributes l.new.attributes) slot) (take l.place l.fn.slots)
    ++ drop l.place l.fn.slots
