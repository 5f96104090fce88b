-- The handles of connections, so that one is found without reading the slots (of the code alone).
use Rattle.std.specs.Prelude.{◌≡◌, ℕ, ◌<◌, List, length, get_or, Option, Some, None}
use Rattle.host_connections.specs.SlotState.{SlotState}
use Rattle.host_connections.specs.Slots.{SlotStates, slot_state_at}
use Rattle.host_connections.specs.declared.handles.TheConstants.{FREE}

-- A free slot has a number that is no handle.
abbrev pub noted_of : Option SlotState → ℕ
noted_of None = FREE
noted_of (Some slot_state) = slot_state.handle

abbrev pub AreNoted : SlotStates → List ℕ → Type 0
AreNoted slots noted =
    (place : ℕ) → place < length slots → get_or noted place FREE
    ≡ noted_of (slot_state_at slots place)

-- No handle is noted, or that of each slot is.
abbrev pub AreNotedIfAny : SlotStates → List ℕ → Type 0
AreNotedIfAny slots noted = (place : ℕ) → get_or noted place FREE < FREE → AreNoted slots noted
