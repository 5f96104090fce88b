-- A lent slot is put back at its place (of the code alone).
use Rattle.std.specs.Prelude.{ℕ, Option, set}
use Rattle.std.specs.Borrow.{Lends, MutBor, Fml}
use Rattle.host_connections.specs.contracts.slots.Slots.{the_row}
use Rattle.host_connections.specs.contracts.slot.Slot as slot
use Rattle.host_connections.specs.SlotState.{SlotState}
use Rattle.host_connections.specs.Slots.{SlotStates}

abbrev pub LendsSlot : MutBor SlotStates → ℕ → MutBor (Option SlotState) → Fml
LendsSlot slots place lent =
    Lends the_row slot.the_row slots lent (λ left. set slots.now place left)
