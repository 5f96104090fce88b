-- Prepared writes are a connection's own.
use Rattle.std.specs.Prelude.{◌≡◌, ◌==◌, false}
use Rattle.gatt_laws.specs.machine.Event.{Ordinal, Own, Of}
use Rattle.gatt_laws.specs.machine.State.{State, step}

-- An event of one connection leaves the prepared writes and the ATT_MTU of every other.
abbrev pub LeavesOthersPrepared : Type 0
LeavesOthersPrepared =
    (state : State) (ordinal other : Ordinal) (own : Own) → (other == ordinal) ≡ false →
    ((step state (Of ordinal own)).connections other).said ≡ (state.connections other).said
