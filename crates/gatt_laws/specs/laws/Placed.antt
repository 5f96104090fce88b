-- A connection with a slot is there, and waits for at most one command.
use Rattle.std.specs.Prelude.{◌≡◌, true, false, List, None}
use Rattle.gatt_laws.specs.machine.Event.{Ordinal}
use Rattle.gatt_laws.specs.machine.Input.{Item, run}
use Rattle.gatt_laws.specs.machine.ConnectionState.{ConnectionState, is_live, is_there}
use Rattle.gatt_laws.specs.laws.Settled.{has_slot}
use Rattle.gatt_laws.specs.machine.Start.{Start}
use Rattle.gatt_laws.specs.machine.State.{State}

-- A connection that serves has no pending Disconnect, and any other no pending key reply.
pub record WaitsOnce (connection : ConnectionState) : Type 0 where
  pub serving : is_live connection.mark ≡ true → connection.reason ≡ None
  pub others : is_live connection.mark ≡ false → connection.reply ≡ None

pub record IsPlaced (state : State) : Type 0 where
  pub there : (ordinal : Ordinal) → has_slot ordinal state.slots ≡ true
      → is_there (state.connections ordinal).mark ≡ true
  pub once : (ordinal : Ordinal) → WaitsOnce (state.connections ordinal)

abbrev pub IsAlwaysPlaced : Type 0
IsAlwaysPlaced = (start : Start) (input : List Item) → IsPlaced (run start input).intake.state
