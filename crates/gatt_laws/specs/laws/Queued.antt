-- The bounds of each connection's queue, in every state.
use Rattle.std.specs.Prelude.{ℕ, ◌+◌, ◌≤◌, List, length, map}
use Rattle.gatt_laws.specs.machine.Event.{Ordinal}
use Rattle.gatt_laws.specs.machine.Input.{Item, run}
use Rattle.gatt_laws.specs.machine.ConnectionState.{ConnectionState, most_pdus}
use Rattle.gatt_laws.specs.machine.SharedState.{share_of, fragment_size_of}
use Rattle.gatt_laws.specs.machine.Start.{Start}
use Rattle.gatt_laws.specs.machine.State.{State}
use Rattle.le_acl.specs.Packets.{fragments_of, total, rest}

-- At most 16 PDUs wait. The given packets were queued and are at most a share beyond those that
-- completed; the completed ones were given.
pub record IsWithinBounds (share size : ℕ) (connection : ConnectionState) : Type 0 where
  pub few : length (rest connection.given (map (fragments_of size) connection.pdus)) ≤ most_pdus
  pub given : connection.given ≤ total size connection.pdus
  pub within : connection.given ≤ share + connection.done
  pub done : connection.done ≤ connection.given

abbrev pub HasBoundedQueues : State → Type 0
HasBoundedQueues state =
    (ordinal : Ordinal)
    → IsWithinBounds (share_of state.shared.slots state.shared.buffers)
    (fragment_size_of state.shared.buffers) (state.connections ordinal)

abbrev pub AlwaysHasBoundedQueues : Type 0
AlwaysHasBoundedQueues =
    (start : Start) (input : List Item) → HasBoundedQueues (run start input).intake.state
