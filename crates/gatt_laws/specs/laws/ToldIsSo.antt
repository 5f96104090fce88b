-- A notice is true after its event.
use Rattle.std.specs.Prelude.{◌≡◌, ℕ, true, false, All, [], Some, None}
use Rattle.att_table.specs.ConfigRow.{bits_at}
use Rattle.gatt_laws.specs.machine.Event.{Ordinal, Event}
use Rattle.gatt_laws.specs.machine.Notice.{Notice, Connected, Secured, Unsecured, Configured, Ending}
use Rattle.gatt_laws.specs.machine.Notice.{noticed}
use Rattle.gatt_laws.specs.laws.OwnWrites.{row_of_connection}
use Rattle.gatt_laws.specs.machine.ConnectionState.{ConnectionState, is_live, is_there, key_of}
use Rattle.gatt_laws.specs.machine.State.{State, step}
use Rattle.le_hci.specs.declared.peer.Peer.{Peer}

-- It holds of a connection that is there and has this handle. An unused or disconnected one has the
-- handle 0, which a connection may have too. A connection that is there has a slot
-- (`IsAlwaysSettled`).
pub record OfOne (state : State) (handle : ℕ) (Holds : Ordinal → Type 0) : Type 0 where
  pub ordinal : Ordinal
  pub there : is_there (state.connections ordinal).mark ≡ true
  pub named : (state.connections ordinal).handle ≡ handle
  pub holds : Holds ordinal

-- A new connection of this peer: its link has no key, and it has configured nothing.
pub record IsNewOf (of : Peer) (connection : ConnectionState) : Type 0 where
  pub peer : connection.peer ≡ of
  pub key : key_of connection ≡ None
  pub row : connection.row ≡ []

-- `Configured` has the bits of the row in force, and an `Ending` connection no longer serves.
abbrev pub IsSo : State → Notice → Type 0
IsSo state (Connected handle peer) =
    OfOne state handle (λ ordinal. IsNewOf peer (state.connections ordinal))
IsSo state (Secured handle facts) =
    OfOne state handle (λ ordinal. key_of (state.connections ordinal) ≡ Some facts)
IsSo state (Unsecured handle) =
    OfOne state handle (λ ordinal. key_of (state.connections ordinal) ≡ None)
IsSo state (Configured handle attribute bits) =
    OfOne state handle (λ ordinal. bits_at (row_of_connection state ordinal) attribute ≡ bits)
IsSo state (Ending handle reason) =
    OfOne state handle (λ ordinal. is_live (state.connections ordinal).mark ≡ false)
IsSo state notice = Unit

abbrev pub TellsWhatIsSo : Type 0
TellsWhatIsSo = (state : State) (event : Event) →
    All (IsSo (step state event)) (noticed state event)
