-- Laws of each connection at the end of each event.
use Rattle.std.specs.Prelude.{◌≡◌, Bool, true, false, List}
use Rattle.att_numbers.specs.Types.{Handle, Row}
use Rattle.gatt_laws.specs.machine.Event.{Ordinal, Own, Event, Connected, Disconnected}
use Rattle.gatt_laws.specs.machine.ConnectionState.{ConnectionState, is_live}
use Rattle.gatt_laws.specs.machine.SharedState.{SharedState, Bonds, share_of, fragment_size_of}
use Rattle.gatt_laws.specs.machine.State.{State, finished, step}
use Rattle.gatt_laws.specs.machine.Effect.{effect_on_connection, effect_of}
use Rattle.le_acl.specs.History.{packets_allowed}

-- Nothing is queued for or given to a connection that is absent or ending.
abbrev pub OnlyServesTheLive : Type 0
OnlyServesTheLive =
    (shared : SharedState) (bonds : Bonds) (handles : List Handle) (connection : ConnectionState) →
    is_live connection.mark ≡ false → finished shared bonds handles connection ≡ connection

-- Only connecting and disconnecting change anything of such a connection.
abbrev pub is_for_all : Own → Bool
is_for_all (Connected handle peer) = true
is_for_all Disconnected = true
is_for_all own = false

abbrev pub OnlyTheLiveAct : Type 0
OnlyTheLiveAct =
    (shared : SharedState) (bond : Row) (owed : Bool) (connection : ConnectionState) (own : Own) →
    is_live connection.mark ≡ false → is_for_all own ≡ false
    → effect_of shared bond owed connection own ≡ effect_on_connection shared bond owed connection

-- A connection that serves was given all that it may be given.
abbrev pub IsAllGiven : SharedState → ConnectionState → Type 0
IsAllGiven shared connection =
    is_live connection.mark ≡ true
    → connection.given ≡ packets_allowed (share_of shared.slots shared.buffers)
    (fragment_size_of shared.buffers) connection.pdus connection.done

abbrev pub GivesAllThatItMay : Type 0
GivesAllThatItMay = (state : State) (event : Event) (ordinal : Ordinal) →
    IsAllGiven (step state event).shared ((step state event).connections ordinal)
