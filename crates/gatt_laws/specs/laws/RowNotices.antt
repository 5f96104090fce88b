-- Configurations and the facts of a link's key change only with a notice.
use Rattle.std.specs.Prelude.{◌≡◌, ℕ, ◌==◌, ◌&&◌, Bool, true, false, is_some, List}
use Rattle.std.specs.List.{list_any}
use Rattle.att_numbers.specs.Types.{Handle}
use Rattle.att_table.specs.ConfigRow.{bits_at}
use Rattle.gatt_laws.specs.machine.Event.{Ordinal, Event, Of, Replaced}
use Rattle.gatt_laws.specs.machine.Notice.{Notice, Disconnected, Secured, Unsecured, Configured, noticed}
use Rattle.gatt_laws.specs.machine.ConnectionState.{is_there, key_of}
use Rattle.gatt_laws.specs.laws.Silence.{is_for_all}
use Rattle.gatt_laws.specs.machine.State.{State, step}
use Rattle.le_hci.specs.declared.peer.Peer.{Peer}
use Rattle.le_security.specs.Entry.{same_peer}

abbrev pub tells_bits : ℕ → Handle → Notice → Bool
tells_bits handle attribute (Configured other at bits) = (other == handle) && (at == attribute)
tells_bits handle attribute notice = false

abbrev pub is_bits_told : ℕ → Handle → List Notice → Bool
is_bits_told handle attribute notices = list_any (tells_bits handle attribute) notices

abbrev pub is_replacement : Event → Bool
is_replacement (Replaced table) = true
is_replacement event = false

abbrev pub is_connection_or_disconnection : Ordinal → Event → Bool
is_connection_or_disconnection ordinal (Of other own) = (ordinal == other) && is_for_all own
is_connection_or_disconnection ordinal event = false

-- A connection's own row changes only with a notice while that row is in force, by a replacement,
-- or if it connects or disconnects.
abbrev pub TellsEachOwnRow : Type 0
TellsEachOwnRow = (state : State) (event : Event) (ordinal : Ordinal) (attribute : Handle) →
    let connection = state.connections ordinal in
    is_replacement event ≡ false → is_connection_or_disconnection ordinal event ≡ false
    → (is_some (key_of connection) ≡ false
    → is_bits_told connection.handle attribute (noticed state event) ≡ false)
    → bits_at ((step state event).connections ordinal).row attribute
    ≡ bits_at connection.row attribute

-- A bond's row changes only by a replacement, or with a notice of a connection of its peer while
-- that row is in force.
abbrev pub TellsEachBond : Type 0
TellsEachBond = (state : State) (event : Event) (peer : Peer) (attribute : Handle) →
    is_replacement event ≡ false
    → ((ordinal : Ordinal) → same_peer peer (state.connections ordinal).peer ≡ true
    → is_some (key_of (state.connections ordinal)) ≡ true
    → is_bits_told (state.connections ordinal).handle attribute (noticed state event) ≡ false)
    → bits_at ((step state event).bonds peer) attribute ≡ bits_at (state.bonds peer) attribute

abbrev pub tells_key : ℕ → Notice → Bool
tells_key handle (Secured other facts) = other == handle
tells_key handle (Unsecured other) = other == handle
tells_key handle (Disconnected other) = other == handle
tells_key handle notice = false

-- The facts of a link's key change only with a notice that it is secured, unsecured or
-- disconnected.
abbrev pub TellsEachKey : Type 0
TellsEachKey = (state : State) (event : Event) (ordinal : Ordinal) →
    let connection = state.connections ordinal in
    is_there connection.mark ≡ true → list_any (tells_key connection.handle) (noticed state event)
    ≡ false
    → key_of ((step state event).connections ordinal) ≡ key_of connection
