-- Two runs that differ only in what one connection may not know are the same to it, even against
-- others of its own peer. No table is replaced, and Service Changed is not pending for its peer,
-- since that depends on all its connections.
use Rattle.std.specs.Prelude.{◌≡◌, Bool, true, false, ◌==◌, List, [], ◌∷◌}
use Rattle.att_numbers.specs.Types.{Handle}
use Rattle.att_writes.specs.SameBut.{SameBut}
use Rattle.gatt_laws.specs.laws.Alike.{MayNotKnow, erased}
use Rattle.gatt_laws.specs.laws.RowNotices.{is_replacement}
use Rattle.gatt_laws.specs.laws.Runs.{events_of}
use Rattle.gatt_laws.specs.laws.Given.{packets_at, packets_given_in_order, packets_to}
use Rattle.gatt_laws.specs.laws.TwoWorlds.{finds_no_room}
use Rattle.gatt_laws.specs.machine.Event.{Ordinal, Event, Of}
use Rattle.gatt_laws.specs.machine.Input.{Item}
use Rattle.gatt_laws.specs.machine.ConnectionState.{is_live, is_there, row_in_force, standing_of}
use Rattle.gatt_laws.specs.machine.Start.{Start, state_at}
use Rattle.gatt_laws.specs.machine.State.{State, step, with_values}
use Rattle.le_hci.specs.declared.peer.Peer.{Peer}

-- Two states are alike to a connection if they differ only in hidden octets and in what other
-- connections are sent, wait for and have read, and Service Changed is not pending for its peer.
pub record AlikeTo (ordinal : Ordinal) (peer : Peer) (hidden : Handle → Bool)
    (one other : State) : Type 0 where
  pub shared : with_values one.shared other.shared.table.values ≡ other.shared
  pub values : SameBut hidden one.shared.table.values other.shared.table.values
  pub bonds : one.bonds ≡ other.bonds
  pub owed : one.owed peer ≡ false
  pub owed_too : other.owed peer ≡ false
  pub own : one.connections ordinal ≡ other.connections ordinal
  pub others : (at : Ordinal) → erased (one.connections at) ≡ erased (other.connections at)
  pub slots : one.slots ≡ other.slots
  pub next : one.next ≡ other.next
  pub controller : one.controller ≡ other.controller

abbrev pub HidesFromOne : Ordinal → (Handle → Bool) → State → Type 0
HidesFromOne ordinal hidden state =
    let connection = state.connections ordinal in
    is_live connection.mark ≡ true → (handle : Handle) → hidden handle ≡ true →
    MayNotKnow state.shared.table.attributes (row_in_force (state.bonds connection.peer) connection)
    (standing_of state.shared connection) handle

-- No other connection is ended because its queue is full.
abbrev pub SparesOthers : Ordinal → State → Event → Type 0
SparesOthers ordinal state (Of at own) =
    (ordinal == at) ≡ false → finds_no_room state.shared (state.connections at) own ≡ false
SparesOthers ordinal state event = Unit

-- Both have the same event, no replacement; the connection is of this peer while it is there.
pub record AgreesFor (ordinal : Ordinal) (peer : Peer) (hidden : Handle → Bool) (one other : State)
    (event : Event) : Type 0 where
  pub no_replacement : is_replacement event ≡ false
  pub of : is_there (one.connections ordinal).mark ≡ true → (one.connections ordinal).peer ≡ peer
  pub hides : HidesFromOne ordinal hidden one
  pub hides_then : HidesFromOne ordinal hidden (step one event)
  pub spares : SparesOthers ordinal one event
  pub spares_too : SparesOthers ordinal other event

-- States that are alike to the connection stay so at an event, which gives it the same packets.
abbrev pub KeepsAlikeToOne : Type 0
KeepsAlikeToOne =
    (ordinal : Ordinal) (peer : Peer) (hidden : Handle → Bool) (one other : State) (event : Event) →
    AlikeTo ordinal peer hidden one other → AgreesFor ordinal peer hidden one other event →
    AlikeTo ordinal peer hidden (step one event) (step other event)

abbrev pub GivesTheSameToOne : Type 0
GivesTheSameToOne =
    (ordinal : Ordinal) (peer : Peer) (hidden : Handle → Bool) (one other : State) (event : Event) →
    AlikeTo ordinal peer hidden one other → AgreesFor ordinal peer hidden one other event →
    packets_at ordinal one event ≡ packets_at ordinal other event

abbrev pub AgreeFor : Ordinal → Peer → (Handle → Bool) → State → State → List Event → Type 0
AgreeFor ordinal peer hidden one other [] = Unit
AgreeFor ordinal peer hidden one other (event ∷ events) =
    AgreesFor ordinal peer hidden one other event
    × AgreeFor ordinal peer hidden (step one event) (step other event) events

abbrev pub NothingCrossesToOne : Type 0
NothingCrossesToOne =
    (ordinal : Ordinal) (peer : Peer) (hidden : Handle → Bool) (one other : State)
    (events : List Event) →
    AlikeTo ordinal peer hidden one other → AgreeFor ordinal peer hidden one other events →
    packets_given_in_order ordinal one events ≡ packets_given_in_order ordinal other events

-- Runs from starts that are alike to the connection, by inputs that mean the same, give it the same
-- packets.
abbrev pub NothingCrossesToOneInRuns : Type 0
NothingCrossesToOneInRuns =
    (ordinal : Ordinal) (peer : Peer) (hidden : Handle → Bool) (one other : Start)
    (input another : List Item) →
    AlikeTo ordinal peer hidden (state_at one) (state_at other)
    → events_of one input ≡ events_of other another →
    AgreeFor ordinal peer hidden (state_at one) (state_at other) (events_of one input) →
    packets_to ordinal one input ≡ packets_to ordinal other another
