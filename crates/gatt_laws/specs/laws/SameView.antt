-- Connections that see the same are given the same packets.
use Rattle.std.specs.Prelude.{◌≡◌, Bool, true, false, is_some, List, [], ◌∷◌, Option, Some, None}
use Rattle.att_numbers.specs.Types.{Row}
use Rattle.gatt_laws.specs.machine.Event.{Ordinal, Event}
use Rattle.gatt_laws.specs.machine.Input.{Item, run}
use Rattle.gatt_laws.specs.machine.ConnectionState.{ConnectionState, no_connection, is_there}
use Rattle.gatt_laws.specs.machine.SharedState.{SharedState}
use Rattle.gatt_laws.specs.laws.Given.{packets_at, packets_given_in_order, packets_to}
use Rattle.gatt_laws.specs.laws.Runs.{after_events, events_of}
use Rattle.gatt_laws.specs.laws.Silence.{IsAllGiven}
use Rattle.gatt_laws.specs.machine.Start.{Start, state_at}
use Rattle.gatt_laws.specs.machine.State.{State, step}
use Rattle.gatt_laws.specs.laws.View.{ShownEvent, shown, shown_in, view}
use Rattle.gatt_subs.specs.Indications.{Indications}
use Rattle.le_hci.specs.declared.buffers.Buffers.{Buffers}
use Rattle.le_hci.specs.declared.peer.Peer.{Peer}

-- Everything that decides what a connection is given; its pending commands do not.
pub record Seen : Type 0 where
  pub shared : SharedState
  pub bond : Row
  pub owed : Bool
  pub connection : ConnectionState

abbrev pub without_commands : ConnectionState → ConnectionState
without_commands connection = record connection { reply = None; reason = None }

-- A connection of a peer is seen with the buffers that the controller has reported.
abbrev pub seen_of : Option Buffers → Peer → Ordinal → State → Seen
seen_of buffers peer ordinal state = record {
  shared = record state.shared { buffers = buffers };
  bond = state.bonds peer;
  owed = state.owed peer;
  connection = without_commands (state.connections ordinal);
}

-- Indications wait only while one is unconfirmed.
abbrev pub IsIndicated : Indications → Type 0
IsIndicated pending = is_some pending.unconfirmed ≡ false → pending.waiting ≡ []

-- A connection that is there is of this peer, and the controller has reported these buffers; of any
-- other nothing is retained. No indication waits without a cause, and all is given that may be.
pub record IsKnown (buffers : Option Buffers) (peer : Peer) (ordinal : Ordinal)
    (state : State) : Type 0 where
  pub peers : is_there (state.connections ordinal).mark ≡ true → (state.connections ordinal).peer
      ≡ peer
  pub told : is_there (state.connections ordinal).mark ≡ true → state.shared.buffers ≡ buffers
  pub absent : is_there (state.connections ordinal).mark ≡ false → state.connections ordinal
      ≡ no_connection
  pub released : IsIndicated (state.connections ordinal).pending
  pub given : IsAllGiven state.shared (state.connections ordinal)

-- An event of which a connection sees nothing leaves its `Seen` and gives it nothing.
pub record LeavesAlone (buffers : Option Buffers) (peer : Peer) (ordinal : Ordinal) (state : State)
    (event : Event) : Type 0 where
  pub seen : seen_of buffers peer ordinal (step state event) ≡ seen_of buffers peer ordinal state
  pub packets : packets_at ordinal state event ≡ []

abbrev pub LeavesWhoSeesNothing : Type 0
LeavesWhoSeesNothing =
    (buffers : Option Buffers) (peer : Peer) (ordinal : Ordinal) (state : State) (event : Event)
    → IsKnown buffers peer ordinal state → IsKnown buffers peer ordinal (step state event)
    → shown peer ordinal state event ≡ None → LeavesAlone buffers peer ordinal state event

-- Events that two connections see alike, from the same `Seen`, leave the same and give the same
-- packets.
pub record DoesTheSame (buffers : Option Buffers) (peer : Peer) (one other : Ordinal)
    (state another : State) (event further : Event)
    : Type 0 where
  pub seen : seen_of buffers peer one (step state event)
      ≡ seen_of buffers peer other (step another further)
  pub packets : packets_at one state event ≡ packets_at other another further

abbrev pub DoesTheSameToWhoSeesTheSame : Type 0
DoesTheSameToWhoSeesTheSame =
    (buffers : Option Buffers) (peer : Peer) (one other : Ordinal) (state another : State)
    (event further : Event) (item : ShownEvent)
    → IsKnown buffers peer one state → IsKnown buffers peer one (step state event)
    → IsKnown buffers peer other another → IsKnown buffers peer other (step another further)
    → seen_of buffers peer one state ≡ seen_of buffers peer other another
    → shown peer one state event ≡ Some item → shown peer other another further ≡ Some item
    → DoesTheSame buffers peer one other state another event further

-- `IsKnown` holds before and after each event.
abbrev pub IsKnownThroughout : Option Buffers → Peer → Ordinal → State → List Event → Type 0
IsKnownThroughout buffers peer ordinal state [] = IsKnown buffers peer ordinal state
IsKnownThroughout buffers peer ordinal state (event ∷ events) =
    IsKnown buffers peer ordinal state
    × IsKnownThroughout buffers peer ordinal (step state event) events

pub record EndsTheSame (buffers : Option Buffers) (peer : Peer) (one other : Ordinal)
    (state another : State) (events further : List Event)
    : Type 0 where
  pub seen : seen_of buffers peer one (after_events state events)
      ≡ seen_of buffers peer other (after_events another further)
  pub packets : packets_given_in_order one state events
      ≡ packets_given_in_order other another further

abbrev pub SameViewSamePacketsOfEvents : Type 0
SameViewSamePacketsOfEvents =
    (buffers : Option Buffers) (peer : Peer) (one other : Ordinal) (state another : State)
    (events further : List Event)
    → IsKnownThroughout buffers peer one state events
    → IsKnownThroughout buffers peer other another further
    → seen_of buffers peer one state ≡ seen_of buffers peer other another
    → shown_in peer one state events ≡ shown_in peer other another further
    → EndsTheSame buffers peer one other state another events further

-- No event ends with an indication that waits without a cause.
abbrev pub IsIndicatedThroughout : Ordinal → State → List Event → Type 0
IsIndicatedThroughout ordinal state [] = Unit
IsIndicatedThroughout ordinal state (event ∷ events) =
    IsIndicated ((step state event).connections ordinal).pending
    × IsIndicatedThroughout ordinal (step state event) events

abbrev pub IsAlwaysIndicated : Ordinal → Start → List Item → Type 0
IsAlwaysIndicated ordinal start input =
    IsIndicatedThroughout ordinal (state_at start) (events_of start input)

-- Two connections are given the same packets, and are the same at the end, except for pending
-- commands.
pub record AreServedAlike (start : Start) (one other : Ordinal) (input another : List Item) : Type 0
  where
    pub packets : packets_to one start input ≡ packets_to other start another
    pub connection : without_commands ((run start input).intake.state.connections one)
        ≡ without_commands ((run start another).intake.state.connections other)

-- Equal views from one start give the same packets, for any connections.
abbrev pub SameViewSamePackets : Type 0
SameViewSamePackets = (start : Start) (one other : Ordinal) (input another : List Item)
    → view one start input ≡ view other start another
    → IsAlwaysIndicated one start input → IsAlwaysIndicated other start another
    → AreServedAlike start one other input another
