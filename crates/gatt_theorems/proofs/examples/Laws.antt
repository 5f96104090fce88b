-- Laws of the promise over any state machine. Over the machine of the promise each says the same as the field of
-- KeepsConnectionsApart that its proof has the name of.
use Rattle.std.proofs.Common.{◌≡◌, ◌==◌, ℕ, Bool, true, false, if◌then◌else◌, List, Option, Some, refl}
use Rattle.att_numbers.specs.Types.{Handle}
use Rattle.gatt_laws.specs.laws.Alike.{Alike, Hides}
use Rattle.gatt_laws.specs.laws.OwnQueues.{LeavesOthersPrepared}
use Rattle.gatt_laws.specs.laws.SameView.{DoesTheSameToWhoSeesTheSame, IsIndicated, IsKnown, seen_of}
use Rattle.gatt_laws.specs.laws.TwoWorlds.{Agrees, BelongsTo, GivesTheSame, KeepsAlike, Matched, Spared}
use Rattle.gatt_laws.specs.laws.View.{ShownEvent, shown}
use Rattle.gatt_laws.specs.machine.ConnectionState.{ConnectionState, is_live, is_there, no_connection}
use Rattle.gatt_laws.specs.machine.Event.{Ordinal, Own, Event, Of}
use Rattle.gatt_laws.specs.machine.Heard.{after_hearing}
use Rattle.gatt_laws.specs.machine.SharedState.{share_of, fragment_size_of}
use Rattle.gatt_laws.specs.machine.State.{State, Change, before_commands, change_of, slot_out, step, with_commands_sent}
use Rattle.le_acl.specs.History.{packets_allowed}
use Rattle.le_hci.specs.declared.buffers.Buffers.{Buffers}
use Rattle.le_hci.specs.declared.peer.Peer.{Peer}
use Rattle.octet_io.specs.Number.{Octets}

-- A machine is the state to which an event leads, before commands are sent: `before_commands` of State.antt is the one of the promise.
abbrev pub Machine : Type 0
Machine = State → Event → State

abbrev pub step_of : Machine → State → Event → State
step_of machine state event = with_commands_sent (machine state event)

-- the packets that a connection is given at an event
abbrev pub packets_by : Machine → Ordinal → State → Event → List Octets
packets_by machine ordinal state event = slot_out state (machine state event) (Some ordinal)

-- Two laws say the same.
pub record SaysTheSame (one other : Type 0) : Type 0 where
  pub implies : one → other
  pub is_implied : other → one

-- What the connections of a peer may not know changes nothing for them: `Agrees`, `KeepsAlike` and `GivesTheSame` of TwoWorlds.antt.
pub record AgreesBy (machine : Machine) (peer : Peer) (hidden : Handle → Bool) (one other : State) (event its : Event) : Type 0 where
  pub following : Handle → Bool
  pub matched : Matched hidden following event its
  pub hides : Hides peer hidden one
  pub hides_then : Hides peer following (step_of machine one event)
  pub spared : Spared peer one event
  pub spared_too : Spared peer other its

abbrev pub KeepsAlikeBy : Machine → Type 0
KeepsAlikeBy machine = (peer : Peer) (hidden : Handle → Bool) (one other : State) (event its : Event) → Alike peer hidden one other →
    (agrees : AgreesBy machine peer hidden one other event its) →
    Alike peer agrees.following (step_of machine one event) (step_of machine other its)

abbrev pub GivesTheSameBy : Machine → Type 0
GivesTheSameBy machine = (peer : Peer) (hidden : Handle → Bool) (one other : State) (event its : Event) → Alike peer hidden one other →
    AgreesBy machine peer hidden one other event its → (ordinal : Ordinal) → BelongsTo peer (one.connections ordinal) →
    packets_by machine ordinal one event ≡ packets_by machine ordinal other its

by_machine : (peer : Peer) (hidden : Handle → Bool) (one other : State) (event its : Event) →
    Agrees peer hidden one other event its → AgreesBy before_commands peer hidden one other event its
unfolding step
by_machine peer hidden one other event its agrees = record {
  following = agrees.following;
  matched = agrees.matched;
  hides = agrees.hides;
  hides_then = agrees.hides_then;
  spared = agrees.spared;
  spared_too = agrees.spared_too;
}

by_step : (peer : Peer) (hidden : Handle → Bool) (one other : State) (event its : Event) →
    AgreesBy before_commands peer hidden one other event its → Agrees peer hidden one other event its
unfolding step
by_step peer hidden one other event its agrees = record {
  following = agrees.following;
  matched = agrees.matched;
  hides = agrees.hides;
  hides_then = agrees.hides_then;
  spared = agrees.spared;
  spared_too = agrees.spared_too;
}

keeps_alike : SaysTheSame (KeepsAlikeBy before_commands) KeepsAlike
unfolding step by_machine by_step
keeps_alike = record {
  implies = λ keeps peer hidden one other event its alike agrees.
      keeps peer hidden one other event its alike (by_machine peer hidden one other event its agrees);
  is_implied = λ keeps peer hidden one other event its alike agrees.
      keeps peer hidden one other event its alike (by_step peer hidden one other event its agrees);
}

gives_the_same : SaysTheSame (GivesTheSameBy before_commands) GivesTheSame
gives_the_same = record {
  implies = λ gives peer hidden one other event its alike agrees.
      gives peer hidden one other event its alike (by_machine peer hidden one other event its agrees);
  is_implied = λ gives peer hidden one other event its alike agrees.
      gives peer hidden one other event its alike (by_step peer hidden one other event its agrees);
}

-- What happens to one connection leaves what all others have prepared: `LeavesOthersPrepared` of OwnQueues.antt.
abbrev pub LeavesOthersPreparedBy : Machine → Type 0
LeavesOthersPreparedBy machine = (state : State) (ordinal other : Ordinal) (own : Own) → (other == ordinal) ≡ false →
    ((step_of machine state (Of ordinal own)).connections other).said ≡ (state.connections other).said

leaves_prepared : LeavesOthersPreparedBy before_commands ≡ LeavesOthersPrepared
unfolding step
leaves_prepared = refl

-- How many packets a connection that serves may have been given, in a state. The machine of the promise gives by a share of its own.
abbrev pub Share : Type 0
Share = State → Ordinal → ℕ

abbrev pub by_share : Share
by_share state ordinal =
    let connection = state.connections ordinal in
    packets_allowed (share_of state.shared.slots state.shared.buffers) (fragment_size_of state.shared.buffers) connection.pdus connection.done

-- a machine that gives by a share at the end of each event
abbrev pub after_all_hearing : Change → State
after_all_hearing change = record change.state {
  connections = λ ordinal.
      let connection = change.state.connections ordinal in
      after_hearing change.state.shared (change.state.bonds connection.peer) (change.to_notify ordinal) connection;
}

abbrev pub with_given : ConnectionState → ℕ → ConnectionState
with_given connection given = if is_live connection.mark then record connection { given = given } else connection

abbrev pub giving : Share → Machine
giving share state event =
    let heard = after_all_hearing (change_of state event) in
    record heard { connections = λ ordinal. with_given (heard.connections ordinal) (share heard ordinal) }

gives_by_share : giving by_share ≡ before_commands
gives_by_share = refl

-- Connections that see the same are given the same: `IsKnown`, `DoesTheSame` and `DoesTheSameToWhoSeesTheSame` of SameView.antt.
pub record IsKnownBy (share : Share) (buffers : Option Buffers) (peer : Peer) (ordinal : Ordinal) (state : State) : Type 0 where
  pub peers : is_there (state.connections ordinal).mark ≡ true → (state.connections ordinal).peer ≡ peer
  pub told : is_there (state.connections ordinal).mark ≡ true → state.shared.buffers ≡ buffers
  pub absent : is_there (state.connections ordinal).mark ≡ false → state.connections ordinal ≡ no_connection
  pub released : IsIndicated (state.connections ordinal).pending
  pub given : is_live (state.connections ordinal).mark ≡ true → (state.connections ordinal).given ≡ share state ordinal

pub record DoesTheSameBy (share : Share) (buffers : Option Buffers) (peer : Peer) (one other : Ordinal) (state another : State) (event further : Event)
    : Type 0 where
  pub seen : seen_of buffers peer one (step_of (giving share) state event) ≡ seen_of buffers peer other (step_of (giving share) another further)
  pub packets : packets_by (giving share) one state event ≡ packets_by (giving share) other another further

abbrev pub DoesTheSameToWhoSeesTheSameBy : Share → Type 0
DoesTheSameToWhoSeesTheSameBy share =
    (buffers : Option Buffers) (peer : Peer) (one other : Ordinal) (state another : State) (event further : Event) (item : ShownEvent)
    → IsKnownBy share buffers peer one state → IsKnownBy share buffers peer one (step_of (giving share) state event)
    → IsKnownBy share buffers peer other another → IsKnownBy share buffers peer other (step_of (giving share) another further)
    → seen_of buffers peer one state ≡ seen_of buffers peer other another
    → shown peer one state event ≡ Some item → shown peer other another further ≡ Some item
    → DoesTheSameBy share buffers peer one other state another event further

known_by_share : (buffers : Option Buffers) (peer : Peer) (ordinal : Ordinal) (state : State) →
    IsKnown buffers peer ordinal state → IsKnownBy by_share buffers peer ordinal state
known_by_share buffers peer ordinal state known =
    record { peers = known.peers; told = known.told; absent = known.absent; released = known.released; given = known.given }

known_again : (buffers : Option Buffers) (peer : Peer) (ordinal : Ordinal) (state : State) →
    IsKnownBy by_share buffers peer ordinal state → IsKnown buffers peer ordinal state
known_again buffers peer ordinal state known =
    record { peers = known.peers; told = known.told; absent = known.absent; released = known.released; given = known.given }

sees_the_same : SaysTheSame (DoesTheSameToWhoSeesTheSameBy by_share) DoesTheSameToWhoSeesTheSame
unfolding step
sees_the_same = record {
  implies = λ does buffers peer one other state another event further item old new its_old its_new same sees too.
      let done = does buffers peer one other state another event further item
      (known_by_share buffers peer one state old) (known_by_share buffers peer one (step state event) new)
      (known_by_share buffers peer other another its_old) (known_by_share buffers peer other (step another further) its_new) same sees too in
      record { seen = done.seen; packets = done.packets };
  is_implied = λ does buffers peer one other state another event further item old new its_old its_new same sees too.
      let done = does buffers peer one other state another event further item
      (known_again buffers peer one state old) (known_again buffers peer one (step state event) new)
      (known_again buffers peer other another its_old) (known_again buffers peer other (step another further) its_new) same sees too in
      record { seen = done.seen; packets = done.packets };
}
