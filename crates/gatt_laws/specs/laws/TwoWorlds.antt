-- Two runs with the same events, except for the contents of tables that the connections of a peer
-- may not know, are the same to these.
use Rattle.std.specs.Prelude.{◌≡◌, Bool, true, false, ◌&&◌, is_some, if◌then◌else◌, List, []}
use Rattle.att_numbers.specs.Types.{Handle}
use Rattle.att_pdu.specs.Grammar.{request_of, is_due}
use Rattle.att_table.specs.Changer.{changer_of}
use Rattle.att_table.specs.Table.{Contents}
use Rattle.att_writes.specs.SameBut.{SameBut}
use Rattle.gatt_laws.specs.laws.Alike.{is_of, Alike, Hides}
use Rattle.gatt_laws.specs.laws.Given.{packets_at, packets_in}
use Rattle.gatt_laws.specs.machine.Event.{Ordinal, Own, Event, Asks, OtherChannel, Of, Replaced}
use Rattle.gatt_laws.specs.machine.ConnectionState.{ConnectionState, is_live, is_there, connection_mtu}
use Rattle.gatt_laws.specs.machine.SharedState.{SharedState}
use Rattle.gatt_laws.specs.machine.State.{State, step}
use Rattle.gatt_laws.specs.machine.Effect.{channel_answer, is_full}
use Rattle.le_hci.specs.declared.peer.Peer.{Peer}
use Rattle.octet_io.specs.Number.{Octets}

-- Tables that differ only in octets of hidden values and have the same changer.
pub record SameTable (hidden : Handle → Bool) (one other : Contents) : Type 0 where
  pub attributes : one.attributes ≡ other.attributes
  pub changer : changer_of one ≡ changer_of other
  pub values : SameBut hidden one.values other.values

pub record IsReplacedToo (hidden : Handle → Bool) (table : Contents) (event : Event) : Type 0 where
  pub its : Contents
  pub is : event ≡ Replaced its
  pub same : SameTable hidden table its

-- The two runs have the same event, or replacements by tables that differ in what is hidden from
-- then on.
abbrev pub Matched : (hidden following : Handle → Bool) → Event → Event → Type 0
Matched hidden following (Replaced table) other = IsReplacedToo following table other
Matched hidden following event other = (event ≡ other) × (hidden ≡ following)

abbrev pub is_answer_due : SharedState → ConnectionState → Own → Bool
is_answer_due shared connection (Asks pdu) =
    is_due (request_of pdu (connection_mtu shared connection))
is_answer_due shared connection (OtherChannel channel payload) =
    is_some (channel_answer channel payload)
is_answer_due shared connection own = false

abbrev pub finds_no_room : SharedState → ConnectionState → Own → Bool
finds_no_room shared connection own =
    is_live connection.mark && (is_answer_due shared connection own && is_full shared connection)

-- No connection of another peer is ended because its queue is full.
abbrev pub Spared : Peer → State → Event → Type 0
Spared peer state (Of ordinal own) =
    is_of peer (state.connections ordinal) ≡ false
    → finds_no_room state.shared (state.connections ordinal) own ≡ false
Spared peer state event = Unit

abbrev pub BelongsTo : Peer → ConnectionState → Type 0
BelongsTo peer connection = is_there connection.mark ≡ true → is_of peer connection ≡ true

-- No connection of the peer may know what is hidden, before or after, and no connection of another
-- peer is ended because its queue is full.
pub record Agrees (peer : Peer) (hidden : Handle → Bool) (one other : State)
    (event its : Event) : Type 0 where
  pub following : Handle → Bool
  pub matched : Matched hidden following event its
  pub hides : Hides peer hidden one
  pub hides_then : Hides peer following (step one event)
  pub spared : Spared peer one event
  pub spared_too : Spared peer other its

-- States that are alike stay so at an event, which gives each connection of the peer the same
-- packets.
abbrev pub KeepsAlike : Type 0
KeepsAlike = (peer : Peer) (hidden : Handle → Bool) (one other : State) (event its : Event)
    → Alike peer hidden one other →
    (agrees : Agrees peer hidden one other event its)
    → Alike peer agrees.following (step one event) (step other its)

abbrev pub GivesTheSame : Type 0
GivesTheSame = (peer : Peer) (hidden : Handle → Bool) (one other : State) (event its : Event)
    → Alike peer hidden one other →
    Agrees peer hidden one other event its → (ordinal : Ordinal)
    → BelongsTo peer (one.connections ordinal) →
    packets_at ordinal one event ≡ packets_at ordinal other its

abbrev pub GivesNothingToTheAbsent : Type 0
GivesNothingToTheAbsent =
    (state : State) (event : Event) (ordinal : Ordinal) → is_there (state.connections ordinal).mark
    ≡ false →
    packets_at ordinal state event ≡ []

abbrev pub packets_given_at : Peer → Ordinal → State → Event → List Octets
packets_given_at peer ordinal state event =
    if is_of peer (state.connections ordinal) then packets_at ordinal state event else []

abbrev pub packets_given_in : Peer → Ordinal → State → List Event → List Octets
packets_given_in peer ordinal = packets_in (packets_given_at peer ordinal)
