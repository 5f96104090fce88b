-- Two inputs with the same octets, packets and calls, whose tables differ only in the octets of
-- values that no connection of a peer may know, give its connections the same packets.
use Rattle.std.specs.Prelude.{◌≡◌, Bool, true, false, ◌&&◌, ◌||◌, not, is_some, if◌then◌else◌, List, [], ◌∷◌, Option, Some, None}
use Rattle.std.specs.List.{list_any}
use Rattle.att_numbers.specs.Types.{Handle}
use Rattle.att_attributes.specs.Attributes.{type_at}
use Rattle.att_attributes.specs.Group.{is_service_type}
use Rattle.att_table.specs.Facts.{IsTable}
use Rattle.att_table.specs.Table.{Contents}
use Rattle.att_writes.specs.SameBut.{SameBut}
use Rattle.gatt_laws.specs.laws.Alike.{is_of, may_read_at}
use Rattle.gatt_laws.specs.machine.Event.{Ordinal, Event}
use Rattle.gatt_laws.specs.machine.Input.{Item, ATable, Intake, Run, after_item, run_at_start, run}
use Rattle.gatt_laws.specs.machine.ItemEvents.{event_at}
use Rattle.gatt_laws.specs.machine.ConnectionState.{is_live, row_in_force, standing_of}
use Rattle.gatt_laws.specs.laws.Possible.{AllTables}
use Rattle.gatt_laws.specs.machine.Start.{Start}
use Rattle.gatt_laws.specs.machine.State.{State}
use Rattle.gatt_laws.specs.laws.Runs.{events_in}
use Rattle.gatt_laws.specs.laws.TwoWorlds.{Spared, packets_given_in}
use Rattle.gatt_subs.specs.Hearing.{may_hear_at}
use Rattle.le_hci.specs.declared.peer.Peer.{Peer}
use Rattle.octet_io.specs.Number.{Octets}

-- A connection of the peer that serves may read the value or be sent it unasked.
abbrev pub knows : Peer → State → Handle → Ordinal → Bool
knows peer state handle ordinal =
    let connection = state.connections ordinal in
    let attributes = state.shared.table.attributes in
    let standing = standing_of state.shared connection in
    let row = row_in_force (state.bonds connection.peer) connection in
    is_live connection.mark
    && (is_of peer connection
    && (may_read_at attributes standing handle || may_hear_at attributes row standing handle))

abbrev pub knows_in : Peer → State → Handle → Option Ordinal → Bool
knows_in peer state handle None = false
knows_in peer state handle (Some ordinal) = knows peer state handle ordinal

abbrev pub is_value_known : Peer → State → Handle → Bool
is_value_known peer state handle = list_any (knows_in peer state handle) state.slots

abbrev pub is_replaced : Intake → Item → Bool
is_replaced intake (ATable table) = is_some (event_at intake (ATable table))
is_replaced intake item = false

abbrev pub known_while : Peer → Run → List Item → Handle → Bool
known_while peer run [] handle = is_value_known peer run.intake.state handle
known_while peer run (item ∷ items) handle =
    is_value_known peer run.intake.state handle
    || (if is_replaced run.intake item then false
    else known_while peer (after_item run item) items handle)

-- The values that no connection of the peer may know at any moment before the table is replaced.
abbrev pub hidden_while : Peer → Run → List Item → Handle → Bool
hidden_while peer run items handle = not (known_while peer run items handle)

-- Tables agree if they differ only in octets of hidden values that declare no service.
pub record TablesAgree (hidden : Handle → Bool) (one other : Contents) : Type 0 where
  pub attributes : one.attributes ≡ other.attributes
  pub values : SameBut
      (λ handle. hidden handle && not (is_service_type (type_at one.attributes handle))) one.values
      other.values

pub record StartsAgree (hidden : Handle → Bool) (one other : Start) : Type 0 where
  pub table : TablesAgree hidden one.table other.table
  pub rest : record one { table = other.table } ≡ other

pub record IsTableToo (hidden : Handle → Bool) (table : Contents) (item : Item) : Type 0 where
  pub its : Contents
  pub is : item ≡ ATable its
  pub agree : TablesAgree hidden table its

-- Items agree if they are equal, except for tables that replace others.
abbrev pub ItemsAgree : (Handle → Bool) → Bool → Item → Item → Type 0
ItemsAgree hidden true (ATable table) its = IsTableToo hidden table its
ItemsAgree hidden replaced item its = item ≡ its

abbrev pub InputsAgree : Peer → Run → List Item → List Item → Type 0
InputsAgree peer run [] [] = Unit
InputsAgree peer run (item ∷ items) [] = ⊥
InputsAgree peer run [] (its ∷ others) = ⊥
InputsAgree peer run (item ∷ items) (its ∷ others) =
    ItemsAgree (hidden_while peer (after_item run item) items) (is_replaced run.intake item) item
    its
    × InputsAgree peer (after_item run item) items others

-- Two starts and inputs agree for a peer; the first alone decides what is hidden.
pub record Agree (peer : Peer) (one other : Start) (input its : List Item) : Type 0 where
  pub starts : StartsAgree (hidden_while peer (run_at_start one) input) one other
  pub inputs : InputsAgree peer (run_at_start one) input its

-- No connection of another peer is ended because its queue is full.
abbrev pub SparedIf : Peer → State → Option Event → Type 0
SparedIf peer state None = Unit
SparedIf peer state (Some event) = Spared peer state event

abbrev pub SparedIn : Peer → Run → List Item → Type 0
SparedIn peer run [] = Unit
SparedIn peer run (item ∷ items) =
    SparedIf peer run.intake.state (event_at run.intake item)
    × SparedIn peer (after_item run item) items

abbrev pub packets_given_by : Peer → Ordinal → Run → List Item → List Octets
packets_given_by peer ordinal run items =
    packets_given_in peer ordinal run.intake.state (events_in run items)

-- The connections of the peer are then given the same packets.
abbrev pub NothingCrosses : Type 0
NothingCrosses = (peer : Peer) (one other : Start) (input its : List Item) → IsTable one.table
    → AllTables IsTable input →
    Agree peer one other input its → SparedIn peer (run_at_start one) input
    → SparedIn peer (run_at_start other) its →
    (ordinal : Ordinal) → packets_given_by peer ordinal (run_at_start one) input
    ≡ packets_given_by peer ordinal (run_at_start other) its

-- At the end the connections of the peer are the same, with all that is queued for them.
abbrev pub LeavesConnectionsTheSame : Type 0
LeavesConnectionsTheSame =
    (peer : Peer) (one other : Start) (input its : List Item) → IsTable one.table
    → AllTables IsTable input →
    Agree peer one other input its → SparedIn peer (run_at_start one) input
    → SparedIn peer (run_at_start other) its →
    (ordinal : Ordinal) → is_of peer ((run one input).intake.state.connections ordinal) ≡ true →
    (run one input).intake.state.connections ordinal
    ≡ (run other its).intake.state.connections ordinal
