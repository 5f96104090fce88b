-- The state of a host and the step of an event (this profile's own, if no other source is named).
use Rattle.std.specs.Prelude.{ℕ, ◌+◌, ◌-◌, ◌==◌, min, Bool, true, false, ◌&&◌, not, if◌then◌else◌, List, [], ◌∷◌, ◌++◌, map, drop, take, replicate, Option, Some, None}
use Rattle.std.specs.List.{flat_map}
use Rattle.std.specs.Option.{option_map_or, option_to_list}
use Rattle.att_numbers.specs.Types.{Handle, Values}
use Rattle.att_table.specs.Changer.{changer_of}
use Rattle.att_table.specs.ConfigRow.{kept_row}
use Rattle.att_table.specs.Table.{Contents, with_value}
use Rattle.gatt_conn.specs.Transcript.{Dropped}
use Rattle.gatt_laws.specs.machine.Controller.{Controller, Slots, is_ready, with_taken, with_freed, commands_sent, after_sending, controller_after}
use Rattle.gatt_laws.specs.machine.Event.{Ordinal, Own, Event, Connected, Disconnected, Of, Completed, Credit, Update, Tick, Replaced, Nothing}
use Rattle.gatt_laws.specs.machine.Heard.{after_hearing}
use Rattle.gatt_laws.specs.machine.ConnectionState.{ConnectionState, is_live, after_giving}
use Rattle.gatt_laws.specs.machine.SharedState.{SharedState, Bonds, ServiceChangedPending, fragment_size_of}
use Rattle.gatt_laws.specs.machine.Effect.{Effect, effect_of}
use Rattle.gatt_subs.specs.Fit.{wants_changes}
use Rattle.gatt_subs.specs.Indications.{after_tick, after_replacement}
use Rattle.le_acl.specs.Outgoing.{acl_octets}
use Rattle.le_acl.specs.Packets.{packets_of}
use Rattle.le_acl.specs.Shares.{usable}
use Rattle.le_hci.specs.Command.{Commanded, LeSetAdvertiseEnable, opcode_of, packet_of}
use Rattle.le_hci.specs.InitTold.{told_in}
use Rattle.le_hci.specs.declared.init.Init.{Init}
use Rattle.le_hci.specs.declared.init.Init.TheVariants.{Ready}
use Rattle.le_hci.specs.declared.peer.Peer.{Peer}
use Rattle.le_security.specs.Entry.{same_peer}
use Rattle.octet_io.specs.Number.{Octets, two_octets}
use Rattle.le_h4.specs.declared.indicator.TheConstants.{COMMAND}

-- `owed` has the peers with a pending Service Changed, and `next` the ordinal of the next
-- connection.
pub record State : Type 0 where
  pub shared : SharedState
  pub bonds : Bonds
  pub owed : ServiceChangedPending
  pub connections : Ordinal → ConnectionState
  pub slots : Slots
  pub next : Ordinal
  pub controller : Controller

-- The state before the end of an event, and the values that the event notifies to each connection.
pub record Change : Type 0 where
  pub state : State
  pub to_notify : Ordinal → List Handle

abbrev pub none_to_notify : Ordinal → List Handle
none_to_notify ordinal = []

abbrev pub all_to_notify : List Handle → Ordinal → List Handle
all_to_notify handles ordinal = handles

abbrev pub at_peer : {A : Type 0} → Peer → A → (Peer → A) → Peer → A
at_peer peer new old other = if same_peer other peer then new else old other

abbrev pub at_ordinal : {A : Type 0} → Ordinal → A → (Ordinal → A) → Ordinal → A
at_ordinal ordinal new old other = if other == ordinal then new else old other

abbrev pub with_values : SharedState → Values → SharedState
with_values shared values = record shared { table = record shared.table { values = values } }

-- A connection takes a slot and ends advertising; a disconnection frees its slot, and advertising
-- may be enabled again.
abbrev pub slots_after : Own → Ordinal → Slots → Slots
slots_after (Connected handle peer) ordinal slots = with_taken ordinal slots
slots_after Disconnected ordinal slots = with_freed ordinal slots
slots_after own ordinal slots = slots

abbrev pub next_after : Own → Ordinal → Ordinal
next_after (Connected handle peer) next = next + 1
next_after own next = next

abbrev pub advertising_after : Own → Controller → Controller
advertising_after (Connected handle peer) controller = record controller { advertising = false }
advertising_after Disconnected controller = record controller { refused = false }
advertising_after own controller = controller

abbrev pub after_effect : State → Ordinal → Own → Effect → Change
after_effect state ordinal own effect =
    let peer = (state.connections ordinal).peer in
    record {
      state = record {
        shared = with_values state.shared effect.values;
        bonds = at_peer peer effect.bond state.bonds;
        owed = at_peer peer effect.owed state.owed;
        connections = at_ordinal ordinal effect.connection state.connections;
        slots = slots_after own ordinal state.slots;
        next = next_after own state.next;
        controller = advertising_after own state.controller;
      };
      to_notify = at_ordinal ordinal effect.to_notify_here (all_to_notify effect.to_notify);
    }

abbrev pub own_change : State → Ordinal → Own → Change
own_change state ordinal own =
    let connection = state.connections ordinal in
    after_effect state ordinal own
    (effect_of state.shared (state.bonds connection.peer) (state.owed connection.peer) connection
    own)

-- A count is cut to the packets that were given and have not completed.
abbrev pub with_packets_completed : ConnectionState → ℕ → ConnectionState
with_packets_completed connection count =
    record connection { done = connection.done + min count (connection.given - connection.done) }

abbrev pub after_packets_completed : Ordinal → List (Ordinal × ℕ) → ConnectionState
    → ConnectionState
after_packets_completed ordinal [] connection = connection
after_packets_completed ordinal (entry ∷ entries) connection =
    after_packets_completed ordinal entries
    (if entry.0 == ordinal then with_packets_completed connection entry.1 else connection)

abbrev pub slots_when_ready : ℕ → Init → Slots → Slots
slots_when_ready count (Ready length packets) slots = replicate (usable count packets) None
slots_when_ready count init slots = slots

abbrev pub is_refusal : ℕ → Option ℕ → Bool
is_refusal opcode status =
    opcode == opcode_of LeSetAdvertiseEnable
    && option_map_or (λ status. not (status == 0)) status false

abbrev pub after_command_complete : State → ℕ → ℕ → Option ℕ → Option Init → State
after_command_complete state allowed opcode status (Some init) = record state {
  shared = record state.shared { buffers = told_in init };
  slots = slots_when_ready state.shared.slots init state.slots;
  controller = record state.controller { credit = allowed; init = init; awaiting = false };
}
after_command_complete state allowed opcode status None = record state {
  controller =
      if is_ready state.controller && is_refusal opcode status
      then record state.controller { credit = allowed; advertising = false; refused = true }
      else record state.controller { credit = allowed };
}

-- All attributes have changed (Core 5.0, Vol 3 Part G, 7.1).
abbrev pub all_changed : Octets
all_changed = two_octets 1 ++ two_octets 65535

abbrev pub announced : Contents → Contents
announced table =
    option_map_or (λ changer. record table { values = with_value table.values changer all_changed })
    (changer_of table) table

-- A connection that serves loses what it prepared and what waits for it, and its unconfirmed
-- indication becomes outdated. Each row retains a configuration if the new table has one at the
-- same handle, of the same value type, and supports its bits. (P-SUB-8)
abbrev pub connection_dropped : ConnectionState → ConnectionState
connection_dropped connection =
    if is_live connection.mark
    then record connection
    { said = Dropped ∷ connection.said; pending = after_replacement connection.pending }
    else connection

abbrev pub connection_after_replacement : Contents → Contents → ConnectionState → ConnectionState
connection_after_replacement old new connection =
    record (connection_dropped connection)
    { row = kept_row old.attributes new.attributes connection.row }

abbrev pub bonds_replaced : Contents → Contents → Bonds → Bonds
bonds_replaced old new bonds peer = kept_row old.attributes new.attributes (bonds peer)

-- Service Changed is pending for a peer if its row asks for indications of the changer.
abbrev pub owed_by : Option Handle → Bonds → ServiceChangedPending
owed_by changer bonds peer = wants_changes changer (bonds peer)

-- (P-SUB-9)
abbrev pub after_replaced : State → Contents → State
after_replaced state table = record state {
  shared = record state.shared { table = announced table; changer = changer_of table };
  bonds = bonds_replaced state.shared.table table state.bonds;
  owed = owed_by (changer_of table) (bonds_replaced state.shared.table table state.bonds);
  connections =
      λ ordinal. connection_after_replacement state.shared.table table (state.connections ordinal);
}

-- The change of each event before its end. (P-SUB-3)
unfoldable pub change_of : State → Event → Change
change_of state (Of ordinal own) = own_change state ordinal own
change_of state (Completed entries) = record {
  state = record state {
    connections = λ ordinal. after_packets_completed ordinal entries (state.connections ordinal);
  };
  to_notify = none_to_notify;
}
change_of state (Credit allowed opcode status following) =
    record {
      state = after_command_complete state allowed opcode status following;
      to_notify = none_to_notify;
    }
change_of state (Update handle value) = record {
  state = record state
      { shared = with_values state.shared (with_value state.shared.table.values handle value) };
  to_notify = all_to_notify (handle ∷ []);
}
change_of state (Tick time) = record {
  state = record state {
    shared = record state.shared { time = time };
    connections = λ ordinal. let connection = state.connections ordinal in
        record connection { pending = after_tick connection.pending time };
  };
  to_notify = none_to_notify;
}
change_of state (Replaced table) =
    record {
      state = after_replaced state table;
      to_notify = all_to_notify (option_to_list (changer_of table));
    }
change_of state Nothing = record { state = state; to_notify = none_to_notify }

-- The end of an event: values are notified, an indication is sent, and packets are given. (P-ALL-1)
abbrev pub finished : SharedState → Bonds → List Handle → ConnectionState → ConnectionState
finished shared bonds handles connection =
    after_giving shared (after_hearing shared (bonds connection.peer) handles connection)

abbrev pub connections_finished : Change → Ordinal → ConnectionState
connections_finished change ordinal =
    finished change.state.shared change.state.bonds (change.to_notify ordinal)
    (change.state.connections ordinal)

abbrev pub with_commands_sent : State → State
with_commands_sent state = record state {
  connections = after_sending state.controller state.connections state.slots;
  controller =
      controller_after state.controller
      (commands_sent state.controller state.connections state.slots);
}

abbrev pub before_commands : State → Event → State
before_commands state event =
    let change = change_of state event in
    record change.state { connections = connections_finished change }

unfoldable pub step : State → Event → State
step state event = with_commands_sent (before_commands state event)

abbrev pub command_octets : Commanded → Octets
command_octets command = COMMAND ∷ packet_of command

abbrev pub commands_out : State → List Octets
commands_out state =
    map command_octets (commands_sent state.controller state.connections state.slots)

abbrev pub packets_given : SharedState → ConnectionState → ConnectionState → List Octets
packets_given shared old new =
    map (acl_octets new.handle)
    (drop old.given (take new.given (packets_of (fragment_size_of shared.buffers) new.pdus)))

abbrev pub slot_out : State → State → Option Ordinal → List Octets
slot_out old new None = []
slot_out old new (Some ordinal) =
    packets_given new.shared (old.connections ordinal) (new.connections ordinal)

-- The commands that the controller accepts, then the packets of the slots in their order. (P-ALL-1)
unfoldable pub out : State → Event → List Octets
out state event =
    let new = before_commands state event in
    commands_out new ++ flat_map (slot_out state new) new.slots
