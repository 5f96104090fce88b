-- The state of a host, and its change by each event before any output.
use Rattle.std.specs.Prelude.{◌≡◌, ℕ, true, ◌&&◌, if◌then◌else◌, List, [], ◌∷◌, take, map, length, Option, Some, None}
use Rattle.std.specs.Option.{option_map_or, option_to_list}
use Rattle.att_numbers.specs.Types.{Handle, Mtu, Row}
use Rattle.att_table.specs.Changer.{changer_of}
use Rattle.att_table.specs.Table.{Contents, with_value}
use Rattle.gatt_host.specs.Answers.{answered_by}
use Rattle.gatt_host.specs.declared.last_event.LastEvent.{LastEvent}
use Rattle.gatt_host.specs.declared.last_event.LastEvent.TheVariants as last
use Rattle.gatt_host.specs.GoingOut.{command_next, controller_then, next_out, slots_then}
use Rattle.gatt_laws.specs.machine.Controller.{Controller, is_ready}
use Rattle.gatt_laws.specs.machine.Event.{Connected, Disconnected}
use Rattle.gatt_laws.specs.machine.SharedState.{share_of, fragment_size_of}
use Rattle.gatt_laws.specs.machine.State.{announced, advertising_after}
use Rattle.gatt_laws.specs.machine.Effect.{channel_answer, gained_encryption, remote_user_terminated}
use Rattle.host_connections.specs.SlotState.{SlotState}
use Rattle.host_connections.specs.declared.request.Brought.{Brought}
use Rattle.host_connections.specs.declared.skipped.Skipped.{Skipped}
use Rattle.host_connections.specs.Request.{table_after, bond_served, confirmed_of, slot_after_request, handles_written_by, overflows}
use Rattle.host_connections.specs.Slots.{Place, at_place, slot_state_at, late_handles, all_heard, all_after_time, all_after_table, after_completions, slots_at}
use Rattle.host_connections.specs.Skips.{all_skipped}
use Rattle.host_connections.specs.SlotEffects as effect
use Rattle.host_connections.specs.SlotEffects.{after_authorizing, slot_after_ending, after_key_asked, after_link_step, slot_after_other_channel, has_no_room}
use Rattle.gatt_subs.specs.Changes.{with_changes_owed}
use Rattle.gatt_subs.specs.Rows.{Subscriptions, row_of, owes, kept_bond, ChangesBond}
use Rattle.le_acl.specs.Shares.{usable}
use Rattle.le_hci.specs.declared.init.Init.{Init}
use Rattle.le_hci.specs.declared.init.Init.TheVariants.{Ready}
use Rattle.le_hci.specs.declared.peer.Peer.{Peer}
use Rattle.le_hci.specs.InitTold.{told_in}
use Rattle.le_security.specs.declared.entry.Entry.{Entry}
use Rattle.le_security.specs.Keys.{key_asked_for, is_known}
use Rattle.le_security.specs.Link.{Step, after_step}
use Rattle.octet_io.specs.Number.{Octets}

-- The notices depend on `last`, on the handles `written` by the last request, on the connections
-- `late` at the last tick, and on the `skipped` values.
pub record ServerState : Type 0 where
  pub table : Contents
  pub changer : Option Handle
  pub keys : List Entry
  pub rows : Subscriptions
  pub rx_mtu : Mtu
  pub time : ℕ
  pub controller : Controller
  pub slots : List (Option SlotState)
  pub last : LastEvent
  pub written : List Handle
  pub late : List ℕ
  pub skipped : List Skipped

-- No connection has a slot before the controller is initialised.
abbrev pub open_slots : ServerState → List (Option SlotState)
open_slots server = if is_ready server.controller then server.slots else []

-- Each event ends with notifications: `here` to the slot `own`, and `handles` to the others.
abbrev pub server_after_event : Option ℕ → List Handle → List Handle → ServerState → ServerState
server_after_event own here handles server =
    record server {
      slots = all_heard server.table server.time server.rows own here handles server.slots;
      last = last.Quiet;
      skipped = all_skipped server.table server.time server.rows own here handles server.slots;
    }

abbrev pub with_last : LastEvent → ServerState → ServerState
with_last last server = record server { last = last }

abbrev pub without_notices : ServerState → ServerState
without_notices server = record server { last = last.Quiet; skipped = [] }

abbrev pub after_no_change : ServerState → ServerState
after_no_change server = server_after_event None [] [] server

abbrev pub server_after_tick : ℕ → ServerState → ServerState
server_after_tick now server =
    with_last last.Ticked
    (server_after_event None [] []
    (record server {
      time = now;
      slots = all_after_time now server.slots;
      late = late_handles now server.slots;
    }))

abbrev pub after_update : Handle → Octets → ServerState → ServerState
after_update handle value server =
    server_after_event None [] (handle ∷ [])
    (record server
    { table = record server.table { values = with_value server.table.values handle value } })

abbrev pub server_slot_at : ServerState → ℕ → Option SlotState
server_slot_at server place = slot_state_at server.slots place

abbrev pub server_after_own : ℕ → (SlotState → SlotState) → ServerState → ServerState
server_after_own place change server =
    server_after_event None [] [] (record server { slots = slots_at place change server.slots })

abbrev pub after_authorize : ℕ → ℕ → ServerState → ServerState
after_authorize place until server = server_after_own place (after_authorizing until) server

abbrev pub end_event : SlotState → LastEvent
end_event slot_state = last.Ended slot_state.handle remote_user_terminated

abbrev pub after_disconnect : ℕ → ServerState → ServerState
after_disconnect place server =
    with_last (option_map_or end_event (server_slot_at server place) last.Quiet)
    (server_after_own place (slot_after_ending remote_user_terminated) server)

abbrev pub after_ask_key : ℕ → Octets → ℕ → ServerState → ServerState
after_ask_key place random_number diversifier server =
    server_after_own place
    (λ slot_state.
    after_key_asked (key_asked_for server.keys slot_state.peer random_number diversifier)
    slot_state) server

abbrev pub other_channel_event : ℕ → Octets → SlotState → LastEvent
other_channel_event channel payload slot_state =
    if has_no_room (channel_answer channel payload) slot_state
    then last.Ended slot_state.handle remote_user_terminated else last.Quiet

abbrev pub server_after_other_channel : ℕ → ℕ → Octets → ServerState → ServerState
server_after_other_channel place channel payload server =
    with_last
    (option_map_or (other_channel_event channel payload) (server_slot_at server place) last.Quiet)
    (server_after_own place (slot_after_other_channel channel payload) server)

-- A link that gains a key gets its pending Service Changed.
abbrev pub owed_here : Step → ServerState → SlotState → List Handle
owed_here step server slot_state =
    if gained_encryption slot_state.link.key (after_step slot_state.link step).key
    && owes server.rows slot_state.peer then option_to_list server.changer else []

abbrev pub link_event : Step → SlotState → LastEvent
link_event step slot_state =
    last.LinkChanged slot_state.handle slot_state.link.key (after_step slot_state.link step).key

abbrev pub after_link : ℕ → Step → ServerState → ServerState
after_link place step server =
    with_last (option_map_or (link_event step) (server_slot_at server place) last.Quiet)
    (server_after_event (Some place)
    (option_map_or (owed_here step server) (server_slot_at server place) []) []
    (record server { slots = slots_at place (after_link_step step) server.slots }))

-- The state after an ATT PDU of a slot's connection.
abbrev pub row_at : ServerState → SlotState → Option Row
row_at server slot_state = row_of server.rows slot_state.peer

abbrev pub brought_by : Octets → SlotState → Brought
brought_by pdu slot_state =
    record { confirmed = confirmed_of pdu slot_state; ended = overflows pdu slot_state }

abbrev pub after_serving : ℕ → Octets → ServerState → Subscriptions → SlotState → ServerState
after_serving place pdu server rows slot_state =
    let row = row_at server slot_state in
    let written = handles_written_by server.table server.time row pdu slot_state in
    with_last (last.Served place slot_state.handle (brought_by pdu slot_state))
    (server_after_event (Some place) [] written (record server {
      table = table_after server.table server.time row pdu slot_state;
      rows = rows;
      slots = slots_at place (slot_after_request server.table server.time row pdu) server.slots;
      written = written;
    }))

-- A request changes only its peer's bond in the rows.
pub record ServesRequest (place : ℕ) (pdu : Octets) (slot_state : SlotState)
    (old new : ServerState) : Type 0 where
  pub server : new ≡ after_serving place pdu old new.rows slot_state
  pub bond : ChangesBond
      (bond_served old.table old.time old.changer (row_at old slot_state) pdu slot_state)
      slot_state.peer old.rows new.rows

abbrev pub server_after_packets_completed : List (Place × ℕ) → ServerState → ServerState
server_after_packets_completed entries server =
    server_after_event None [] [] (record server { slots = after_completions entries server.slots })

-- The state after a connection is made, and after it ends.
abbrev pub share_in : ServerState → ℕ
share_in server = share_of (length server.slots) (told_in server.controller.init)

abbrev pub fragment_size_in : ServerState → ℕ
fragment_size_in server = fragment_size_of (told_in server.controller.init)

abbrev pub after_connection_complete : ℕ → ℕ → Peer → ServerState → ServerState
after_connection_complete place handle peer server =
    with_last (last.Connected handle peer) (server_after_event None [] [] (record server {
      controller = advertising_after (Connected handle peer) server.controller;
      slots = at_place place
          (λ slot.
          Some (effect.new_slot_state handle peer (is_known server.keys peer) server.rx_mtu
          (share_in server) (fragment_size_in server))) server.slots;
    }))

abbrev pub disconnected_event : SlotState → LastEvent
disconnected_event slot_state = last.Disconnected slot_state.handle

abbrev pub after_disconnection_complete : ℕ → ServerState → ServerState
after_disconnection_complete place server =
    with_last (option_map_or disconnected_event (server_slot_at server place) last.Quiet)
    (server_after_event None [] [] (record server {
      controller = advertising_after Disconnected server.controller;
      slots = at_place place (λ slot. None) server.slots;
    }))

-- Initialisation limits the slots to the controller's packets.
abbrev pub opened : {A : Type 0} → Option Init → List A → List A
opened (Some (Ready acl_len packets)) xs = take (usable (length xs) packets) xs
opened following xs = xs

abbrev pub server_after_command_complete : ℕ → ℕ → Option ℕ → Option Init → ServerState
    → ServerState
server_after_command_complete allowed opcode status following server =
    server_after_event None [] [] (record server {
      controller = answered_by server.controller allowed opcode status following;
      slots = opened following server.slots;
    })

abbrev pub after_replacing : Contents → ServerState → ServerState
after_replacing table server =
    let changer = changer_of table in
    server_after_event None [] (option_to_list changer) (record server {
      table = announced table;
      changer = changer;
      rows = record server.rows {
        bonds = map (with_changes_owed changer)
            (map (kept_bond server.table.attributes table.attributes) server.rows.bonds);
      };
      slots = all_after_table server.table.attributes table.attributes server.slots;
    })

abbrev pub next_packet_out : ServerState → Option Octets
next_packet_out server = next_out server.controller (open_slots server)

abbrev pub after_out : ServerState → ServerState
after_out server = record server {
  controller = controller_then server.controller (open_slots server);
  slots = if is_ready server.controller then slots_then server.controller server.slots
      else server.slots;
}

-- No command is pending, so only packets of connections go out.
pub record OwesPacketsAlone (server : ServerState) : Type 0 where
  pub ready : is_ready server.controller ≡ true
  pub commands : command_next server.controller server.slots ≡ None
