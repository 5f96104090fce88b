-- The state that a slot retains of its connection for later events.
use Rattle.std.specs.Prelude.{ℕ, Bool, is_some, if◌then◌else◌, List, length, Option, Some, None}
use Rattle.att_numbers.specs.Types.{Mtu, Row}
use Rattle.att_policy.specs.declared.standing.Standing.{Standing}
use Rattle.att_writes.specs.Entry.{Entry}
use Rattle.gatt_conn.specs.Connection.{Bearer}
use Rattle.gatt_conn.specs.Transcript.{first_exchange}
use Rattle.gatt_laws.specs.machine.ConnectionState.{ConnectionState, KeyReply, is_live, is_there, connection_mtu, prepared_of}
use Rattle.gatt_laws.specs.machine.SharedState.{SharedState, share_of, fragment_size_of}
use Rattle.gatt_subs.specs.Indications.{Indications}
use Rattle.le_acl.specs.Outgoing.{Outgoing, outgoing_after, without_pdus}
use Rattle.le_hci.specs.declared.peer.Peer.{Peer}
use Rattle.le_security.specs.Keys.{is_known}
use Rattle.le_security.specs.Link.{Linking, after_steps}

-- `live` is false for an ending connection. `until` ends its authorization, `queue` has its
-- prepared writes, and `reply` and `reason` are those of pending commands.
pub record SlotState : Type 0 where
  pub live : Bool
  pub handle : ℕ
  pub peer : Peer
  pub key_known : Bool
  pub until : ℕ
  pub row : Row
  pub link : Linking
  pub mtu : Mtu
  pub rx_mtu : Mtu
  pub exchanged : Bool
  pub queue : List Entry
  pub pending : Indications
  pub outgoing : Outgoing
  pub reply : Option KeyReply
  pub reason : Option ℕ

-- The outgoing packets after some were given; an ending connection has none.
abbrev pub outgoing_of : SharedState → ConnectionState → ℕ → Outgoing
outgoing_of shared connection handed =
    let outgoing =
    outgoing_after (share_of shared.slots shared.buffers) (fragment_size_of shared.buffers)
    connection.pdus handed connection.done in
    if is_live connection.mark then outgoing else without_pdus outgoing

abbrev pub slot_state_of : SharedState → ConnectionState → ℕ → SlotState
slot_state_of shared connection handed = record {
  live = is_live connection.mark;
  handle = connection.handle;
  peer = connection.peer;
  key_known = is_known shared.keys connection.peer;
  until = connection.until;
  row = connection.row;
  link = after_steps connection.steps;
  mtu = connection_mtu shared connection;
  rx_mtu = shared.rx_mtu;
  exchanged = is_some (first_exchange connection.said);
  queue = prepared_of connection;
  pending = connection.pending;
  outgoing = outgoing_of shared connection handed;
  reply = connection.reply;
  reason = connection.reason;
}

abbrev pub slot_state_if_there : SharedState → ConnectionState → ℕ → Option SlotState
slot_state_if_there shared connection handed =
    if is_there connection.mark then Some (slot_state_of shared connection handed) else None

abbrev pub standing_with : Linking → Bool → ℕ → ℕ → Standing
standing_with link key_known until now =
    record { key = link.key; key_known = key_known; until = until; now = now }

abbrev pub slot_standing : ℕ → SlotState → Standing
slot_standing now slot_state =
    standing_with slot_state.link slot_state.key_known slot_state.until now

abbrev pub slot_bearer : ℕ → SlotState → Bearer
slot_bearer now slot_state = record {
  standing = slot_standing now slot_state;
  mtu = slot_state.mtu;
  rx_mtu = slot_state.rx_mtu;
  exchanged = slot_state.exchanged;
  queue = slot_state.queue;
}

abbrev pub slot_backlog : SlotState → ℕ
slot_backlog slot_state = length slot_state.outgoing.queue
