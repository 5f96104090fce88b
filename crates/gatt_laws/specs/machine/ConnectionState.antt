-- The state that a host retains of one connection (this profile's own, if no other source is
-- named).
use Rattle.std.specs.Prelude.{ℕ, Bool, true, false, is_some, if◌then◌else◌, List, [], ◌∷◌, ◌++◌, length, map, Option, Some, None}
use Rattle.att_numbers.specs.Types.{Mtu, Row}
use Rattle.att_policy.specs.declared.standing.KeyFacts.{KeyFacts}
use Rattle.att_policy.specs.declared.standing.Standing.{Standing}
use Rattle.att_writes.specs.Entry.{Entry}
use Rattle.gatt_conn.specs.Connection.{Bearer}
use Rattle.gatt_conn.specs.Transcript.{Said, Dropped, first_exchange, mtu_in, prepared_in}
use Rattle.gatt_laws.specs.machine.SharedState.{SharedState, share_of, fragment_size_of}
use Rattle.gatt_subs.specs.Indications.{Indications, no_indications, after_end}
use Rattle.le_acl.specs.History.{packets_allowed}
use Rattle.le_acl.specs.Packets.{Pdu, fragments_of, rest}
use Rattle.le_hci.specs.declared.peer.Peer.{Peer}
use Rattle.le_security.specs.Keys.{is_known}
use Rattle.le_security.specs.Link.{Step, key_after}
use Rattle.octet_io.specs.Number.{Octets}
use Rattle.le_acl.specs.declared.pdus.TheConstants.{MAX_PDUS}

-- An ending connection is being disconnected, and nothing more is sent on it.
pub data Mark : Type 0 where
  Absent : Mark
  Live : Mark
  Ending : Mark

abbrev pub is_live : Mark → Bool
is_live Absent = false
is_live Live = true
is_live Ending = false

abbrev pub is_there : Mark → Bool
is_there Absent = false
is_there Live = true
is_there Ending = true

-- The reply to a request for a key: the key, or that there is none.
abbrev pub KeyReply : Type 0
KeyReply = Option Octets

-- The connection is authorized while the time is below `until`. `steps` and `said` have the newest
-- first, `pdus` the oldest first. `given` counts their packets that the controller was given,
-- `done` those of them that completed. The key `reply` and the `reason` of a Disconnect are not
-- sent yet.
pub record ConnectionState : Type 0 where
  pub mark : Mark
  pub handle : ℕ
  pub peer : Peer
  pub until : ℕ
  pub row : Row
  pub steps : List Step
  pub said : List Said
  pub pending : Indications
  pub pdus : List Pdu
  pub given : ℕ
  pub done : ℕ
  pub reply : Option KeyReply
  pub reason : Option ℕ

abbrev pub nobody : Peer
nobody = record { kind = 0; address = [] }

abbrev pub no_connection : ConnectionState
no_connection = record {
  mark = Absent;
  handle = 0;
  peer = nobody;
  until = 0;
  row = [];
  steps = [];
  said = [];
  pending = no_indications;
  pdus = [];
  given = 0;
  done = 0;
  reply = None;
  reason = None;
}

abbrev pub fresh_connection : ℕ → Peer → ConnectionState
fresh_connection handle peer = record no_connection { mark = Live; handle = handle; peer = peer }

-- The key of the link (Core 5.0, Vol 3 Part C, 10.2).
abbrev pub key_of : ConnectionState → Option KeyFacts
key_of connection = key_after connection.steps

abbrev pub standing_of : SharedState → ConnectionState → Standing
standing_of shared connection =
    record {
      key = key_of connection;
      key_known = is_known shared.keys connection.peer;
      until = connection.until;
      now = shared.time;
    }

-- The row of the peer's bond while the link has a key, else the connection's own (this profile's
-- own, by Core 5.0, Vol 3 Part G, 3.3.3.3). (P-SUB-1)
abbrev pub row_in_force : Row → ConnectionState → Row
row_in_force bond connection = if is_some (key_of connection) then bond else connection.row

abbrev pub connection_mtu : SharedState → ConnectionState → Mtu
connection_mtu shared connection = mtu_in shared.rx_mtu connection.said

abbrev pub prepared_of : ConnectionState → List Entry
prepared_of connection = prepared_in connection.said

abbrev pub bearer_of : SharedState → ConnectionState → Bearer
bearer_of shared connection = record {
  standing = standing_of shared connection;
  mtu = connection_mtu shared connection;
  rx_mtu = shared.rx_mtu;
  exchanged = is_some (first_exchange connection.said);
  queue = prepared_of connection;
}

-- The number of PDUs with a packet that is not given yet.
abbrev pub backlog_of : SharedState → ConnectionState → ℕ
backlog_of shared connection =
    length (rest connection.given
    (map (fragments_of (fragment_size_of shared.buffers)) connection.pdus))

-- The largest backlog of a connection.
abbrev pub most_pdus : ℕ
most_pdus = MAX_PDUS

abbrev pub with_pdus : ConnectionState → List Pdu → ConnectionState
with_pdus connection pdus = record connection { pdus = connection.pdus ++ pdus }

-- The connection after all packets are given that may be: a share beyond those that completed.
abbrev pub after_giving : SharedState → ConnectionState → ConnectionState
after_giving shared connection =
    if is_live connection.mark
    then record connection {
      given = packets_allowed (share_of shared.slots shared.buffers)
          (fragment_size_of shared.buffers) connection.pdus connection.done;
    }
    else connection

-- Ending drops what a connection prepared, what waits for it and the key reply. (P-ALL-5)
abbrev pub after_ending : ConnectionState → ℕ → ConnectionState
after_ending connection reason = record connection {
  mark = Ending;
  said = Dropped ∷ connection.said;
  pending = after_end connection.pending;
  reply = None;
  reason = Some reason;
}
