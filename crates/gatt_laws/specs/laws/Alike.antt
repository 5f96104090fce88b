-- Two states are alike to a peer if they differ only in hidden octets and in what other peers are
-- sent, wait for and have read.
use Rattle.std.specs.Prelude.{◌≡◌, Bool, true, false, is_none, if◌then◌else◌, List, [], map, None, Ok, Err}
use Rattle.att_numbers.specs.Types.{Handle, Row}
use Rattle.att_pdu.specs.Request.{ExchangeMtuRequest, FindInformationRequest, FindByTypeValueRequest, ReadByTypeRequest, ReadRequest, ReadBlobRequest, ReadMultipleRequest, ReadByGroupTypeRequest, WriteRequest, PrepareWriteRequest, ExecuteWriteRequest, ConfirmationPdu, WriteCommandPdu}
use Rattle.att_policy.specs.declared.standing.Standing.{Standing}
use Rattle.att_reads.specs.Access.{refusal_at}
use Rattle.att_attributes.specs.declared.attr.Attr.{Attr}
use Rattle.att_writes.specs.SameBut.{SameBut}
use Rattle.gatt_conn.specs.Answer.{Question}
use Rattle.gatt_conn.specs.Transcript.{Said, Answered, Dropped}
use Rattle.gatt_laws.specs.machine.Event.{Ordinal}
use Rattle.gatt_laws.specs.machine.ConnectionState.{ConnectionState, is_live, row_in_force, standing_of}
use Rattle.gatt_laws.specs.machine.SharedState.{SharedState, Bonds}
use Rattle.gatt_laws.specs.machine.State.{State, with_values}
use Rattle.gatt_subs.specs.Hearing.{may_hear_at}
use Rattle.gatt_subs.specs.Indications.{no_indications}
use Rattle.le_hci.specs.declared.peer.Peer.{Peer}
use Rattle.le_security.specs.Entry.{same_peer}

-- The requests that read (Core 5.0, Vol 3 Part F, 3.4.3 and 3.4.4).
abbrev pub is_reading : Question → Bool
is_reading (Ok (FindInformationRequest first last)) = true
is_reading (Ok (FindByTypeValueRequest first last type value)) = true
is_reading (Ok (ReadByTypeRequest first last type)) = true
is_reading (Ok (ReadRequest handle)) = true
is_reading (Ok (ReadBlobRequest handle offset)) = true
is_reading (Ok (ReadMultipleRequest handles)) = true
is_reading (Ok (ReadByGroupTypeRequest first last type)) = true
is_reading (Ok (ExchangeMtuRequest client_rx_mtu)) = false
is_reading (Ok (WriteRequest handle value)) = false
is_reading (Ok (PrepareWriteRequest handle offset part)) = false
is_reading (Ok (ExecuteWriteRequest flags)) = false
is_reading (Ok ConfirmationPdu) = false
is_reading (Ok (WriteCommandPdu handle value)) = false
is_reading (Err fault) = false

abbrev pub without_reading : Said → Said
without_reading (Answered asked answer) = Answered asked (if is_reading asked then None else answer)
without_reading Dropped = Dropped

-- A connection without its PDUs, its indications, and its answers to requests that read.
abbrev pub erased : ConnectionState → ConnectionState
erased connection = record connection {
  said = map without_reading connection.said;
  pending = no_indications;
  pdus = [];
  given = 0;
  done = 0;
}

abbrev pub is_of : Peer → ConnectionState → Bool
is_of peer connection = same_peer connection.peer peer

-- All is the same except hidden octets, what is erased of other peers' connections, and the pending
-- Service Changed of other peers.
pub record Alike (peer : Peer) (hidden : Handle → Bool) (one other : State) : Type 0 where
  pub shared : with_values one.shared other.shared.table.values ≡ other.shared
  pub values : SameBut hidden one.shared.table.values other.shared.table.values
  pub bonds : one.bonds ≡ other.bonds
  pub owed : one.owed peer ≡ other.owed peer
  pub own : (ordinal : Ordinal) → is_of peer (one.connections ordinal) ≡ true
      → one.connections ordinal ≡ other.connections ordinal
  pub others : (ordinal : Ordinal) → erased (one.connections ordinal)
      ≡ erased (other.connections ordinal)
  pub slots : one.slots ≡ other.slots
  pub next : one.next ≡ other.next
  pub controller : one.controller ≡ other.controller

abbrev pub may_read_at : List Attr → Standing → Handle → Bool
may_read_at attributes standing handle = is_none (refusal_at attributes standing handle)

pub record MayNotKnow (attributes : List Attr) (row : Row) (standing : Standing)
    (handle : Handle) : Type 0 where
  pub unread : may_read_at attributes standing handle ≡ false
  pub unheard : may_hear_at attributes row standing handle ≡ false

-- No connection of the peer that serves may know what is hidden.
abbrev pub HidesFrom : Peer → (Handle → Bool) → SharedState → Bonds → ConnectionState → Type 0
HidesFrom peer hidden shared bonds connection =
    is_live connection.mark ≡ true → is_of peer connection ≡ true → (handle : Handle)
    → hidden handle ≡ true →
    MayNotKnow shared.table.attributes (row_in_force (bonds connection.peer) connection)
    (standing_of shared connection) handle

abbrev pub Hides : Peer → (Handle → Bool) → State → Type 0
Hides peer hidden state =
    (ordinal : Ordinal) → HidesFrom peer hidden state.shared state.bonds (state.connections ordinal)
