-- An execution writes only what the connection itself has prepared.
use Rattle.std.specs.Prelude.{◌≡◌, ◌<◌, ◌==◌, false, true, is_some, Some, Ok}
use Rattle.att_numbers.specs.Types.{Handle, Row}
use Rattle.att_pdu.specs.Grammar.{request_of}
use Rattle.att_pdu.specs.Request.{ExecuteWriteRequest}
use Rattle.att_pdu.specs.Response.{ExecuteWriteResponse}
use Rattle.att_pdu.specs.declared.request.ExecuteFlags.TheVariants as flags
use Rattle.att_policy.specs.declared.policy.Access.TheVariants.{Write}
use Rattle.att_table.specs.Table.{value_at}
use Rattle.att_writes.specs.Applied.{applied_to}
use Rattle.att_writes.specs.SameBut.{is_touched}
use Rattle.gatt_conn.specs.Answer.{response_to}
use Rattle.gatt_laws.specs.machine.Event.{Ordinal, Asks, Of}
use Rattle.gatt_laws.specs.machine.ConnectionState.{is_live, key_of, row_in_force, standing_of, connection_mtu, bearer_of, prepared_of}
use Rattle.gatt_laws.specs.machine.State.{State, step}
use Rattle.gatt_laws.specs.machine.Effect.{is_full}
use Rattle.le_hci.specs.declared.peer.Peer.{Peer}
use Rattle.le_security.specs.Entry.{same_peer}
use Rattle.octet_io.specs.Number.{Octets}

abbrev pub row_of_connection : State → Ordinal → Row
row_of_connection state ordinal =
    row_in_force (state.bonds (state.connections ordinal).peer) (state.connections ordinal)

-- A connection that serves asks to write all that it prepared; there is space for the answer, which
-- accepts.
pub record IsAcceptedExecution (state : State) (ordinal : Ordinal) (pdu : Octets) : Type 0 where
  pub live : is_live (state.connections ordinal).mark ≡ true
  pub asked : request_of pdu (connection_mtu state.shared (state.connections ordinal))
      ≡ Ok (ExecuteWriteRequest flags.Write)
  pub has_room : is_full state.shared (state.connections ordinal) ≡ false
  pub accepted : response_to state.shared.table (row_of_connection state ordinal)
      (bearer_of state.shared (state.connections ordinal))
      (ExecuteWriteRequest flags.Write) ≡ Some ExecuteWriteResponse

-- Its own prepared writes lead to the new values and row in force. Other values, own rows of other
-- connections, bonds of other peers, and its row that is not in force stay.
pub record WritesItsOwn (old new : State) (ordinal : Ordinal) : Type 0 where
  pub applied : applied_to Write old.shared.table (row_of_connection old ordinal)
      (standing_of old.shared (old.connections ordinal))
      (prepared_of (old.connections ordinal))
      ≡ Ok (record { values = new.shared.table.values; row = row_of_connection new ordinal })
  pub values : (handle : Handle) → 0 < handle
      → is_touched (prepared_of (old.connections ordinal)) handle ≡ false
      → value_at new.shared.table.values handle ≡ value_at old.shared.table.values handle
  pub rows : (other : Ordinal) → (other == ordinal) ≡ false → (new.connections other).row
      ≡ (old.connections other).row
  pub bonds : (peer : Peer) → same_peer peer (old.connections ordinal).peer ≡ false
      → new.bonds peer ≡ old.bonds peer
  pub own_row : is_some (key_of (old.connections ordinal)) ≡ true → (new.connections ordinal).row
      ≡ (old.connections ordinal).row
  pub bond : is_some (key_of (old.connections ordinal)) ≡ false → (peer : Peer)
      → new.bonds peer ≡ old.bonds peer

-- This holds in every state, however connections interleave.
abbrev pub ExecutesItsOwn : Type 0
ExecutesItsOwn =
    (state : State) (ordinal : Ordinal) (pdu : Octets) → IsAcceptedExecution state ordinal pdu
    → WritesItsOwn state (step state (Of ordinal (Asks pdu))) ordinal
