-- A request of the Attribute Protocol on the connection of a slot.
use Rattle.std.specs.Prelude.{◌≡◌, ℕ, Bool, false, ◌==◌, ◌&&◌, not, is_some, if◌then◌else◌, List, [], map, Option, None}
use Rattle.std.specs.Option.{option_map_or, option_to_list}
use Rattle.att_numbers.specs.Types.{Handle, Row}
use Rattle.att_pdu.specs.Grammar.{request_of, is_due}
use Rattle.att_pdu.specs.Response.{Response}
use Rattle.att_table.specs.Table.{Contents}
use Rattle.att_writes.specs.Applied.{Stored}
use Rattle.gatt_conn.specs.Answer.{Question, answer_to, stored_by, handles_by, conn_after, is_confirmation}
use Rattle.gatt_conn.specs.Connection.{Bearer}
use Rattle.gatt_conn.specs.Served.{IsAnswered}
use Rattle.gatt_laws.specs.machine.Heard.{att_pdu}
use Rattle.gatt_laws.specs.machine.Effect.{remote_user_terminated}
use Rattle.host_connections.specs.Hearing.{slot_row_in_force, with_pdus_queued}
use Rattle.host_connections.specs.SlotState.{SlotState, slot_backlog, slot_bearer}
use Rattle.host_connections.specs.SlotEffects.{slot_after_ending}
use Rattle.gatt_subs.specs.declared.bond.Bond.{Bond}
use Rattle.gatt_subs.specs.Indications.{Indications, after_confirmation, confirmed_handle, is_told}
use Rattle.gatt_subs.specs.Rows.{Subscriptions, row_of, with_row, ChangesBond}
use Rattle.le_hci.specs.declared.peer.Peer.{Peer}
use Rattle.le_acl.specs.Outgoing.{Outgoing}
use Rattle.octet_io.specs.Number.{Octets}
use Rattle.le_acl.specs.declared.pdus.TheConstants.{MAX_PDUS}

-- The connection is ended if an expected answer has no space.
abbrev pub question_of : Octets → SlotState → Question
question_of pdu slot_state = request_of pdu slot_state.mtu

abbrev pub overflows : Octets → SlotState → Bool
overflows pdu slot_state =
    is_due (question_of pdu slot_state) && (slot_backlog slot_state == MAX_PDUS)

abbrev pub stored_of : Contents → ℕ → Option Row → Octets → SlotState → Stored
stored_of table now bond pdu slot_state =
    stored_by table (slot_row_in_force bond slot_state) (slot_bearer now slot_state)
    (question_of pdu slot_state)

abbrev pub handles_written_by : Contents → ℕ → Option Row → Octets → SlotState → List Handle
handles_written_by table now bond pdu slot_state =
    if overflows pdu slot_state then []
    else handles_by table (slot_row_in_force bond slot_state) (slot_bearer now slot_state)
    (question_of pdu slot_state)

abbrev pub table_after : Contents → ℕ → Option Row → Octets → SlotState → Contents
table_after table now bond pdu slot_state =
    if overflows pdu slot_state then table
    else record table { values = (stored_of table now bond pdu slot_state).values }

-- A row is written to the bond, or to the connection if it has no key or no bond.
abbrev pub slot_row_after : Bool → Option Row → Row → Row → Row
slot_row_after has_key bond own new = if has_key && is_some bond then own else new

abbrev pub bond_after : Bool → Row → Bond → Bond
bond_after has_key new bond = if has_key then with_row new bond else bond

-- A connection with a key confirms Service Changed for its peer.
abbrev pub confirms_changes : Option Handle → Octets → SlotState → Bool
confirms_changes changer pdu slot_state =
    is_confirmation pdu
    && (is_some slot_state.link.key && option_map_or (is_told slot_state.pending) changer false)

-- A value from before a replacement of the table is not confirmed.
abbrev pub confirmed_of : Octets → SlotState → Option Handle
confirmed_of pdu slot_state = if is_confirmation pdu then confirmed_handle slot_state.pending
    else None

abbrev pub with_owed_after : Bool → Bond → Bond
with_owed_after confirmed bond = record bond { owed = bond.owed && not confirmed }

abbrev pub bond_served : Contents → ℕ → Option Handle → Option Row → Octets → SlotState → Bond
    → Bond
bond_served table now changer row pdu slot_state bond =
    if overflows pdu slot_state then bond
    else with_owed_after (confirms_changes changer pdu slot_state)
    (bond_after (is_some slot_state.link.key) (stored_of table now row pdu slot_state).row bond)

abbrev pub with_response : Outgoing → Option Response → Outgoing
with_response outgoing answer = with_pdus_queued outgoing (map att_pdu (option_to_list answer))

-- The answer is queued, and the row in force is written in its place.
pub record IsAnsweredByRow (pdu : Octets) (has_key : Bool) (peer : Peer) (old_row new_row : Row)
    (old_table new_table : Contents)
    (old_rows new_rows : Subscriptions) (old_own new_own : Row) (old_conn new_conn : Bearer)
    (old_outgoing new_outgoing : Outgoing)
    (written : List Handle) (confirms : Bool) : Type 0 where
  pub queued : new_outgoing
      ≡ with_response old_outgoing
      (answer_to old_table old_row old_conn (request_of pdu old_conn.mtu))
  pub answered : IsAnswered pdu old_table new_table old_row new_row old_conn new_conn written
      confirms
  pub own : new_own ≡ slot_row_after has_key (row_of old_rows peer) old_own
      (stored_by old_table old_row old_conn (request_of pdu old_conn.mtu)).row
  pub bond : ChangesBond
      (bond_after has_key (stored_by old_table old_row old_conn (request_of pdu old_conn.mtu)).row)
      peer old_rows new_rows

abbrev pub with_conn : Bearer → SlotState → SlotState
with_conn conn slot_state =
    record slot_state {
      mtu = conn.mtu;
      rx_mtu = conn.rx_mtu;
      exchanged = conn.exchanged;
      queue = conn.queue;
    }

abbrev pub pending_after : Octets → Indications → Indications
pending_after pdu pending = if is_confirmation pdu then after_confirmation pending else pending

abbrev pub slot_after_request : Contents → ℕ → Option Row → Octets → SlotState → SlotState
slot_after_request table now bond pdu slot_state =
    let conn = slot_bearer now slot_state in
    let asked = question_of pdu slot_state in
    if overflows pdu slot_state then slot_after_ending remote_user_terminated slot_state
    else record (with_conn (conn_after table.attributes conn asked) slot_state) {
      row = slot_row_after (is_some slot_state.link.key) bond slot_state.row
          (stored_of table now bond pdu slot_state).row;
      pending = pending_after pdu slot_state.pending;
      outgoing =
          with_response slot_state.outgoing
          (answer_to table (slot_row_in_force bond slot_state) conn asked);
    }
