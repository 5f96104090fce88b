-- A connection that comes, and what events for all leave, by what a slot keeps and by what the state machine knows.
use Rattle.std.proofs.Common.{◌≡◌, ℕ, ◌+◌, ◌-◌, Bool, true, false, [], ◌∷◌, Some, None, refl, ap, ◌∙◌, arith}
use Rattle.std.specs.Prelude.{min, is_some, if◌then◌else◌}
use Rattle.std.specs.Option.{option_map}
use Rattle.att_numbers.specs.Types.{Row}
use Rattle.att_table.specs.ConfigRow.{kept_row}
use Rattle.att_table.specs.Table.{Contents}
use Rattle.gatt_conn.specs.Transcript.{Dropped, first_exchange}
use Rattle.gatt_laws.specs.machine.ConnectionState.{ConnectionState, is_live, is_there}
use Rattle.gatt_laws.specs.machine.SharedState.{SharedState, share_of, fragment_size_of}
use Rattle.gatt_laws.specs.machine.State.{with_packets_completed, connection_after_replacement}
use Rattle.host_connections.proofs.states.Effects.{dropped_same, mtu_by}
use Rattle.host_connections.specs.SlotState.{SlotState, slot_state_of, slot_state_if_there}
use Rattle.host_connections.specs.SlotEffects.{slot_after_packets_completed, after_table}
use Rattle.gatt_subs.specs.Indications.{after_replacement}
use Rattle.le_acl.specs.Outgoing.{Outgoing, outgoing_after, with_completed, without_pdus}

-- what a change leaves of who is there, and of who is not
mapped : (there : Bool) (old new : SlotState) (change : SlotState → SlotState) → new ≡ change old
    → (if there then Some new else None) ≡ option_map change (if there then Some old else None)
mapped true old new change same = ap (λ (slot_state : SlotState). Some slot_state) same
mapped false old new change same = refl

-- packets are completed
completed-outgoing : (live : Bool) (outgoing : Outgoing) (given done count : ℕ) → outgoing.outstanding ≡ given - done
    → (if live then record outgoing { outstanding = given - (done + min count (given - done)) }
    else without_pdus (record outgoing { outstanding = given - (done + min count (given - done)) }))
    ≡ with_completed (if live then outgoing else without_pdus outgoing) count
completed-outgoing live outgoing given done count is =
    let left : given - (done + min count (given - done)) ≡ outgoing.outstanding - count = omega (arith, is) in
    (elim live as (λ (live : Bool). (if live then record outgoing { outstanding = given - (done + min count (given - done)) }
    else without_pdus (record outgoing { outstanding = given - (done + min count (given - done)) }))
    ≡ with_completed (if live then outgoing else without_pdus outgoing) count) [
      | true ↦ ap (λ (n : ℕ). record outgoing { outstanding = n }) left
      | false ↦ ap (λ (n : ℕ). without_pdus (record outgoing { outstanding = n })) left
    ])

pub completed_kept : (shared : SharedState) (connection : ConnectionState) (count : ℕ)
    → slot_state_if_there shared (with_packets_completed connection count) connection.given ≡ option_map (slot_after_packets_completed count)
    (slot_state_if_there shared connection connection.given)
completed_kept shared connection count =
    let slot_state : SlotState = slot_state_of shared connection connection.given in
    let outgoing : Outgoing =
    outgoing_after (share_of shared.slots shared.buffers) (fragment_size_of shared.buffers) connection.pdus connection.given connection.done in
    mapped (is_there connection.mark) slot_state (slot_state_of shared (with_packets_completed connection count) connection.given)
    (slot_after_packets_completed count)
    (ap (λ (new : Outgoing). record slot_state { outgoing = new })
    (completed-outgoing (is_live connection.mark) outgoing connection.given connection.done count refl))

-- the table is replaced, and no other thing that a slot keeps of a room
abbrev dropped_if : Bool → ConnectionState → ConnectionState
dropped_if live connection = if live then record connection { said = Dropped ∷ connection.said; pending = after_replacement connection.pending } else connection

replaced-of : (shared : SharedState) (connection : ConnectionState) (row : Row) (handed : ℕ) (live : Bool) → is_live connection.mark ≡ live
    → slot_state_of shared (record (dropped_if live connection) { row = row }) handed
    ≡ (if live then record (slot_state_of shared connection handed) { row = row; queue = []; pending = after_replacement connection.pending }
    else record (slot_state_of shared connection handed) { row = row })
replaced-of shared connection row handed true is =
    let same = dropped_same (first_exchange connection.said) in
    λ i. record (slot_state_of shared connection handed) {
      row = row;
      queue = [];
      pending = after_replacement connection.pending;
      mtu = mtu_by shared.rx_mtu (same i);
      exchanged = is_some (same i);
    }
replaced-of shared connection row handed false is = refl

dropped-there : (live : Bool) (connection : ConnectionState) → is_there (dropped_if live connection).mark ≡ is_there connection.mark
dropped-there true connection = refl
dropped-there false connection = refl

pub replaced_kept : (shared : SharedState) (connection : ConnectionState) (old new : Contents) (handed : ℕ)
    → slot_state_if_there shared (connection_after_replacement old new connection) handed ≡ option_map (after_table old.attributes new.attributes)
    (slot_state_if_there shared connection handed)
replaced_kept shared connection old new handed =
    let row : Row = kept_row old.attributes new.attributes connection.row in
    let then-kept : SlotState = slot_state_of shared (connection_after_replacement old new connection) handed in
    ap (λ (there : Bool). if there then Some then-kept else None) (dropped-there (is_live connection.mark) connection)
    ∙ mapped (is_there connection.mark) (slot_state_of shared connection handed) then-kept (after_table old.attributes new.attributes)
    (replaced-of shared connection row handed (is_live connection.mark) refl)
