-- An accepted execution writes what is prepared, and nothing else.
use Rattle.std.proofs.Common.{◌≡◌, Bool, true, false, Some, Result, Ok, Err, refl, sym, ap, ◌∙◌}
use Rattle.std.specs.Prelude.{is_some, ◌&&◌, if◌then◌else◌}
use Rattle.std.proofs.lemmas.Bool.{eq-eqb}
use Rattle.att_numbers.specs.Types.{Row}
use Rattle.att_pdu.specs.Grammar.{request_of, is_due}
use Rattle.att_pdu.specs.Request.{ExecuteWriteRequest}
use Rattle.att_pdu.specs.Response.{ExecuteWriteResponse}
use Rattle.att_pdu.specs.declared.request.ExecuteFlags.TheVariants as flags
use Rattle.att_numbers.specs.declared.opcode.TheConstants.{EXECUTE_WRITE_REQUEST}
use Rattle.att_policy.specs.Refusal.{Refusal}
use Rattle.att_policy.specs.declared.policy.Access.TheVariants.{Write}
use Rattle.att_writes.specs.Applied.{Stored, stored_in, stored_after, applied_to}
use Rattle.att_writes.proofs.Untouched.{keeps_others}
use Rattle.gatt_conn.specs.Answer.{Question, written_response}
use Rattle.gatt_laws.proofs.runs.Ends.{end_keeps}
use Rattle.gatt_laws.specs.machine.Event.{Asks, Of}
use Rattle.gatt_laws.specs.laws.OwnWrites.{row_of_connection, ExecutesItsOwn}
use Rattle.gatt_laws.specs.machine.ConnectionState.{ConnectionState, is_live, key_of, standing_of, connection_mtu, prepared_of, after_ending}
use Rattle.gatt_laws.specs.machine.SharedState.{SharedState}
use Rattle.gatt_laws.specs.machine.State.{State, at_peer, at_ordinal, change_of, step}
use Rattle.gatt_laws.specs.machine.Effect.{Effect, effect_on_connection, served, is_full, request_effect, live_effect, effect_of, bond_row_after, own_row_after, remote_user_terminated}
use Rattle.le_hci.specs.declared.peer.Peer.{Peer}
use Rattle.le_security.specs.Entry.{same_peer}
use Rattle.le_security.proofs.Peers.{same_as_itself}
use Rattle.octet_io.specs.Number.{Octets}

-- what it asks
abbrev execution : Question
execution = Ok (ExecuteWriteRequest flags.Write)

-- an accepted answer tells that all was written
accepted-stored : (result : Result Stored Refusal) (stored : Stored) → Some (written_response EXECUTE_WRITE_REQUEST ExecuteWriteResponse result)
    ≡ Some ExecuteWriteResponse
    → result ≡ Ok (stored_after stored result)
accepted-stored (Ok new) stored is = refl
accepted-stored (Err refusal) stored is = cc is

-- a PDU for which there is room is served
pub served_turn : (shared : SharedState) (bond : Row) (owed : Bool) (connection : ConnectionState) (pdu : Octets) (asked : Question) → is_live connection.mark
    ≡ true
    → request_of pdu (connection_mtu shared connection) ≡ asked → (is_due asked && is_full shared connection) ≡ false
    → effect_of shared bond owed connection (Asks pdu) ≡ served shared bond owed connection pdu asked
unfolding live_effect
served_turn shared bond owed connection pdu asked live is free =
    ap (λ lives. if lives then request_effect shared bond owed connection pdu else effect_on_connection shared bond owed connection) live
    ∙ ap (λ of. if is_due of && is_full shared connection then effect_on_connection shared bond owed (after_ending connection remote_user_terminated)
    else served shared bond owed connection pdu of) is
    ∙ ap (λ full. if full then effect_on_connection shared bond owed (after_ending connection remote_user_terminated)
    else served shared bond owed connection pdu asked) free

-- the row in force is the new one, and the other one stays
in-force : (keyed : Bool) (old_bond own new_bond own_row new : Row) → new_bond ≡ (if keyed then new else old_bond) → own_row ≡ (if keyed then own else new)
    → new ≡ (if keyed then new_bond else own_row)
in-force true old_bond own new_bond own_row new bonds rows = sym bonds
in-force false old_bond own new_bond own_row new bonds rows = sym rows

at-itself : (peer : Peer) (new : Row) (old : Peer → Row) → at_peer peer new old peer ≡ new
at-itself peer new old = ap (λ same. if same then new else old peer) (same_as_itself peer)

-- at a peer nothing is changed where its own row is set again
unchanged-at : (peer : Peer) (old : Peer → Row) (other : Peer) → at_peer peer (old peer) old other ≡ old other
unchanged-at peer old other =
    elim (same_peer other peer) as (λ same. same_peer other peer ≡ same → (if same then old peer else old other) ≡ old other) [
      | true ↦ λ same. ap old (sym (Rattle.le_security.proofs.Peers.equal_peers other peer same))
      | false ↦ λ differs. refl
    ] refl

pub executes_its_own : ExecutesItsOwn
unfolding step change_of
executes_its_own state ordinal pdu is =
    let connection : ConnectionState = state.connections ordinal in
    let bond : Row = state.bonds connection.peer in
    let effect : Effect = effect_of state.shared bond (state.owed connection.peer) connection (Asks pdu) in
    let after : Effect = served state.shared bond (state.owed connection.peer) connection pdu execution in
    let new : State = step state (Of ordinal (Asks pdu)) in
    let result : Result Stored Refusal =
    applied_to Write state.shared.table (row_of_connection state ordinal) (standing_of state.shared connection) (prepared_of connection) in
    let stored : Stored = stored_after (stored_in state.shared.table (row_of_connection state ordinal)) result in
    let all : result ≡ Ok stored = accepted-stored result (stored_in state.shared.table (row_of_connection state ordinal)) is.accepted in
    let turns : effect ≡ after = served_turn state.shared bond (state.owed connection.peer) connection pdu execution is.live is.asked is.has_room in
    let own : (at_ordinal ordinal effect.connection state.connections) ordinal ≡ after.connection =
    ap (λ same. if same then effect.connection else connection) (eq-eqb ordinal ordinal refl) ∙ ap (λ (of : Effect). of.connection) turns in
    let values : new.shared.table.values ≡ stored.values = ap (λ (of : Effect). of.values) turns in
    let rows : (new.connections ordinal).row ≡ own_row_after connection stored.row =
    end_keeps (λ (of : ConnectionState). of.row) (λ of pdus pending given reply reason. refl) state (Of ordinal (Asks pdu)) ordinal
    ∙ ap (λ (of : ConnectionState). of.row) own in
    let keys : key_of (new.connections ordinal) ≡ key_of connection =
    end_keeps key_of (λ of pdus pending given reply reason. refl) state (Of ordinal (Asks pdu)) ordinal ∙ ap key_of own in
    let peers : (new.connections ordinal).peer ≡ connection.peer =
    end_keeps (λ (of : ConnectionState). of.peer) (λ of pdus pending given reply reason. refl) state (Of ordinal (Asks pdu)) ordinal
    ∙ ap (λ (of : ConnectionState). of.peer) own in
    let bonds : (peer : Peer) → new.bonds peer ≡ at_peer connection.peer (bond_row_after connection bond stored.row) state.bonds peer =
    λ peer. ap (λ (of : Effect). at_peer connection.peer of.bond state.bonds peer) turns in
    let here : new.bonds (new.connections ordinal).peer ≡ bond_row_after connection bond stored.row =
    ap new.bonds peers ∙ bonds connection.peer ∙ at-itself connection.peer (bond_row_after connection bond stored.row) state.bonds in
    let row : stored.row ≡ row_of_connection new ordinal =
    in-force (is_some (key_of connection)) bond connection.row (new.bonds (new.connections ordinal).peer) (new.connections ordinal).row stored.row here rows
    ∙ ap (λ keyed. if is_some keyed then new.bonds (new.connections ordinal).peer else (new.connections ordinal).row) (sym keys) in
    record {
      applied = all ∙ (λ i. Ok (record { values = sym values i; row = row i }));
      values = λ handle used apart.
          ap (λ of. Rattle.att_table.specs.Table.value_at of handle) values
          ∙ (keeps_others Write state.shared.table.attributes (standing_of state.shared connection) (prepared_of connection)
          (stored_in state.shared.table (row_of_connection state ordinal)) stored all).values handle used apart;
      rows = λ other differs.
          end_keeps (λ (of : ConnectionState). of.row) (λ of pdus pending given reply reason. refl) state (Of ordinal (Asks pdu)) other
          ∙ ap (λ same. (if same then effect.connection else state.connections other).row) differs;
      bonds = λ peer differs. ap (λ same. if same then effect.bond else state.bonds peer) differs;
      own_row = λ keyed. rows ∙ ap (λ has. if has then connection.row else stored.row) keyed;
      bond = λ none peer.
          bonds peer ∙ ap (λ has. at_peer connection.peer (if has then stored.row else bond) state.bonds peer) none
          ∙ unchanged-at connection.peer state.bonds peer;
    }
