-- What is told was allowed.
use Rattle.std.proofs.Common.{◌≡◌, ℕ, Bool, true, false, List, [], ◌∷◌, map, length, Option, Some}
use Rattle.std.proofs.Common.{None}
use Rattle.std.proofs.Common.{Result, Ok, Err, refl, sym, ap, subst, ◌∙◌, arith, inl, inr, ◌<◌, ◌⊎◌}
use Rattle.std.proofs.lemmas.Bool.{eqb-true, leb-false, and_right}
use Rattle.std.specs.Prelude.{◌++◌, ◌==◌, ◌&&◌, not, nat_le, if◌then◌else◌}
use Rattle.std.specs.Option.{option_map_or, option_to_list}
use Rattle.att_numbers.specs.Types.{Handle, Row, Mtu, Opcode, Code}
use Rattle.att_numbers.specs.declared.opcode.TheConstants.{WRITE_REQUEST, EXECUTE_WRITE_REQUEST}
use Rattle.att_numbers.specs.declared.opcode.TheConstants.{HANDLE_VALUE_CONFIRMATION}
use Rattle.att_pdu.specs.Form.{form_of}
use Rattle.att_pdu.specs.Grammar.{fault_of, request_of, is_due}
use Rattle.att_pdu.specs.Response.{Response, ErrorResponse, WriteResponse, ExecuteWriteResponse}
use Rattle.att_pdu.specs.declared.grammar.PduFault.TheVariants.{Ignored}
use Rattle.att_pdu.specs.Request.{ExchangeMtuRequest, FindInformationRequest}
use Rattle.att_pdu.specs.Request.{FindByTypeValueRequest, ReadByTypeRequest, ReadRequest}
use Rattle.att_pdu.specs.Request.{ReadBlobRequest, ReadMultipleRequest, ReadByGroupTypeRequest}
use Rattle.att_pdu.specs.Request.{WriteRequest, PrepareWriteRequest, ExecuteWriteRequest}
use Rattle.att_pdu.specs.Request.{ConfirmationPdu, WriteCommandPdu}
use Rattle.att_pdu.specs.declared.request.ExecuteFlags.TheVariants as flags
use Rattle.att_policy.specs.declared.policy.Access.TheVariants.{Write, Command}
use Rattle.att_policy.specs.Refusal.{Refusal}
use Rattle.att_table.specs.Table.{Contents, value_at}
use Rattle.att_writes.specs.Applied.{Stored, stored_in, after_entry, unless_entry_refused, after_entries, applied_to}
use Rattle.att_writes.specs.Entry.{Entry, whole_value}
use Rattle.att_writes.specs.Fault.{entry_fault}
use Rattle.att_writes.specs.Queue.{touched_by}
use Rattle.gatt_conn.specs.Answer.{Question, handles_by}
use Rattle.gatt_conn.specs.Answer.{answer_to, written_response, is_confirmation}
use Rattle.gatt_conn.specs.Connection.{Bearer, mtu_between}
use Rattle.gatt_conn.specs.Transcript.{first_exchange}
use Rattle.gatt_laws.proofs.policy.OwnWrites.{served_turn}
use Rattle.gatt_laws.proofs.notices.Skips.{NotifiesNothing, effect_notifies_nothing, tells_only_of_the_event}
use Rattle.gatt_laws.specs.laws.AllowedNotices.{TellsNoRefusals, TellsNoRefusedCommands, TellsNothingIgnored, TellsOnlyOfTheLive}
use Rattle.gatt_laws.specs.laws.Silence.{is_for_all}
use Rattle.gatt_laws.specs.machine.Event.{Ordinal, Own, Encrypted, Refreshed, Asks}
use Rattle.gatt_laws.specs.machine.Event.{Of, Credit, Tick}
use Rattle.gatt_laws.specs.machine.Event as event
use Rattle.gatt_laws.specs.machine.Notice.{Ending}
use Rattle.gatt_laws.specs.machine.Notice.{write_told, confirmation_told, end_told, live_told}
use Rattle.gatt_laws.specs.machine.Notice.{own_told, event_told, noticed}
use Rattle.gatt_laws.specs.machine.ConnectionState.{ConnectionState, is_live, row_in_force, connection_mtu}
use Rattle.gatt_laws.specs.machine.ConnectionState.{bearer_of}
use Rattle.gatt_laws.specs.machine.SharedState.{SharedState}
use Rattle.gatt_laws.specs.machine.State.{State, change_of}
use Rattle.gatt_laws.specs.machine.Effect.{Effect, effect_on_connection, is_full, served, live_effect, effect_of, values_among}
use Rattle.octet_io.specs.Number.{Octets}

-- Who does not serve tells nothing.

idle-told : (state : State) (ordinal : Ordinal) (own : Own) → is_live (state.connections ordinal).mark ≡ false
    → is_for_all own ≡ false → event_told state (Of ordinal own) ≡ []
unfolding event_told
idle-told state ordinal (event.Connected handle peer) is kind = cc kind
idle-told state ordinal event.Disconnected is kind = cc kind
idle-told state ordinal own is kind = rw is refl

idle-notifies : (state : State) (ordinal : Ordinal) (own : Own) → is_live (state.connections ordinal).mark ≡ false
    → is_for_all own ≡ false → NotifiesNothing (change_of state (Of ordinal own))
unfolding change_of
idle-notifies state ordinal (event.Connected handle peer) is kind = cc kind
idle-notifies state ordinal event.Disconnected is kind = cc kind
idle-notifies state ordinal own is kind =
    let connection : ConnectionState = state.connections ordinal in
    effect_notifies_nothing state ordinal own
    (effect_of state.shared (state.bonds connection.peer) (state.owed connection.peer) connection own)
    (rw is refl) (rw is refl)

pub tells_only_of_the_live : TellsOnlyOfTheLive
tells_only_of_the_live state ordinal own is kind =
    tells_only_of_the_event state (Of ordinal own) (idle-notifies state ordinal own is kind)
    ∙ idle-told state ordinal own is kind

-- A request that is refused tells nothing, and neither does what is ignored.

written-none : (opcode : Opcode) (granted : Response) (entries : List Entry)
    (result : Result Stored Refusal)
    (request : Opcode) (handle : Handle) (code : Code)
    → (granted ≡ ErrorResponse request handle code → ⊥)
    → written_response opcode granted result ≡ ErrorResponse request handle code
    → touched_by entries result ≡ []
written-none opcode granted entries (Ok new) request handle code differs is = absurd (differs is)
written-none opcode granted entries (Err refusal) request handle code differs is = refl

answer-is : (one other : Response) → Some one ≡ Some other → one ≡ other
answer-is one other is = cc is

refused-none : (table : Contents) (row : Row) (conn : Bearer) (asked : Question)
    (request : Opcode) (handle : Handle) (code : Code)
    → answer_to table row conn asked ≡ Some (ErrorResponse request handle code)
    → handles_by table row conn asked ≡ []
refused-none table row conn (Ok (WriteRequest at value)) request handle code is =
    written-none WRITE_REQUEST WriteResponse (whole_value at value ∷ [])
    (applied_to Write table row conn.standing (whole_value at value ∷ [])) request handle code
    (λ same. cc same)
    (answer-is _ _ is)
refused-none table row conn (Ok (ExecuteWriteRequest flags.Write)) request handle code is =
    written-none EXECUTE_WRITE_REQUEST ExecuteWriteResponse conn.queue
    (applied_to Write table row conn.standing conn.queue) request handle code (λ same. cc same)
    (answer-is _ _ is)
refused-none table row conn (Ok (ExecuteWriteRequest flags.Cancel)) request handle code is = refl
refused-none table row conn (Ok (WriteCommandPdu at value)) request handle code is = cc is
refused-none table row conn (Ok (ExchangeMtuRequest client_rx_mtu)) request handle code is = refl
refused-none table row conn (Ok (FindInformationRequest first last)) request handle code is = refl
refused-none table row conn
    (Ok (FindByTypeValueRequest first last kind value)) request handle code is = refl
refused-none table row conn (Ok (ReadByTypeRequest first last kind)) request handle code is = refl
refused-none table row conn (Ok (ReadRequest at)) request handle code is = refl
refused-none table row conn (Ok (ReadBlobRequest at offset)) request handle code is = refl
refused-none table row conn (Ok (ReadMultipleRequest handles)) request handle code is = refl
refused-none table row conn
    (Ok (ReadByGroupTypeRequest first last kind)) request handle code is = refl
refused-none table row conn
    (Ok (PrepareWriteRequest at offset octets)) request handle code is = refl
refused-none table row conn (Ok ConfirmationPdu) request handle code is = refl
refused-none table row conn (Err fault) request handle code is = refl

-- what a confirmation asks, where its one octet is kept within the ATT_MTU or not
confirmation-asks : (mtu : Mtu)
    → (request_of (HANDLE_VALUE_CONFIRMATION ∷ []) mtu ≡ Ok ConfirmationPdu)
    ⊎ ((nat_le 1 mtu ≡ false) × (request_of (HANDLE_VALUE_CONFIRMATION ∷ []) mtu ≡ Err Ignored))
unfolding form_of fault_of
confirmation-asks mtu = elim (nat_le 1 mtu) as (λ (fits : Bool). nat_le 1 mtu ≡ fits →
    ((if fits then Ok ConfirmationPdu else Err Ignored) ≡ Ok ConfirmationPdu)
    ⊎ ((nat_le 1 mtu ≡ false) ×
    ((if fits then Ok ConfirmationPdu else Err Ignored) ≡ Err Ignored))) [
      | true ↦ λ is. inl refl
      | false ↦ λ is. inr (is, refl)
    ] refl

-- so a PDU of which this holds confirms nothing, where it does not hold of a confirmation
no-confirmation : (P : Octets → Type 0) (pdu : Octets) → (P (HANDLE_VALUE_CONFIRMATION ∷ []) → ⊥)
    → P pdu
    → is_confirmation pdu ≡ false
no-confirmation P [] differs is = refl
no-confirmation P (opcode ∷ []) differs is =
    elim (opcode == HANDLE_VALUE_CONFIRMATION) as (λ (same : Bool).
    (opcode == HANDLE_VALUE_CONFIRMATION) ≡ same → same ≡ false) [
      | true ↦ λ same.
          absurd (differs (subst (λ (of : ℕ). P (of ∷ []))
          (eqb-true opcode HANDLE_VALUE_CONFIRMATION same) is))
      | false ↦ λ other. refl
    ] refl
no-confirmation P (opcode ∷ second ∷ rest) differs is = refl

either-none : (handles : List Handle) (test : Bool) → handles ≡ []
    → (if test then handles else []) ≡ []
either-none handles true none = none
either-none handles false none = refl

-- a request that writes nothing, confirms nothing and has room for its answer
module _ (shared : SharedState) (bond : Row) (owed : Bool) (connection : ConnectionState) (pdu : Octets) where
  abbrev asked : Question
  asked = request_of pdu (connection_mtu shared connection)

  abbrev after : Effect
  after = effect_of shared bond owed connection (Asks pdu)

  silent : (live : Bool) → is_live connection.mark ≡ live → (is_due asked && is_full shared connection) ≡ false
      → handles_by shared.table (row_in_force bond connection) (bearer_of shared connection) asked ≡ []
      → is_confirmation pdu ≡ false → own_told shared bond connection (Asks pdu) after ≡ []
  silent true is free none confirms =
      let turns : after ≡ served shared bond owed connection pdu asked =
      served_turn shared bond owed connection pdu asked is refl free in
      let still : is_live after.connection.mark
      ≡ true = ap (λ (effect : Effect). is_live effect.connection.mark) turns ∙ is in
      let wrote = either-none
      (handles_by shared.table (row_in_force bond connection) (bearer_of shared connection) asked)
      (is_live connection.mark && not (is_due asked && is_full shared connection)) none in
      let row : Row = row_in_force after.bond after.connection in
      λ i. if is i
      then (map (write_told shared.table.attributes row connection.handle) (wrote i)
      ++ (if confirms i then confirmation_told connection.handle connection.pending.unconfirmed else []))
      ++ (if still i then [] else map (Ending connection.handle) (option_to_list after.connection.reason))
      else []
  silent false is free none confirms =
      ap (λ (lives : Bool). if lives then live_told shared bond connection (Asks pdu) after
      ++ end_told connection.handle after.connection else []) is

  notifies-none : (live : Bool) → is_live connection.mark ≡ live → (is_due asked && is_full shared connection) ≡ false
      → handles_by shared.table (row_in_force bond connection) (bearer_of shared connection) asked ≡ []
      → (after.to_notify_here ≡ []) × (after.to_notify ≡ [])
  notifies-none true is free none =
      let turns : after ≡ served shared bond owed connection pdu asked =
      served_turn shared bond owed connection pdu asked is refl free in (
        ap (λ (effect : Effect). effect.to_notify_here) turns,
        ap (λ (effect : Effect). effect.to_notify) turns ∙ ap (values_among shared.table.attributes) none,
      )
  notifies-none false is free none = (
    ap (λ (lives : Bool). (if lives then live_effect shared bond owed connection (Asks pdu)
        else effect_on_connection shared bond owed connection).to_notify_here) is,
    ap (λ (lives : Bool). (if lives then live_effect shared bond owed connection (Asks pdu)
        else effect_on_connection shared bond owed connection).to_notify) is,
  )

silent-in : (state : State) (ordinal : Ordinal) (pdu : Octets)
    → (let connection = state.connections ordinal in
    let asks = request_of pdu (connection_mtu state.shared connection) in
    (is_due asks && is_full state.shared connection) ≡ false
    → handles_by state.shared.table (row_in_force (state.bonds connection.peer) connection)
    (bearer_of state.shared connection) asks ≡ []
    → is_confirmation pdu ≡ false → noticed state (Of ordinal (Asks pdu)) ≡ [])
unfolding event_told change_of
silent-in state ordinal pdu free none confirms =
    let connection : ConnectionState = state.connections ordinal in
    let bond : Row = state.bonds connection.peer in
    let owed : Bool = state.owed connection.peer in
    let notifies = notifies-none state.shared bond owed connection pdu (is_live connection.mark) refl free none in
    tells_only_of_the_event state (Of ordinal (Asks pdu)) (effect_notifies_nothing state ordinal (Asks pdu)
    (effect_of state.shared bond owed connection (Asks pdu)) notifies.0 notifies.1)
    ∙ silent state.shared bond owed connection pdu (is_live connection.mark) refl free none confirms

pub tells_no_refusals : TellsNoRefusals
tells_no_refusals state ordinal pdu request handle code free is =
    let connection : ConnectionState = state.connections ordinal in
    let bond : Row = state.bonds connection.peer in
    let mtu : Mtu = connection_mtu state.shared connection in
    let conn = bearer_of state.shared connection in
    let row : Row = row_in_force bond connection in
    let answers : Question → Option Response = λ of. answer_to state.shared.table row conn of in
    silent-in state ordinal pdu
    (and_right (is_due (request_of pdu mtu)) (is_full state.shared connection) free)
    (refused-none state.shared.table row conn (request_of pdu mtu) request handle code is)
    (no-confirmation (λ (of : Octets). answers (request_of of mtu)
    ≡ Some (ErrorResponse request handle code)) pdu
    (λ confirms. elim (confirmation-asks mtu) [
      | inl asks ↦ let none = sym (ap answers asks) ∙ confirms in cc none
      | inr ignored ↦ let none = sym (ap answers ignored.1) ∙ confirms in cc none
    ]) is)

-- a Write Command whose one entry is refused writes nothing
command-none : (table : Contents) (row : Row) (conn : Bearer) (handle : Handle) (value : Octets) (code : Code)
    → entry_fault Command table.attributes conn.standing (length (value_at table.values handle))
    (whole_value handle value) ≡ Some code
    → handles_by table row conn (Ok (WriteCommandPdu handle value)) ≡ []
unfolding after_entries
command-none table row conn handle value code is =
    let entry : Entry = whole_value handle value in
    ap (λ (fault : Option Code). touched_by (entry ∷ [])
    (unless_entry_refused entry fault
    (Ok (after_entry table.attributes (stored_in table row) entry)))) is

pub tells_no_refused_commands : TellsNoRefusedCommands
tells_no_refused_commands state ordinal pdu handle value code asks is =
    let connection : ConnectionState = state.connections ordinal in
    let bond : Row = state.bonds connection.peer in
    let mtu : Mtu = connection_mtu state.shared connection in
    let conn = bearer_of state.shared connection in
    let row : Row = row_in_force bond connection in
    silent-in state ordinal pdu
    (ap (λ (of : Question). is_due of && is_full state.shared connection) asks)
    (ap (handles_by state.shared.table row conn) asks
    ∙ command-none state.shared.table row conn handle value code is)
    (no-confirmation (λ (of : Octets). request_of of mtu ≡ Ok (WriteCommandPdu handle value)) pdu
    (λ confirms. elim (confirmation-asks mtu) [
      | inl confirmed ↦ let none = sym confirmed ∙ confirms in cc none
      | inr ignored ↦ let none = sym ignored.1 ∙ confirms in cc none
    ]) asks)

-- an ATT_MTU has room for one octet
one-fits : (rx_mtu : Mtu) (first : Option Mtu)
    → nat_le 1 (option_map_or (λ client_rx_mtu. mtu_between client_rx_mtu rx_mtu) first 23)
    ≡ false → ⊥
one-fits rx_mtu None none = cc none
one-fits rx_mtu (Some client_rx_mtu) none =
    let small : mtu_between client_rx_mtu rx_mtu < 1 = leb-false 1
    (mtu_between client_rx_mtu rx_mtu) none in
    omega (arith, small)

pub tells_nothing_ignored : TellsNothingIgnored
tells_nothing_ignored state ordinal pdu is =
    let connection : ConnectionState = state.connections ordinal in
    let bond : Row = state.bonds connection.peer in
    let mtu : Mtu = connection_mtu state.shared connection in
    silent-in state ordinal pdu
    (ap (λ (of : Question). is_due of && is_full state.shared connection) is)
    (ap (λ (of : Question). handles_by state.shared.table (row_in_force bond connection)
    (bearer_of state.shared connection) of) is)
    (no-confirmation (λ (of : Octets). request_of of mtu ≡ Err Ignored) pdu
    (λ confirms. elim (confirmation-asks mtu) [
      | inl asks ↦ let none = sym asks ∙ confirms in cc none
      | inr ignored ↦ absurd (one-fits state.shared.rx_mtu (first_exchange connection.said) ignored.0)
    ]) is)
