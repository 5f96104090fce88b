-- A request of the Attribute Protocol, by what a slot keeps of its connection and by what the state machine knows of it.
use Rattle.std.proofs.Common.{◌≡◌, Bool, true, false, List, [], ◌∷◌, map, Option, Some, None, refl, sym, ap, ◌∙◌}
use Rattle.std.specs.Prelude.{is_some, if◌then◌else◌, ◌&&◌, not, Ok, Err}
use Rattle.std.specs.Option.{option_map, option_map_or, option_to_list}
use Rattle.std.proofs.Math.Bool.{and_assoc}
use Rattle.att_numbers.specs.Types.{Handle, Mtu, Row}
use Rattle.att_pdu.specs.declared.grammar.PduFault.TheVariants.{Ignored, Invalid, Unsupported}
use Rattle.att_pdu.specs.Grammar.{request_of, is_due}
use Rattle.att_pdu.specs.Request.{ExchangeMtuRequest, FindInformationRequest, FindByTypeValueRequest, ReadByTypeRequest, ReadRequest, ReadBlobRequest, ReadMultipleRequest, ReadByGroupTypeRequest, WriteRequest, PrepareWriteRequest, ExecuteWriteRequest, ConfirmationPdu, WriteCommandPdu}
use Rattle.att_policy.specs.declared.standing.KeyFacts.{KeyFacts}
use Rattle.att_attributes.specs.declared.attr.Attr.{Attr}
use Rattle.att_writes.specs.Applied.{Stored}
use Rattle.gatt_conn.proofs.Transcripts.{asked_next}
use Rattle.gatt_conn.specs.Answer.{Question, answer_to, stored_by, handles_by, conn_after, is_confirmation}
use Rattle.gatt_conn.specs.Connection.{Bearer, mtu_between}
use Rattle.gatt_conn.specs.Transcript.{Answered, Follows, mtu_in}
use Rattle.gatt_laws.specs.machine.Event.{Asks}
use Rattle.gatt_laws.specs.machine.Heard.{att_pdu}
use Rattle.gatt_laws.specs.machine.ConnectionState.{ConnectionState, is_live, is_there, key_of, row_in_force, connection_mtu, bearer_of, after_ending}
use Rattle.gatt_laws.specs.laws.Queued.{IsWithinBounds}
use Rattle.gatt_laws.specs.machine.SharedState.{SharedState, share_of, fragment_size_of}
use Rattle.gatt_laws.specs.machine.Effect.{Effect, effect_of, effect_on_connection, live_effect, is_full, served, values_among, owed_after, bond_row_after, remote_user_terminated}
use Rattle.host_connections.proofs.states.SlotStates.{becomes, connection_kept, link_key, live_there, row_kept}
use Rattle.host_connections.proofs.states.Effects.{ended_kept, full_kept, live_turned, queued_kept}
use Rattle.host_connections.specs.Hearing.{slot_row_in_force}
use Rattle.host_connections.specs.SlotState.{SlotState, slot_state_of, slot_state_if_there, outgoing_of, slot_bearer}
use Rattle.host_connections.specs.Request.{with_response, overflows, stored_of, handles_written_by, table_after, slot_row_after, bond_after, bond_served, confirms_changes, slot_after_request, pending_after, with_conn, with_owed_after}
use Rattle.host_connections.specs.SlotEffects.{slot_after_ending}
use Rattle.gatt_subs.specs.declared.bond.Bond.{Bond}
use Rattle.gatt_subs.specs.Indications.{is_told}
use Rattle.octet_io.specs.Number.{Octets}

-- what the server receives stays as it was
exchange-room : (conn : Bearer) (client_rx_mtu : Mtu) (exchanged : Bool)
    → (if exchanged then conn else record conn { mtu = mtu_between client_rx_mtu conn.rx_mtu; exchanged = true }).rx_mtu ≡ conn.rx_mtu
exchange-room conn client_rx_mtu true = refl
exchange-room conn client_rx_mtu false = refl

room-stays : (attributes : List Attr) (conn : Bearer) (asked : Question) → (conn_after attributes conn asked).rx_mtu ≡ conn.rx_mtu
room-stays attributes conn (Ok (ExchangeMtuRequest client_rx_mtu)) = exchange-room conn client_rx_mtu conn.exchanged
room-stays attributes conn (Ok (FindInformationRequest first last)) = refl
room-stays attributes conn (Ok (FindByTypeValueRequest first last kind value)) = refl
room-stays attributes conn (Ok (ReadByTypeRequest first last kind)) = refl
room-stays attributes conn (Ok (ReadRequest handle)) = refl
room-stays attributes conn (Ok (ReadBlobRequest handle offset)) = refl
room-stays attributes conn (Ok (ReadMultipleRequest handles)) = refl
room-stays attributes conn (Ok (ReadByGroupTypeRequest first last kind)) = refl
room-stays attributes conn (Ok (WriteRequest handle value)) = refl
room-stays attributes conn (Ok (PrepareWriteRequest handle offset part)) = refl
room-stays attributes conn (Ok (ExecuteWriteRequest flags)) = refl
room-stays attributes conn (Ok ConfirmationPdu) = refl
room-stays attributes conn (Ok (WriteCommandPdu handle value)) = refl
room-stays attributes conn (Err Ignored) = refl
room-stays attributes conn (Err (Invalid opcode)) = refl
room-stays attributes conn (Err (Unsupported opcode)) = refl

-- a row is written in its place
own-row : (key : Option KeyFacts) (found : Option Row) (bond own new : Row) → (is_some key ≡ true → found ≡ Some bond)
    → (if is_some key then own else new) ≡ slot_row_after (is_some key) found own new
own-row (Some key) found bond own new has = ap (λ (row : Option Row). if is_some row then own else new) (sym (has refl))
own-row None found bond own new has = refl

bond-row : (has_key : Bool) (bond : Bond) (new : Row) → (if has_key then new else bond.row) ≡ (bond_after has_key new bond).row
bond-row true bond new = refl
bond-row false bond new = refl

bond-owed : (has_key : Bool) (bond : Bond) (new : Row) → bond.owed ≡ (bond_after has_key new bond).owed
bond-owed true bond new = refl
bond-owed false bond new = refl

module _ (shared : SharedState) (found : Option Row) (bond : Row) (owed : Bool) (connection : ConnectionState) (pdu : Octets)
    (live : is_live connection.mark ≡ true)
    (bounds : IsWithinBounds (share_of shared.slots shared.buffers) (fragment_size_of shared.buffers) connection)
    (has : is_some (key_of connection) ≡ true → found ≡ Some bond) where
  abbrev slot_state : SlotState
  slot_state = slot_state_of shared connection connection.given

  abbrev asked : Question
  asked = request_of pdu (connection_mtu shared connection)

  abbrev conn : Bearer
  conn = bearer_of shared connection

  abbrev stored : Stored
  stored = stored_by shared.table (row_in_force bond connection) conn asked

  abbrev then-served : Effect
  then-served = served shared bond owed connection pdu asked

  same-conn : slot_bearer shared.time slot_state ≡ conn
  same-conn = connection_kept shared connection connection.given

  same-row : slot_row_in_force found slot_state ≡ row_in_force bond connection
  same-row = row_kept shared connection connection.given found bond has

  same-stored : stored_of shared.table shared.time found pdu slot_state ≡ stored
  same-stored = λ i. stored_by shared.table (same-row i) (same-conn i) asked

  same-full : (is_due asked && is_full shared connection) ≡ overflows pdu slot_state
  same-full = ap (λ (full : Bool). is_due asked && full) (full_kept shared bond owed connection live bounds)

  -- what it said tells the connection that is left
  said-then : Follows (conn_after shared.table.attributes conn asked)
      (Answered asked (answer_to shared.table (row_in_force bond connection) conn asked) ∷ connection.said)
  said-then = asked_next shared.table (row_in_force bond connection) conn asked connection.said (record { mtu = refl; exchanged = refl; queue = refl })

  abbrev left : SlotState
  left = record (with_conn (conn_after shared.table.attributes (slot_bearer shared.time slot_state) asked) slot_state) {
    row = slot_row_after (is_some slot_state.link.key) found slot_state.row (stored_of shared.table shared.time found pdu slot_state).row;
    pending = pending_after pdu slot_state.pending;
    outgoing = with_response slot_state.outgoing (answer_to shared.table (slot_row_in_force found slot_state) (slot_bearer shared.time slot_state) asked);
  }

  row-left : then-served.connection.row ≡ left.row
  row-left =
      own-row (key_of connection) found bond connection.row stored.row has
      ∙ λ i. slot_row_after (is_some (sym (link_key shared connection connection.given) i)) found connection.row (sym same-stored i).row

  outgoing-left : outgoing_of shared then-served.connection connection.given ≡ left.outgoing
  outgoing-left =
      queued_kept shared bond owed connection live bounds (map att_pdu (option_to_list (answer_to shared.table (row_in_force bond connection) conn asked)))
      ∙ λ i. with_response slot_state.outgoing (answer_to shared.table (sym same-row i) (sym same-conn i) asked)

  abbrev conn-left : Bearer
  conn-left = conn_after shared.table.attributes conn asked

  rx-left : conn-left.rx_mtu ≡ shared.rx_mtu
  rx-left = room-stays shared.table.attributes conn asked

  mtu-left : connection_mtu shared then-served.connection ≡ conn-left.mtu
  mtu-left = sym (said-then.mtu ∙ ap (λ (rx_mtu : Mtu). mtu_in rx_mtu then-served.connection.said) rx-left)

  kept-left : slot_state_of shared then-served.connection connection.given ≡ left
  kept-left =
      (λ i. record slot_state {
        mtu = mtu-left i;
        rx_mtu = sym rx-left i;
        exchanged = sym said-then.exchanged i;
        queue = sym said-then.queue i;
        row = row-left i;
        pending = pending_after pdu connection.pending;
        outgoing = outgoing-left i;
      })
      ∙ ap (λ (by : Bearer). record (with_conn (conn_after shared.table.attributes by asked) slot_state)
      { row = left.row; pending = left.pending; outgoing = left.outgoing }) (sym same-conn)

  kept-asked : (full : Bool) → slot_state_of shared (if full then effect_on_connection shared bond owed (after_ending connection remote_user_terminated)
      else then-served).connection connection.given
      ≡ (if full then slot_after_ending remote_user_terminated slot_state else left)
  kept-asked true = ended_kept shared connection remote_user_terminated connection.given
  kept-asked false = kept-left

  there : is_there connection.mark ≡ true
  there = live_there connection.mark live

  there-asked : (full : Bool)
      → is_there (if full then effect_on_connection shared bond owed (after_ending connection remote_user_terminated) else then-served).connection.mark ≡ true
  there-asked true = refl
  there-asked false = there

  asks-turn : effect_of shared bond owed connection (Asks pdu)
      ≡ (if overflows pdu slot_state then effect_on_connection shared bond owed (after_ending connection remote_user_terminated) else then-served)
  unfolding live_effect
  asks-turn =
      live_turned shared bond owed connection live (Asks pdu)
      ∙ ap (λ (full : Bool). if full then effect_on_connection shared bond owed (after_ending connection remote_user_terminated) else then-served) same-full

  -- what is served: what the slot keeps
  pub served_kept : slot_state_if_there shared (effect_of shared bond owed connection (Asks pdu)).connection connection.given
      ≡ option_map (slot_after_request shared.table shared.time found pdu) (slot_state_if_there shared connection connection.given)
  served_kept =
      let new : Effect = if overflows pdu slot_state then effect_on_connection shared bond owed (after_ending connection remote_user_terminated)
      else then-served in
      ap (λ (effect : Effect). slot_state_if_there shared effect.connection connection.given) asks-turn
      ∙ becomes shared connection new.connection connection.given (slot_after_request shared.table shared.time found pdu) there
      (there-asked (overflows pdu slot_state)) (kept-asked (overflows pdu slot_state))

  -- the values of the table, and those of them that are notified
  pub served_values : (effect_of shared bond owed connection (Asks pdu)).values ≡ (table_after shared.table shared.time found pdu slot_state).values
  served_values =
      ap (λ (effect : Effect). effect.values) asks-turn
      ∙ (elim (overflows pdu slot_state) as
      (λ (full : Bool). (if full then effect_on_connection shared bond owed (after_ending connection remote_user_terminated) else then-served).values
      ≡ (if full then shared.table else record shared.table { values = (stored_of shared.table shared.time found pdu slot_state).values }).values) [
        | true ↦ refl
        | false ↦ ap (λ (by : Stored). by.values) (sym same-stored)
      ])

  pub served_raised : (effect_of shared bond owed connection (Asks pdu)).to_notify
      ≡ values_among shared.table.attributes (handles_written_by shared.table shared.time found pdu slot_state)
  served_raised =
      let handles : List Handle = handles_by shared.table (slot_row_in_force found slot_state) (slot_bearer shared.time slot_state) asked in
      ap (λ (effect : Effect). effect.to_notify) asks-turn
      ∙ (elim (overflows pdu slot_state) as
      (λ (full : Bool). (if full then effect_on_connection shared bond owed (after_ending connection remote_user_terminated) else then-served).to_notify
      ≡ values_among shared.table.attributes (if full then [] else handles)) [
        | true ↦ refl
        | false ↦ λ i. values_among shared.table.attributes (handles_by shared.table (sym same-row i) (sym same-conn i) asked)
      ])

  pub served_raised_here : (effect_of shared bond owed connection (Asks pdu)).to_notify_here ≡ []
  served_raised_here =
      ap (λ (effect : Effect). effect.to_notify_here) asks-turn
      ∙ (elim (overflows pdu slot_state) as
      (λ (full : Bool). (if full then effect_on_connection shared bond owed (after_ending connection remote_user_terminated) else then-served).to_notify_here
      ≡ []) [ true ↦ refl | false ↦ refl ])

  -- and the bond of its peer
  abbrev bonded : Bond
  bonded = record { row = bond; owed = owed }

  abbrev bond-left : Bond
  bond-left =
      with_owed_after (confirms_changes shared.changer pdu slot_state)
      (bond_after (is_some slot_state.link.key) (stored_of shared.table shared.time found pdu slot_state).row bonded)

  bond-row-left : bond_row_after connection bond stored.row ≡ bond-left.row
  bond-row-left =
      bond-row (is_some (key_of connection)) bonded stored.row
      ∙ λ i. (bond_after (is_some (sym (link_key shared connection connection.given) i)) (sym same-stored i).row bonded).row

  owed-left : owed_after shared connection pdu owed ≡ bond-left.owed
  owed-left =
      let knows : Bool = option_map_or (is_told connection.pending) shared.changer false in
      ap (λ (confirms : Bool). owed && not confirms) (and_assoc (is_confirmation pdu) (is_some (key_of connection)) knows)
      ∙ (λ i. owed && not (is_confirmation pdu && (is_some (sym (link_key shared connection connection.given) i) && knows)))
      ∙ ap (λ (was : Bool). was && not (confirms_changes shared.changer pdu slot_state))
      (bond-owed (is_some slot_state.link.key) bonded (stored_of shared.table shared.time found pdu slot_state).row)

  pub served_bond : (effect_of shared bond owed connection (Asks pdu)).bond
      ≡ (bond_served shared.table shared.time shared.changer found pdu slot_state bonded).row
  served_bond =
      ap (λ (effect : Effect). effect.bond) asks-turn
      ∙ (elim (overflows pdu slot_state) as
      (λ (full : Bool). (if full then effect_on_connection shared bond owed (after_ending connection remote_user_terminated) else then-served).bond
      ≡ (if full then bonded else bond-left).row) [ true ↦ refl | false ↦ bond-row-left ])

  pub served_owed : (effect_of shared bond owed connection (Asks pdu)).owed
      ≡ (bond_served shared.table shared.time shared.changer found pdu slot_state bonded).owed
  served_owed =
      ap (λ (effect : Effect). effect.owed) asks-turn
      ∙ (elim (overflows pdu slot_state) as
      (λ (full : Bool). (if full then effect_on_connection shared bond owed (after_ending connection remote_user_terminated) else then-served).owed
      ≡ (if full then bonded else bond-left).owed) [ true ↦ refl | false ↦ owed-left ])
