-- What serving a PDU leaves of the bond of the peer.
use Rattle.std.proofs.Common.{◌≡◌, ℕ, Bool, true, false, List, [], Option, Some, refl, sym, ap, ◌∙◌, subst}
use Rattle.std.specs.Prelude.{◌&&◌, is_some, if◌then◌else◌, IfSome, IsSome}
use Rattle.std.specs.Option.{option_map, option_map_or}
use Rattle.att_numbers.specs.Types.{Handle, Row}
use Rattle.att_pdu.specs.Grammar.{request_of}
use Rattle.att_table.specs.ConfigRow.{IsRowOf}
use Rattle.att_table.specs.Table.{Contents}
use Rattle.gatt_conn.specs.Answer.{Question, answer_to, conn_after, handles_by, stored_by, is_confirmation}
use Rattle.gatt_conn.specs.Connection.{Bearer}
use Rattle.gatt_laws.specs.machine.Effect.{remote_user_terminated}
use Rattle.gatt_laws.specs.machine.ConnectionState.{KeyReply}
use Rattle.host_connections.specs.declared.slot.Use.{Use}
use Rattle.host_connections.specs.declared.slot.Use.TheVariants.{Free, Live, Ending}
use Rattle.host_connections.specs.Hearing.{row_by_key, slot_row_in_force}
use Rattle.host_connections.specs.SlotState.{SlotState, slot_bearer}
use Rattle.host_connections.specs.Request.{with_response, overflows, stored_of, bond_after, bond_served, confirms_changes, handles_written_by, slot_after_request, slot_row_after, pending_after, table_after, with_owed_after}
use Rattle.host_connections.specs.SlotEffects.{slot_after_ending}
use Rattle.host_connections.specs.Use.{slot_state_from, slot_state_where}
use Rattle.host_connections.proofs.Bonds.{changes-as, changes-nothing, changes-twice}
use Rattle.gatt_subs.specs.declared.bond.Bond.{Bond}
use Rattle.gatt_subs.specs.Indications.{Indications, after_confirmation, is_told}
use Rattle.gatt_subs.specs.Rows.{Subscriptions, row_of, ChangesBond}
use Rattle.le_acl.specs.Outgoing.{Outgoing}
use Rattle.le_acl.specs.Sending.{Sending}
use Rattle.le_hci.specs.declared.peer.Peer.{Peer}
use Rattle.le_security.specs.Link.{Linking}
use Rattle.octet_io.specs.Number.{Octets}

module _ (table : Contents) (now : ℕ) (changer : Option Handle) (pdu : Octets) (old mid new : Subscriptions) where
  in-turn : (slot_state : SlotState) → overflows pdu slot_state ≡ false
      → ChangesBond (bond_after (is_some slot_state.link.key) (stored_of table now (row_of old slot_state.peer) pdu slot_state).row) slot_state.peer old mid
      → ChangesBond (with_owed_after (confirms_changes changer pdu slot_state)) slot_state.peer mid new
      → ChangesBond (bond_served table now changer (row_of old slot_state.peer) pdu slot_state) slot_state.peer old new
  in-turn slot_state spare first second =
      let confirmed = with_owed_after (confirms_changes changer pdu slot_state) in
      let stored = bond_after (is_some slot_state.link.key) (stored_of table now (row_of old slot_state.peer) pdu slot_state).row in
      changes-as (λ (bond : Bond). confirmed (stored bond)) (bond_served table now changer (row_of old slot_state.peer) pdu slot_state) slot_state.peer old new
      (λ bond. sym (ap (λ (test : Bool). if test then bond else confirmed (stored bond)) spare))
      (changes-twice stored confirmed slot_state.peer old mid new first second)

  unwritten : (slot_state : SlotState) → overflows pdu slot_state ≡ true
      → ChangesBond (bond_served table now changer (row_of old slot_state.peer) pdu slot_state) slot_state.peer old old
  unwritten slot_state full =
      let confirmed = with_owed_after (confirms_changes changer pdu slot_state) in
      let stored = bond_after (is_some slot_state.link.key) (stored_of table now (row_of old slot_state.peer) pdu slot_state).row in
      changes-nothing (bond_served table now changer (row_of old slot_state.peer) pdu slot_state) slot_state.peer old
      (λ bond. ap (λ (test : Bool). if test then bond else confirmed (stored bond)) full)

  -- whether a slot serves or is ending makes no difference
  module _ (handle : ℕ) (peer : Peer) (key_known : Bool) (until : ℕ) (row : Row) (link : Linking) (conn : Bearer) (pending : Indications)
      (sender : Sending) (reply : Option KeyReply) (reason : Option ℕ) where
    abbrev kept_as : Bool → SlotState
    kept_as live = slot_state_from live handle peer key_known until row link conn pending sender reply reason

    stands-so : (used : Use) → overflows pdu (kept_as true) ≡ false
        → ChangesBond (bond_after (is_some link.key) (stored_of table now (row_of old peer) pdu (kept_as true)).row) peer old mid
        → ChangesBond (with_owed_after (confirms_changes changer pdu (kept_as true))) peer mid new
        → IfSome (slot_state_where used handle peer key_known until row link conn pending sender reply reason)
        (λ slot_state. ChangesBond (bond_served table now changer (row_of old slot_state.peer) pdu slot_state) slot_state.peer old new)
    stands-so Free spare first second = tt
    stands-so Live spare first second = in-turn (kept_as true) spare first second
    stands-so Ending spare first second = in-turn (kept_as false) spare first second

    -- as the calls have it
    pub bond_of_served : (used : Use) (has_key knows : Bool) (stood : Bearer) (told : Bool) → overflows pdu (kept_as true) ≡ false
        → has_key ≡ is_some link.key → stood ≡ slot_bearer now (kept_as true) → told ≡ is_confirmation pdu
        → knows ≡ (is_some link.key && option_map_or (is_told pending) changer false)
        → ChangesBond (bond_after has_key (stored_by table (row_by_key has_key (row_of old peer) row) stood (request_of pdu stood.mtu)).row) peer old mid
        → ChangesBond (with_owed_after (told && knows)) peer mid new
        → IfSome (slot_state_where used handle peer key_known until row link conn pending sender reply reason)
        (λ slot_state. ChangesBond (bond_served table now changer (row_of old slot_state.peer) pdu slot_state) slot_state.peer old new)
    bond_of_served used has_key knows stood told spare key stands tells knows-is first second =
        stands-so used spare
        (subst (λ (has : Bool). ChangesBond (bond_after has (stored_by table (row_by_key has (row_of old peer) row)
        (slot_bearer now (kept_as true)) (request_of pdu conn.mtu)).row) peer old mid) key
        (subst (λ (by : Bearer). ChangesBond (bond_after has_key (stored_by table (row_by_key has_key (row_of old peer) row)
        by (request_of pdu by.mtu)).row) peer old mid) stands first))
        (subst (λ (it : Bool). ChangesBond (with_owed_after (it && (is_some link.key && option_map_or (is_told pending) changer false))) peer mid new) tells
        (subst (λ (it : Bool). ChangesBond (with_owed_after (told && it)) peer mid new) knows-is second))

    of_each : (P : SlotState → Type 0) → ((live : Bool) → P (kept_as live)) → (used : Use)
        → IfSome (slot_state_where used handle peer key_known until row link conn pending sender reply reason) P
    of_each P holds Free = tt
    of_each P holds Live = holds true
    of_each P holds Ending = holds false

    -- where there is no room for an answer that is due, nothing is written
    pub bond_where_full : (used : Use) → overflows pdu (kept_as true) ≡ true
        → IfSome (slot_state_where used handle peer key_known until row link conn pending sender reply reason)
        (λ slot_state. ChangesBond (bond_served table now changer (row_of old slot_state.peer) pdu slot_state) slot_state.peer old old)
    bond_where_full used full =
        of_each (λ slot_state. ChangesBond (bond_served table now changer (row_of old slot_state.peer) pdu slot_state) slot_state.peer old old)
        (λ live. unwritten (kept_as live) full) used

    -- and where there is room, the values and the handles that are written are those that serving tells
    pub table_served : (used : Use) (has_key : Bool) (stood : Bearer) (new_table : Contents) → overflows pdu (kept_as true) ≡ false
        → has_key ≡ is_some link.key → stood ≡ slot_bearer now (kept_as true)
        → new_table ≡ record table { values = (stored_by table (row_by_key has_key (row_of old peer) row) stood (request_of pdu stood.mtu)).values }
        → IfSome (slot_state_where used handle peer key_known until row link conn pending sender reply reason)
        (λ slot_state. new_table ≡ table_after table now (row_of old slot_state.peer) pdu slot_state)
    table_served used has_key stood new_table spare key stands is =
        of_each (λ slot_state. new_table ≡ table_after table now (row_of old slot_state.peer) pdu slot_state)
        (λ live. is
        ∙ (λ i. record table { values = (stored_by table (row_by_key (key i) (row_of old peer) row) (stands i) (request_of pdu (stands i).mtu)).values })
        ∙ sym (ap (λ (test : Bool). if test then table else record table { values = (stored_of table now (row_of old peer) pdu (kept_as live)).values }) spare))
        used

    pub handles_served : (used : Use) (has_key : Bool) (stood : Bearer) (written : List Handle) → overflows pdu (kept_as true) ≡ false
        → has_key ≡ is_some link.key → stood ≡ slot_bearer now (kept_as true)
        → written ≡ handles_by table (row_by_key has_key (row_of old peer) row) stood (request_of pdu stood.mtu)
        → IfSome (slot_state_where used handle peer key_known until row link conn pending sender reply reason)
        (λ slot_state. written ≡ handles_written_by table now (row_of old slot_state.peer) pdu slot_state)
    handles_served used has_key stood written spare key stands is =
        of_each (λ slot_state. written ≡ handles_written_by table now (row_of old slot_state.peer) pdu slot_state)
        (λ live. is ∙ (λ i. handles_by table (row_by_key (key i) (row_of old peer) row) (stands i) (request_of pdu (stands i).mtu))
        ∙ sym (ap (λ (test : Bool). if test then [] else handles_by table (row_by_key (is_some link.key) (row_of old peer) row) (slot_bearer now (kept_as live))
        (request_of pdu conn.mtu)) spare)) used

    -- a slot that is not free has a row in force
    pub row_of_table : (used : Use) (has_key : Bool) → has_key ≡ is_some link.key
        → IsSome (slot_state_where used handle peer key_known until row link conn pending sender reply reason)
        → IfSome (slot_state_where used handle peer key_known until row link conn pending sender reply reason)
        (λ slot_state. IsRowOf table.attributes (slot_row_in_force (row_of old slot_state.peer) slot_state))
        → IsRowOf table.attributes (row_by_key has_key (row_of old peer) row)
    row_of_table Free has_key key there of = cc there
    row_of_table Live has_key key there of =
        subst (λ (has : Bool). IsRowOf table.attributes (row_by_key has (row_of old peer) row)) (sym key) of
    row_of_table Ending has_key key there of =
        subst (λ (has : Bool). IsRowOf table.attributes (row_by_key has (row_of old peer) row)) (sym key) of

    -- what the fields of a slot keep is what serving leaves
    pub kept_after_serving : (used : Use) (has_key told : Bool) (stood : Bearer) (row-then : Row) (conn-then : Bearer) (pending-then : Indications)
        (sender-then : Sending)
        → overflows pdu (kept_as true) ≡ false → has_key ≡ is_some link.key → stood ≡ slot_bearer now (kept_as true) → told ≡ is_confirmation pdu
        → row-then
        ≡ slot_row_after has_key (row_of old peer) row (stored_by table (row_by_key has_key (row_of old peer) row) stood (request_of pdu stood.mtu)).row
        → conn-then ≡ conn_after table.attributes stood (request_of pdu stood.mtu)
        → pending-then ≡ (if told then after_confirmation pending else pending)
        → sender-then.outgoing ≡ with_response sender.outgoing (answer_to table (row_by_key has_key (row_of old peer) row) stood (request_of pdu stood.mtu))
        → slot_state_where used handle peer key_known until row-then link conn-then pending-then sender-then reply reason
        ≡ option_map (λ slot_state. slot_after_request table now (row_of old slot_state.peer) pdu slot_state)
        (slot_state_where used handle peer key_known until row link conn pending sender reply reason)
    kept_after_serving used has_key told stood row-then conn-then pending-then sender-then spare key stands tells row-is conn-is pending-is sender-is =
        elim used as (λ used. slot_state_where used handle peer key_known until row-then link conn-then pending-then sender-then reply reason
        ≡ option_map (λ slot_state. slot_after_request table now (row_of old slot_state.peer) pdu slot_state)
        (slot_state_where used handle peer key_known until row link conn pending sender reply reason)) [
          | Free ↦ refl
          | Live ↦ ap (λ (slot_state : SlotState). Some slot_state) (serves true ∙ not-full true)
          | Ending ↦ ap (λ (slot_state : SlotState). Some slot_state) (serves false ∙ not-full false)
        ]
      where
        force : Bool → Row
        force has = row_by_key has (row_of old peer) row

        asks : Bearer → Question
        asks by = request_of pdu by.mtu

        final : Bool → Row → Bearer → Indications → Outgoing → SlotState
        final live row' conn' pending' outgoing' = record {
          live = live;
          handle = handle;
          peer = peer;
          key_known = key_known;
          until = until;
          row = row';
          link = link;
          mtu = conn'.mtu;
          rx_mtu = conn'.rx_mtu;
          exchanged = conn'.exchanged;
          queue = conn'.queue;
          pending = pending';
          outgoing = outgoing';
          reply = reply;
          reason = reason;
        }

        stood' : Bearer
        stood' = slot_bearer now (kept_as true)

        row-path : row-then ≡ slot_row_after (is_some link.key) (row_of old peer) row (stored_by table (force (is_some link.key)) stood' (asks stood')).row
        row-path =
            row-is ∙ (λ i. slot_row_after (key i) (row_of old peer) row (stored_by table (force (key i)) (stands i) (asks (stands i))).row)

        conn-path : conn-then ≡ conn_after table.attributes stood' (asks stood')
        conn-path = conn-is ∙ (λ i. conn_after table.attributes (stands i) (asks (stands i)))

        pending-path : pending-then ≡ pending_after pdu pending
        pending-path = pending-is ∙ (λ i. if tells i then after_confirmation pending else pending)

        sender-path : sender-then.outgoing ≡ with_response sender.outgoing (answer_to table (force (is_some link.key)) stood' (asks stood'))
        sender-path = sender-is ∙ (λ i. with_response sender.outgoing (answer_to table (force (key i)) (stands i) (asks (stands i))))

        serves : (live : Bool) → slot_state_from live handle peer key_known until row-then link conn-then pending-then sender-then reply reason
            ≡ final live (slot_row_after (is_some link.key) (row_of old peer) row (stored_by table (force (is_some link.key)) stood' (asks stood')).row)
            (conn_after table.attributes stood' (asks stood')) (pending_after pdu pending)
            (with_response sender.outgoing (answer_to table (force (is_some link.key)) stood' (asks stood')))
        serves live = λ i. final live (row-path i) (conn-path i) (pending-path i) (sender-path i)

        not-full : (live : Bool)
            → final live (slot_row_after (is_some link.key) (row_of old peer) row (stored_by table (force (is_some link.key)) stood' (asks stood')).row)
            (conn_after table.attributes stood' (asks stood')) (pending_after pdu pending)
            (with_response sender.outgoing (answer_to table (force (is_some link.key)) stood' (asks stood')))
            ≡ slot_after_request table now (row_of old peer) pdu (kept_as live)
        not-full live = sym (ap (λ (test : Bool). if test then slot_after_ending remote_user_terminated (kept_as live) else
            final live (slot_row_after (is_some link.key) (row_of old peer) row (stored_by table (force (is_some link.key)) stood' (asks stood')).row)
            (conn_after table.attributes stood' (asks stood')) (pending_after pdu pending)
            (with_response sender.outgoing (answer_to table (force (is_some link.key)) stood' (asks stood')))) spare)
