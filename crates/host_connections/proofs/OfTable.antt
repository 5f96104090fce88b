-- What slots keep is of the table, whatever happens to them, and so there is room for what comes to wait.
use Rattle.std.proofs.Common.{◌≡◌, ℕ, zero, suc, ◌+◌, ◌<◌, ◌==◌, Bool, true, false, ◌&&◌, ◌||◌, if◌then◌else◌, List, [], ◌∷◌, length, set, slice_get, Option, Some, None, refl, sym, ap, subst, ◌∙◌, arith}
use Rattle.std.specs.Prelude.{is_some, nat_lt, IfSome, IsSome}
use Rattle.std.specs.Option.{option_map, option_map_or}
use Rattle.std.proofs.lemmas.Bool.{cases_eq}
use Rattle.std.proofs.lemmas.Bool.Decides.{nat_tests}
use Rattle.std.proofs.lemmas.List.Elements.{All-nil, All-cons, All-head, All-tail}
use Rattle.std.proofs.lemmas.Option.{slice_get_within}
use Rattle.std.proofs.Math.Logic.{⊎_elim}
use Rattle.att_numbers.specs.Types.{Handle, Row}
use Rattle.att_numbers.specs.declared.limit.TheConstants.{MAX_CONFIGURATIONS}
use Rattle.att_attributes.specs.declared.attr.Attr.{Attr}
use Rattle.att_attributes.specs.Attributes.{is_configuration_at}
use Rattle.att_table.proofs.Kept.{row_of_kept}
use Rattle.att_table.specs.ConfigRow.{has_entry, kept_row, HasOneEntryEach, IsRowOf}
use Rattle.att_table.specs.Facts.{IsTable}
use Rattle.att_table.specs.Table.{Contents}
use Rattle.gatt_conn.specs.Answer.{answer_to, conn_after, is_confirmation, writing_asked}
use Rattle.gatt_conn.specs.Connection.{Bearer}
use Rattle.gatt_laws.proofs.invariants.RowsOfTheTable.{written_row}
use Rattle.gatt_laws.proofs.invariants.WaitingOfTheTable.{configured_where_wanted, notified_configured}
use Rattle.gatt_laws.specs.laws.WaitingOfTheTable.{HasConfiguration, AreConfigured}
use Rattle.gatt_laws.specs.machine.ConnectionState.{KeyReply}
use Rattle.gatt_laws.specs.machine.Effect.{authentication_failure, lost_encryption, remote_user_terminated}
use Rattle.host_connections.proofs.AtPlace.{lent_at}
use Rattle.host_connections.proofs.Covering.{at-other, at-same}
use Rattle.host_connections.proofs.Found.{clash}
use Rattle.host_connections.specs.declared.slot.Use.{Use}
use Rattle.host_connections.specs.declared.slot.Use.TheVariants.{Live}
use Rattle.host_connections.specs.Hearing.{Delivery, HearerFacts, delivery_of, delivery_when_notifying, hearer_facts_of, row_by_key, slot_row_in_force, with_delivery}
use Rattle.host_connections.specs.OfTable.{IsOfTable, SlotIsOfTable, HasBondsOfTable, AreOfTable, AreOfTableIfAny}
use Rattle.host_connections.specs.Request.{bond_after, bond_served, confirms_changes, overflows, pending_after, question_of, slot_after_request, slot_row_after, stored_of, table_after, with_conn, with_owed_after, with_response}
use Rattle.host_connections.specs.SlotEffects.{after_link_step, after_table, slot_after_ending}
use Rattle.host_connections.specs.SlotState.{SlotState, slot_bearer, slot_standing}
use Rattle.host_connections.specs.Slots.{SlotStates, all_after_table, slot_notified, slot_state_at, slots_at}
use Rattle.host_connections.specs.Use.{slot_state_from, slot_state_where}
use Rattle.gatt_subs.specs.declared.bond.Bond.{Bond}
use Rattle.gatt_subs.specs.Changes.{with_changes_owed}
use Rattle.gatt_subs.specs.Hearing.{wants_indications}
use Rattle.gatt_subs.specs.Indications.{Indications, after_confirmation, after_replacement, is_waiting, HaveOnePlace}
use Rattle.gatt_subs.specs.Room.{has_room_to_wait}
use Rattle.gatt_subs.specs.Rows.{Subscriptions, bond_of, kept_bond, row_of, with_row, ChangesBond}
use Rattle.le_acl.specs.Sending.{Sending}
use Rattle.le_hci.specs.declared.peer.Peer.{Peer}
use Rattle.le_security.proofs.Peers.{equal_peers}
use Rattle.le_security.specs.Entry.{same_peer}
use Rattle.le_security.specs.Link.{Linking, Step, after_step}
use Rattle.octet_io.specs.Number.{Octets}

-- Values that wait are no more than a row may have entries: each stands for an entry of its configuration.

abbrev entries : List Handle → Row
entries [] = []
entries (handle ∷ handles) = (handle + 1, 0) ∷ entries handles

next-same : (one other : ℕ) → ((one + 1) == (other + 1)) ≡ (one == other)
next-same one other = grind (arith, nat_tests)

same-entry : (waiting : List Handle) (handle : Handle) → has_entry (entries waiting) (handle + 1) ≡ is_waiting waiting handle
same-entry [] handle = refl
same-entry (first ∷ rest) handle = λ i. next-same first handle i || same-entry rest handle i

as-many : (waiting : List Handle) → length (entries waiting) ≡ length waiting
as-many [] = refl
as-many (first ∷ rest) = grind (arith, as-many rest)

once-each : (waiting : List Handle) → HaveOnePlace waiting → HasOneEntryEach (entries waiting)
once-each [] once = tt
once-each (first ∷ rest) once = (same-entry rest first ∙ once.0, once-each rest once.3)

are-entries : (attributes : List Attr) (waiting : List Handle) → AreConfigured attributes waiting → IsRowOf attributes (entries waiting)
are-entries attributes [] all = All-nil (λ (entry : Handle × ℕ). is_configuration_at attributes entry.0 ≡ true)
are-entries attributes (first ∷ rest) all =
    All-cons (λ (entry : Handle × ℕ). is_configuration_at attributes entry.0 ≡ true) (first + 1, 0) (entries rest)
    (All-head (HasConfiguration attributes) first rest all) (are-entries attributes rest (All-tail (HasConfiguration attributes) first rest all))

-- so there is room for one of which a client has asked for indications
pub room_to_wait : (table : Contents) (row : Row) (waiting : List Handle) (handle : Handle) → IsTable table → IsRowOf table.attributes row
    → AreConfigured table.attributes waiting
    → HaveOnePlace waiting → wants_indications row handle ≡ true → has_room_to_wait MAX_CONFIGURATIONS waiting handle ≡ true
room_to_wait table row waiting handle is of all once wanted =
    let room : (has_entry (entries waiting) (handle + 1) || nat_lt (length (entries waiting)) MAX_CONFIGURATIONS) ≡ true =
    is.rows (handle + 1) (configured_where_wanted table.attributes row handle of wanted) (entries waiting) (are-entries table.attributes waiting all)
    (once-each waiting once) in
    sym (λ i. same-entry waiting handle i || nat_lt (as-many waiting i) MAX_CONFIGURATIONS) ∙ room

-- the row in force is one of the table
pub force_of_table : (attributes : List Attr) (has_key : Bool) (bond : Option Row) (own : Row) → IfSome bond (λ row. IsRowOf attributes row)
    → IsRowOf attributes own
    → IsRowOf attributes (row_by_key has_key bond own)
force_of_table attributes true (Some row) own of is = of
force_of_table attributes true None own of is = is
force_of_table attributes false bond own of is = is

pub row_at_of_table : (attributes : List Attr) (rows : Subscriptions) (slots : SlotStates) → AreOfTable attributes rows slots → (place : ℕ)
    → IfSome (slot_state_at slots place) (λ slot_state. IsRowOf attributes (slot_row_in_force (row_of rows slot_state.peer) slot_state))
row_at_of_table attributes rows slots of place = by (slot_state_at slots place) (of.each place)
  where
    by : (slot : Option SlotState) → SlotIsOfTable attributes slot
        → IfSome slot (λ slot_state. IsRowOf attributes (slot_row_in_force (row_of rows slot_state.peer) slot_state))
    by None is = tt
    by (Some slot_state) is =
        force_of_table attributes (is_some slot_state.link.key) (row_of rows slot_state.peer) slot_state.row (of.bonds slot_state.peer) is.row

-- of a connection that serves, by the fields of its slot
pub room_in_slot : (table : Contents) (rows : Subscriptions) (used : Use) (handle : ℕ) (peer : Peer) (key_known : Bool) (until : ℕ) (row : Row) (link : Linking)
    (conn : Bearer)
    (pending : Indications) (sender : Sending) (reply : Option KeyReply) (reason : Option ℕ) (force : Row) (value : Handle) → IsTable table
    → HasBondsOfTable table.attributes rows
    → used ≡ Live → SlotIsOfTable table.attributes (slot_state_where used handle peer key_known until row link conn pending sender reply reason)
    → force ≡ row_by_key (is_some link.key) (row_of rows peer) row
    → HaveOnePlace pending.waiting → wants_indications force value ≡ true → has_room_to_wait MAX_CONFIGURATIONS pending.waiting value ≡ true
room_in_slot table rows used handle peer key_known until row link conn pending sender reply reason force value is bonds live of same once wanted =
    let kept : IsOfTable table.attributes (slot_state_from true handle peer key_known until row link conn pending sender reply reason) =
    subst (λ (it : Use). SlotIsOfTable table.attributes (slot_state_where it handle peer key_known until row link conn pending sender reply reason)) live of in
    room_to_wait table force pending.waiting value is
    (subst (λ (it : Row). IsRowOf table.attributes it) (sym same)
    (force_of_table table.attributes (is_some link.key) (row_of rows peer) row (bonds peer) kept.row))
    (kept.waiting refl) once wanted

-- A value is notified to a connection.

pub notified_of_table : (table : Contents) (now : ℕ) (rows : Subscriptions) (handle : Handle) → HasBondsOfTable table.attributes rows
    → (slot : Option SlotState)
    → SlotIsOfTable table.attributes slot → SlotIsOfTable table.attributes (slot_notified table now rows handle slot)
notified_of_table table now rows handle bonds None of = tt
notified_of_table table now rows handle bonds (Some slot_state) of =
    let ear : HearerFacts = hearer_facts_of now (row_of rows slot_state.peer) slot_state in
    let told : Delivery = delivery_when_notifying table ear handle (delivery_of slot_state) in
    let force : IsRowOf table.attributes ear.row =
    force_of_table table.attributes (is_some slot_state.link.key) (row_of rows slot_state.peer) slot_state.row (bonds slot_state.peer) of.row in
    elim slot_state.live as (λ (live : Bool). IsOfTable table.attributes (if live then with_delivery slot_state told else slot_state)) [
      | true ↦ record {
        row = of.row;
        waiting = λ live. notified_configured table.attributes slot_state.pending ear.row ear.standing handle force (of.waiting live);
      }
      | false ↦ of
    ]

-- the slot at a place is another, or is changed
set-of-table : (attributes : List Attr) (slots : SlotStates) (place : ℕ) (slot : Option SlotState) → place < length slots
    → ((other : ℕ) → SlotIsOfTable attributes (slot_state_at slots other)) → SlotIsOfTable attributes slot
    → (other : ℕ) → SlotIsOfTable attributes (slot_state_at (set slots place slot) other)
set-of-table attributes slots place slot within each is other = ⊎_elim
    (λ same. subst (λ (it : Option SlotState). SlotIsOfTable attributes it)
    (sym (ap (λ (at : ℕ). slot_state_at (set slots place slot) at) same ∙ at-same slots place slot within)) is)
    (λ apart. subst (λ (it : Option SlotState). SlotIsOfTable attributes it) (sym (at-other slots place other slot apart)) (each other))
    (cases_eq other place)

pub set_of_table : (attributes : List Attr) (rows : Subscriptions) (slots : SlotStates) (place : ℕ) (slot : Option SlotState) → place < length slots
    → AreOfTable attributes rows slots
    → SlotIsOfTable attributes slot → AreOfTable attributes rows (set slots place slot)
set_of_table attributes rows slots place slot within of is = record { bonds = of.bonds; each = set-of-table attributes slots place slot within of.each is }

mapped : (attributes : List Attr) (change : SlotState → SlotState)
    → ((slot_state : SlotState) → IsOfTable attributes slot_state → IsOfTable attributes (change slot_state))
    → (slot : Option SlotState) → SlotIsOfTable attributes slot → SlotIsOfTable attributes (option_map change slot)
mapped attributes change keeps None of = tt
mapped attributes change keeps (Some slot_state) of = keeps slot_state of

changed : (attributes : List Attr) (change : SlotState → SlotState)
    → ((slot_state : SlotState) → IsOfTable attributes slot_state → IsOfTable attributes (change slot_state))
    → (slots : SlotStates) (place : ℕ) → ((other : ℕ) → SlotIsOfTable attributes (slot_state_at slots other))
    → (other : ℕ) → SlotIsOfTable attributes (slot_state_at (slots_at place change slots) other)
changed attributes change keeps slots place each =
    elim (slice_get slots place) as (λ (found : Option (Option SlotState)). slice_get slots place ≡ found
    → (other : ℕ)
    → SlotIsOfTable attributes (slot_state_at (option_map_or (λ (slot : Option SlotState). set slots place (option_map change slot)) found slots) other)) [
      | None ↦ λ is. each
      | Some slot ↦ λ is.
          set-of-table attributes slots place (option_map change slot) (slice_get_within slots place slot is) each
          (mapped attributes change keeps slot
          (subst (λ (found : Option (Option SlotState)). SlotIsOfTable attributes (option_map_or (λ (it : Option SlotState). it) found None)) is (each place)))
    ] refl

-- a connection is ended, or something else becomes of it
either-of-table : (attributes : List Attr) (ended : Bool) (reason : ℕ) (slot_state other : SlotState) → IsOfTable attributes slot_state
    → IsOfTable attributes other
    → IsOfTable attributes (if ended then slot_after_ending reason slot_state else other)
either-of-table attributes true reason slot_state other of is = record { row = of.row; waiting = λ live. clash live refl }
either-of-table attributes false reason slot_state other of is = is

-- The key of its link changes.

linked : (attributes : List Attr) (step : Step) (slot_state : SlotState) → IsOfTable attributes slot_state
    → IsOfTable attributes (after_link_step step slot_state)
linked attributes step slot_state of =
    let link : Linking = after_step slot_state.link step in
    let new : SlotState = record slot_state { link = link } in
    let is : IsOfTable attributes new = record { row = of.row; waiting = of.waiting } in
    either-of-table attributes (lost_encryption slot_state.link.key link.key) authentication_failure new new is is

pub linked_of_table : (attributes : List Attr) (rows : Subscriptions) (slots : SlotStates) (place : ℕ) (step : Step) (lent left : Option SlotState)
    → place < length slots
    → lent ≡ slot_state_at slots place → left ≡ option_map (after_link_step step) lent → AreOfTable attributes rows slots
    → AreOfTable attributes rows (set slots place left)
linked_of_table attributes rows slots place step lent left within is changes of =
    set_of_table attributes rows slots place left within of
    (subst (λ (it : Option SlotState). SlotIsOfTable attributes it) (sym changes)
    (mapped attributes (after_link_step step) (linked attributes step) lent
    (subst (λ (it : Option SlotState). SlotIsOfTable attributes it) (sym is) (of.each place))))

-- It is served a PDU.

confirmed : (attributes : List Attr) (pending : Indications) (confirms : Bool) → AreConfigured attributes pending.waiting
    → AreConfigured attributes (let after : Indications = if confirms then after_confirmation pending else pending in after).waiting
confirmed attributes pending true all = all
confirmed attributes pending false all = all

module _ (table : Contents) (now : ℕ) (pdu : Octets) where
  stored : (bond : Option Row) (slot_state : SlotState) → IfSome bond (λ row. IsRowOf table.attributes row) → IsRowOf table.attributes slot_state.row
      → IsRowOf table.attributes (stored_of table now bond pdu slot_state).row
  stored bond slot_state bond-is own =
      written_row table (slot_row_in_force bond slot_state) (slot_standing now slot_state) (writing_asked slot_state.queue (question_of pdu slot_state))
      (force_of_table table.attributes (is_some slot_state.link.key) bond slot_state.row bond-is own)

  row-after : (test : Bool) (own new : Row) → IsRowOf table.attributes own → IsRowOf table.attributes new → IsRowOf table.attributes (if test then own else new)
  row-after true own new first second = first
  row-after false own new first second = second

  asked : (bond : Option Row) (slot_state : SlotState) → IfSome bond (λ row. IsRowOf table.attributes row) → IsOfTable table.attributes slot_state
      → IsOfTable table.attributes (slot_after_request table now bond pdu slot_state)
  asked bond slot_state bond-is of =
      let conn : Bearer = slot_bearer now slot_state in
      let new : Row = (stored_of table now bond pdu slot_state).row in
      let served : SlotState = record (with_conn (conn_after table.attributes conn (question_of pdu slot_state)) slot_state) {
        row = slot_row_after (is_some slot_state.link.key) bond slot_state.row new;
        pending = pending_after pdu slot_state.pending;
        outgoing = with_response slot_state.outgoing (answer_to table (slot_row_in_force bond slot_state) conn (question_of pdu slot_state));
      } in
      either-of-table table.attributes (overflows pdu slot_state) remote_user_terminated slot_state served of (record {
        row = row-after (is_some slot_state.link.key && is_some bond) slot_state.row new of.row (stored bond slot_state bond-is of.row);
        waiting = λ live. confirmed table.attributes slot_state.pending (is_confirmation pdu) (of.waiting live);
      })

  bond-asked : (changer : Option Handle) (row : Option Row) (slot_state : SlotState) (bond : Bond) → IfSome row (λ row. IsRowOf table.attributes row)
      → IsRowOf table.attributes slot_state.row
      → IsRowOf table.attributes bond.row → IsRowOf table.attributes (bond_served table now changer row pdu slot_state bond).row
  bond-asked changer row slot_state bond row-is own is =
      let new : Row = (stored_of table now row pdu slot_state).row in
      elim (overflows pdu slot_state) as (λ (full : Bool). IsRowOf table.attributes (let after : Bond = if full then bond
      else with_owed_after (confirms_changes changer pdu slot_state) (bond_after (is_some slot_state.link.key) new bond) in after).row) [
        | true ↦ is
        | false ↦ elim (is_some slot_state.link.key) as (λ (has : Bool). IsRowOf table.attributes (let after : Bond = if has then with_row new bond else bond in
            after).row) [
              | true ↦ stored row slot_state row-is own
              | false ↦ is
            ]
      ]

  same-attributes : (bond : Option Row) (slot_state : SlotState) → (table_after table now bond pdu slot_state).attributes ≡ table.attributes
  same-attributes bond slot_state =
      elim (overflows pdu slot_state) as (λ (full : Bool).
      (let after : Contents = if full then table else record table { values = (stored_of table now bond pdu slot_state).values } in
      after).attributes ≡ table.attributes) [
        | true ↦ refl
        | false ↦ refl
      ]

-- what of the bond of a peer is changed is of the table
bonds-changed : (attributes : List Attr) (change : Bond → Bond) (peer : Peer) (old new : Subscriptions) → ChangesBond change peer old new
    → ((bond : Bond) → IsRowOf attributes bond.row → IsRowOf attributes (change bond).row) → HasBondsOfTable attributes old → HasBondsOfTable attributes new
bonds-changed attributes change peer old new changes keeps of other =
    elim (same_peer peer other) as (λ (same : Bool). same_peer peer other ≡ same → IfSome (row_of new other) (λ row. IsRowOf attributes row)) [
      | true ↦ λ is.
          subst (λ (it : Peer). IfSome (row_of new it) (λ row. IsRowOf attributes row)) (equal_peers peer other is)
          (subst (λ (found : Option Bond). IfSome (option_map (λ (bond : Bond). bond.row) found) (λ row. IsRowOf attributes row)) (sym changes.bond)
          (both (bond_of old peer) (of peer)))
      | false ↦ λ apart.
          subst (λ (found : Option Bond). IfSome (option_map (λ (bond : Bond). bond.row) found) (λ row. IsRowOf attributes row))
          (sym (changes.others other apart)) (of other)
    ] refl
  where
    both : (found : Option Bond) → IfSome (option_map (λ (bond : Bond). bond.row) found) (λ row. IsRowOf attributes row)
        → IfSome (option_map (λ (bond : Bond). bond.row) (option_map change found)) (λ row. IsRowOf attributes row)
    both None is = tt
    both (Some bond) is = keeps bond is

pub served_of_table : (table new : Contents) (now : ℕ) (changer : Option Handle) (pdu : Octets) (rows after : Subscriptions) (slots : SlotStates) (place : ℕ)
    → AreOfTable table.attributes rows slots → IsSome (slot_state_at slots place)
    → IfSome (slot_state_at slots place) (λ slot_state. new ≡ table_after table now (row_of rows slot_state.peer) pdu slot_state)
    → IfSome (slot_state_at slots place)
    (λ slot_state. ChangesBond (bond_served table now changer (row_of rows slot_state.peer) pdu slot_state) slot_state.peer rows after)
    → AreOfTable new.attributes after
    (slots_at place (λ (slot_state : SlotState). slot_after_request table now (row_of rows slot_state.peer) pdu slot_state) slots)
served_of_table table new now changer pdu rows after slots place of = by (slot_state_at slots place) (of.each place)
  where
    served : SlotState → SlotState
    served slot_state = slot_after_request table now (row_of rows slot_state.peer) pdu slot_state

    by : (slot : Option SlotState) → SlotIsOfTable table.attributes slot → IsSome slot
        → IfSome slot (λ slot_state. new ≡ table_after table now (row_of rows slot_state.peer) pdu slot_state)
        → IfSome slot (λ slot_state. ChangesBond (bond_served table now changer (row_of rows slot_state.peer) pdu slot_state) slot_state.peer rows after)
        → AreOfTable new.attributes after (slots_at place served slots)
    by None is there becomes changes = cc there
    by (Some slot_state) is there becomes changes =
        let bond : Option Row = row_of rows slot_state.peer in
        let same : new.attributes ≡ table.attributes = ap (λ (it : Contents). it.attributes) becomes ∙ same-attributes table now pdu bond slot_state in
        subst (λ (attributes : List Attr). AreOfTable attributes after (slots_at place served slots)) (sym same) (record {
          bonds = bonds-changed table.attributes (bond_served table now changer bond pdu slot_state) slot_state.peer rows after changes
              (λ (it : Bond) row. bond-asked table now pdu changer bond slot_state it (of.bonds slot_state.peer) is.row row) of.bonds;
          each = changed table.attributes served (λ other other-is. asked table now pdu (row_of rows other.peer) other (of.bonds other.peer) other-is) slots
              place of.each;
        })

-- A table replaces another: of rows the entries stay that are of it, and nothing waits where a connection serves.

replaced : (old new : List Attr) (slot_state : SlotState) → IsOfTable new (after_table old new slot_state)
replaced old new slot_state =
    let row : Row = kept_row old new slot_state.row in
    elim slot_state.live as (λ (live : Bool). slot_state.live ≡ live
    → IsOfTable new (let kept' : SlotState = record slot_state { row = row } in
    if live then record kept' { queue = []; pending = after_replacement slot_state.pending } else kept')) [
      | true ↦ λ is. record { row = row_of_kept old new slot_state.row; waiting = λ live. All-nil (HasConfiguration new) }
      | false ↦ λ is. record { row = row_of_kept old new slot_state.row; waiting = λ live. clash live is }
    ] refl

each-replaced : (old new : List Attr) (slots : SlotStates) (place : ℕ) → SlotIsOfTable new (slot_state_at (all_after_table old new slots) place)
each-replaced old new [] place = tt
each-replaced old new (slot ∷ slots) zero = one slot
  where
    one : (slot : Option SlotState) → SlotIsOfTable new (option_map (after_table old new) slot)
    one None = tt
    one (Some slot_state) = replaced old new slot_state
each-replaced old new (slot ∷ slots) (suc place) = each-replaced old new slots place

pub replaced_of_table : (old : List Attr) (table announced : Contents) (changer : Option Handle) (rows kept owed : Subscriptions) (slots new : SlotStates)
    → announced.attributes ≡ table.attributes → new ≡ all_after_table old table.attributes slots
    → ((peer : Peer) → bond_of kept peer ≡ option_map (kept_bond old table.attributes) (bond_of rows peer))
    → ((peer : Peer) → bond_of owed peer ≡ option_map (with_changes_owed changer) (bond_of kept peer)) → AreOfTable announced.attributes owed new
replaced_of_table old table announced changer rows kept owed slots new same becomes keeps owes =
    subst (λ (attributes : List Attr). AreOfTable attributes owed new) (sym same)
    (subst (λ (it : SlotStates). AreOfTable table.attributes owed it) (sym becomes) (record {
      bonds = λ peer. subst (λ (found : Option Bond). IfSome (option_map (λ (bond : Bond). bond.row) found) (λ row. IsRowOf table.attributes row))
          (sym (owes peer ∙ ap (λ (found : Option Bond). option_map (with_changes_owed changer) found) (keeps peer))) (one (bond_of rows peer));
      each = each-replaced old table.attributes slots;
    }))
  where
    one : (found : Option Bond)
        → IfSome (option_map (λ (bond : Bond). bond.row) (option_map (with_changes_owed changer) (option_map (kept_bond old table.attributes) found)))
        (λ row. IsRowOf table.attributes row)
    one None = tt
    one (Some bond) = row_of_kept old table.attributes bond.row

-- Values that are notified.

pub of_table_if_any : (handles : List Handle) (attributes : List Attr) (rows : Subscriptions) (slots : SlotStates) → AreOfTable attributes rows slots
    → AreOfTableIfAny handles attributes rows slots
of_table_if_any [] attributes rows slots of = tt
of_table_if_any (handle ∷ handles) attributes rows slots of = of

-- and where there are some, they are
pub of_table_of_some : (handles : List Handle) (attributes : List Attr) (rows : Subscriptions) (slots : SlotStates) → 0 < length handles
    → AreOfTableIfAny handles attributes rows slots
    → AreOfTable attributes rows slots
of_table_of_some [] attributes rows slots some of = absurd (omega (arith, some))
of_table_of_some (handle ∷ handles) attributes rows slots some of = of

-- and so after what keeps it so
pub of_table_then : (handles : List Handle) (attributes : List Attr) (rows : Subscriptions) (slots new : SlotStates)
    → (AreOfTable attributes rows slots → AreOfTable attributes rows new)
    → AreOfTableIfAny handles attributes rows slots → AreOfTableIfAny handles attributes rows new
of_table_then [] attributes rows slots new keeps of = tt
of_table_then (handle ∷ handles) attributes rows slots new keeps of = keeps of

pub linked_at_of_table : (attributes : List Attr) (rows : Subscriptions) (slots left : SlotStates) (place : ℕ) (step : Step) → place < length slots
    → left ≡ slots_at place (after_link_step step) slots → AreOfTable attributes rows slots → AreOfTable attributes rows left
linked_at_of_table attributes rows slots left place step within is of =
    let lent : Option SlotState = slot_state_at slots place in
    let linked' : Option SlotState = option_map (after_link_step step) lent in
    subst (λ (it : SlotStates). AreOfTable attributes rows it) (lent_at slots place lent linked' within refl (after_link_step step) refl ∙ sym is)
    (linked_of_table attributes rows slots place step lent linked' within refl refl of)
