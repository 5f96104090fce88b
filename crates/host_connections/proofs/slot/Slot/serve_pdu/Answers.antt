use Rattle.std.proofs.Common.{◌≡◌, sym, ◌∙◌, ap, subst, false, refl, Option}
use Rattle.std.specs.Option.{option_map, option_map_or}
use Rattle.std.specs.Prelude.{◌==◌, ◌&&◌, is_some, length, IfSome, IsSome}
use Rattle.att_policy.specs.declared.standing.KeyFacts.{KeyFacts}
use Rattle.att_policy.specs.declared.standing.Standing.{Standing}
use Rattle.att_table.specs.ConfigRow.{IsRowOf}
use Rattle.host_connections.specs.Hearing.{slot_row_in_force}
use Rattle.host_connections.specs.SlotState.{SlotState}
use Rattle.host_connections.specs.Request.{bond_served, handles_written_by, slot_after_request, table_after}
use Rattle.host_connections.proofs.Confirming.{confirms_nothing}
use Rattle.host_connections.proofs.Served.{bond_of_served, bond_where_full, handles_served, kept_after_serving, row_of_table, table_served}
use Rattle.gatt_subs.specs.Indications.{is_told}
use Rattle.gatt_subs.specs.Rows.{row_of, ChangesBond}
use Rattle.host_connections.proofs.slot.Slot.serve_pdu.Goals as goal

pub answer_by_row-confirmed-requires-clause-row : goal.answer_by_row-confirmed-requires-clause-row
answer_by_row-confirmed-requires-clause-row c =
    let inside = c.self.inside in
    row_of_table c.args.table.now c.args.now c.args.changer.now c.args.pdu.now c.args.rows.now c.args.rows.now c.args.rows.now
    inside.handle inside.peer inside.key_known inside.until inside.row inside.link inside.conn inside.pending inside.sender inside.reply inside.reason
    inside.used
    c.is_some-has_key.result (c.is_some-has_key.ensures ∙ ap (λ (key : Option KeyFacts). is_some key) c.facts.ensures.key)
    (subst (λ (self : Option SlotState). IsSome self) (sym c.self.view_is) c.requires.there)
    (subst (λ (self : Option SlotState).
    IfSome self (λ slot_state. IsRowOf c.args.table.now.attributes (slot_row_in_force (row_of c.args.rows.now slot_state.peer) slot_state)))
    (sym c.self.view_is) c.requires.row)

pub returns-clause-bond : goal.returns-clause-bond
returns-clause-bond c =
    let inside = c.self.inside in
    let old = c.args.rows.now in
    let new = c.owe_unless_told.new.rows in
    subst (λ (self : Option SlotState). IfSome self (λ slot_state.
    ChangesBond (bond_served c.args.table.now c.args.now c.args.changer.now (row_of old slot_state.peer) c.args.pdu.now slot_state) slot_state.peer old new))
    c.self.view_is
    (bond_of_served c.args.table.now c.args.now c.args.changer.now c.args.pdu.now old c.answer_by_row-confirmed.new.rows new
    inside.handle inside.peer inside.key_known inside.until inside.row inside.link inside.conn inside.pending inside.sender inside.reply inside.reason
    inside.used
    c.is_some-has_key.result (is_some inside.link.key && option_map_or (is_told inside.pending) c.args.changer.now false) c.stand.new.self
    c.answer_by_row-confirmed.result
    (sym c.is_full.ensures.full ∙ c.if-is_full.false)
    (c.is_some-has_key.ensures ∙ ap (λ (key : Option KeyFacts). is_some key) c.facts.ensures.key)
    (c.stand.ensures ∙ ap (λ (standing : Standing). record inside.conn { standing = standing }) c.standing-standing.ensures)
    c.answer_by_row-confirmed.ensures.answered.confirmed refl c.answer_by_row-confirmed.ensures.bond c.owe_unless_told.ensures)

pub returns-clause-after : goal.returns-clause-after
returns-clause-after c =
    let inside = c.self.inside in
    let old = c.args.rows.now in
    kept_after_serving c.args.table.now c.args.now c.args.changer.now c.args.pdu.now old old old
    inside.handle inside.peer inside.key_known inside.until inside.row inside.link inside.conn inside.pending inside.sender inside.reply inside.reason
    inside.used
    c.is_some-has_key.result c.answer_by_row-confirmed.result c.stand.new.self c.answer_by_row-confirmed.new.own c.answer_by_row-confirmed.new.conn
    c.take_confirmation.new.pending c.answer_by_row-confirmed.new.sender
    (sym c.is_full.ensures.full ∙ c.if-is_full.false)
    (c.is_some-has_key.ensures ∙ ap (λ (key : Option KeyFacts). is_some key) c.facts.ensures.key)
    (c.stand.ensures ∙ ap (λ (standing : Standing). record inside.conn { standing = standing }) c.standing-standing.ensures)
    c.answer_by_row-confirmed.ensures.answered.confirmed c.answer_by_row-confirmed.ensures.own c.answer_by_row-confirmed.ensures.answered.conn
    c.take_confirmation.ensures.pending
    c.answer_by_row-confirmed.ensures.queued
    ∙ ap (λ (self : Option SlotState).
    option_map (λ slot_state. slot_after_request c.args.table.now c.args.now (row_of old slot_state.peer) c.args.pdu.now slot_state) self) c.self.view_is

pub returns-then-is_full-clause-confirmed : goal.returns-then-is_full-clause-confirmed
returns-then-is_full-clause-confirmed c =
    confirms_nothing c.args.pdu.now c.self.inside.conn.mtu (length c.self.inside.sender.outgoing.queue == 16) (sym c.is_full.ensures.full ∙ c.if-is_full.true)
    c.args.self.now

pub returns-then-is_full-clause-bond : goal.returns-then-is_full-clause-bond
returns-then-is_full-clause-bond c =
    let inside = c.self.inside in
    let rows = c.args.rows.now in
    subst (λ (self : Option SlotState). IfSome self (λ slot_state.
    ChangesBond (bond_served c.args.table.now c.args.now c.args.changer.now (row_of rows slot_state.peer) c.args.pdu.now slot_state) slot_state.peer rows rows))
    c.self.view_is
    (bond_where_full c.args.table.now c.args.now c.args.changer.now c.args.pdu.now rows rows rows
    inside.handle inside.peer inside.key_known inside.until inside.row inside.link inside.conn inside.pending inside.sender inside.reply inside.reason
    inside.used
    (sym c.is_full.ensures.full ∙ c.if-is_full.true))

pub returns-clause-table : goal.returns-clause-table
returns-clause-table c =
    let inside = c.self.inside in
    let old = c.args.rows.now in
    let new = c.answer_by_row-confirmed.new.table in
    let left = c.answer_by_row-confirmed.ensures.answered.left in
    subst (λ (self : Option SlotState).
    IfSome self (λ slot_state. new ≡ table_after c.args.table.now c.args.now (row_of old slot_state.peer) c.args.pdu.now slot_state)) c.self.view_is
    (table_served c.args.table.now c.args.now c.args.changer.now c.args.pdu.now old old old
    inside.handle inside.peer inside.key_known inside.until inside.row inside.link inside.conn inside.pending inside.sender inside.reply inside.reason
    inside.used
    c.is_some-has_key.result c.stand.new.self new
    (sym c.is_full.ensures.full ∙ c.if-is_full.false)
    (c.is_some-has_key.ensures ∙ ap (λ (key : Option KeyFacts). is_some key) c.facts.ensures.key)
    (c.stand.ensures ∙ ap (λ (standing : Standing). record inside.conn { standing = standing }) c.standing-standing.ensures)
    (λ i. record { attributes = left.attributes i; values = left.values i }))

pub returns-clause-written : goal.returns-clause-written
returns-clause-written c =
    let inside = c.self.inside in
    let old = c.args.rows.now in
    let written = c.answer_by_row-confirmed.new.written.items in
    subst (λ (self : Option SlotState).
    IfSome self (λ slot_state. written ≡ handles_written_by c.args.table.now c.args.now (row_of old slot_state.peer) c.args.pdu.now slot_state)) c.self.view_is
    (handles_served c.args.table.now c.args.now c.args.changer.now c.args.pdu.now old old old
    inside.handle inside.peer inside.key_known inside.until inside.row inside.link inside.conn inside.pending inside.sender inside.reply inside.reason
    inside.used
    c.is_some-has_key.result c.stand.new.self written
    (sym c.is_full.ensures.full ∙ c.if-is_full.false)
    (c.is_some-has_key.ensures ∙ ap (λ (key : Option KeyFacts). is_some key) c.facts.ensures.key)
    (c.stand.ensures ∙ ap (λ (standing : Standing). record inside.conn { standing = standing }) c.standing-standing.ensures)
    c.answer_by_row-confirmed.ensures.answered.touched)

pub invariant_of-self : goal.invariant_of-self
invariant_of-self c = c.self.invariant
