use Rattle.std.proofs.Common.{◌≡◌, Option, subst, sym, ap, ◌∙◌, arith, rules}
use Rattle.std.proofs.lemmas.Bool.{OnFalse_from, OnTrue_from}
use Rattle.host_connections.proofs.Alone.{gives_as_before, waits_as_before}
use Rattle.host_connections.proofs.OfTable.{room_in_slot}
use Rattle.host_connections.proofs.Quiet.{notified_stays}
use Rattle.host_connections.specs.declared.slot.Use.TheVariants.{Live}
use Rattle.host_connections.specs.Commands.{gives}
use Rattle.host_connections.specs.OfTable.{SlotIsOfTable}
use Rattle.host_connections.specs.Places.{waits}
use Rattle.gatt_subs.specs.Indications.{Indications}
use Rattle.host_connections.specs.SlotState.{SlotState}
use Rattle.host_connections.proofs.slot.Slot.notify.Goals as goal

pub raise_value-notified-requires : goal.raise_value-notified-requires
raise_value-notified-requires c =
    let a = c.args in
    let inside = c.self.inside in
    let live : inside.used ≡ Live = search rules in (
      omega arith,
      room_in_slot a.moment.table.now a.moment.rows.now inside.used inside.handle inside.peer inside.key_known inside.until inside.row inside.link inside.conn
          inside.pending inside.sender inside.reply
          inside.reason c.row_in_force-row.result.now a.raised.now.handle c.requires.table c.requires.bonds live
          (subst (λ (it : Option SlotState). SlotIsOfTable a.moment.table.now.attributes it) (sym c.self.view_is) c.requires.slot) c.row_in_force-row.ensures,
    )

pub returns-then-notified-clause-told : goal.returns-then-notified-clause-told
returns-then-notified-clause-told c =
    let a = c.args in
    let inside = c.self.inside in
    let raised = c.raise_value-notified in
    OnTrue_from raised.result _ (λ told.
    waits_as_before inside.used inside.handle inside.peer inside.key_known inside.until inside.row inside.link inside.conn inside.pending raised.new.self
    inside.sender
    c.queue_value.new.sender inside.reply inside.reason
    (ap (λ (it : Indications). it.waiting) (raised.ensures.pending
    ∙ notified_stays inside.pending a.raised.now.table.attributes c.row_in_force-row.result.now c.standing-standing.result a.raised.now.handle
    c.backlog-backlog.result
    (sym raised.ensures.notified ∙ told)))
    ∙ ap waits c.self.view_is)

pub returns-else-notified-clause-unnotified : goal.returns-else-notified-clause-unnotified
returns-else-notified-clause-unnotified c =
    let inside = c.self.inside in
    OnFalse_from c.raise_value-notified.result _ (λ none.
    gives_as_before inside.used inside.handle inside.peer inside.key_known inside.until inside.row inside.link inside.conn inside.pending
    c.raise_value-notified.new.self inside.sender
    inside.reply inside.reason
    ∙ ap gives c.self.view_is)
