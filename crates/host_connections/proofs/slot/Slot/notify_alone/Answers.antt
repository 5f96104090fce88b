use Rattle.std.proofs.Common.{◌≡◌, Option, subst, sym, ap, ◌∙◌, arith, rules}
use Rattle.host_connections.proofs.Alone.{gives_as_before, told_stays, waits_as_before}
use Rattle.host_connections.proofs.OfTable.{room_in_slot}
use Rattle.host_connections.specs.Commands.{gives}
use Rattle.host_connections.specs.Places.{waits}
use Rattle.gatt_subs.specs.Indications.{Indications}
use Rattle.host_connections.specs.declared.slot.Use.TheVariants.{Live}
use Rattle.host_connections.specs.OfTable.{SlotIsOfTable}
use Rattle.host_connections.specs.SlotState.{SlotState}
use Rattle.host_connections.proofs.slot.Slot.notify_alone.Goals as goal

pub raise_alone-requires : goal.raise_alone-requires
raise_alone-requires c =
    let a = c.args in
    let inside = c.self.inside in
    let live : inside.used ≡ Live = search rules in (
      omega arith,
      room_in_slot a.moment.table.now a.moment.rows.now inside.used inside.handle inside.peer inside.key_known inside.until inside.row inside.link inside.conn
          inside.pending inside.sender inside.reply
          inside.reason c.row_in_force-row.result.now a.raised.now.handle c.requires.table c.requires.bonds live
          (subst (λ (it : Option SlotState). SlotIsOfTable a.moment.table.now.attributes it) (sym c.self.view_is) c.requires.slot) c.row_in_force-row.ensures,
    )

pub returns-clause-told : goal.returns-clause-told
returns-clause-told c =
    let a = c.args in
    let inside = c.self.inside in
    waits_as_before inside.used inside.handle inside.peer inside.key_known inside.until inside.row inside.link inside.conn inside.pending c.raise_alone.new.self
    inside.sender
    c.queue_telling.new.sender inside.reply inside.reason
    (ap (λ (it : Indications). it.waiting) c.raise_alone.ensures.pending
    ∙ told_stays inside.pending a.raised.now.table.attributes c.row_in_force-row.result.now c.standing-standing.result a.raised.now.handle
    c.backlog-backlog.result a.moment.now
    c.in-Some.telling (sym c.raise_alone.ensures.told ∙ c.in-Some.is))
    ∙ ap waits c.self.view_is

pub returns-in_default-clause-untold : goal.returns-in_default-clause-untold
returns-in_default-clause-untold c =
    let inside = c.self.inside in
    gives_as_before inside.used inside.handle inside.peer inside.key_known inside.until inside.row inside.link inside.conn inside.pending c.raise_alone.new.self
    inside.sender
    inside.reply inside.reason
    ∙ ap gives c.self.view_is

pub invariant_of-self : goal.invariant_of-self
invariant_of-self c = c.self.invariant

pub invariant_of-self-2 : goal.invariant_of-self-2
invariant_of-self-2 c = c.self.invariant
