use Rattle.std.proofs.Common.{◌≡◌, ◌++◌, ℕ, [], List, Option, length, map, sym, ap, ◌∙◌, arith, rules, append-nil}
use Rattle.std.specs.Prelude.{is_some}
use Rattle.std.proofs.lemmas.List.{length-map}
use Rattle.att_numbers.specs.Types.{Handle, Row}
use Rattle.att_policy.specs.declared.standing.Standing.{Standing}
use Rattle.host_connections.proofs.Skipping.{none_skipped, skips_where_live}
use Rattle.host_connections.specs.declared.skipped.Skipped.{Skipped}
use Rattle.host_connections.specs.declared.slot.Use.TheVariants.{Live}
use Rattle.host_connections.specs.Hearing.{row_by_key}
use Rattle.host_connections.specs.Skips.{skip_of, skips_by, slot_skips, wants_notification}
use Rattle.host_connections.specs.SlotState.{SlotState, standing_with}
use Rattle.gatt_subs.specs.Rows.{row_of}
use Rattle.host_connections.proofs.slot.Slot.note_skips.Goals as goal

pub note_values-requires : goal.note_values-requires
note_values-requires c =
    let a = c.args in
    let inside = c.self.inside in
    let table = a.moment.table.now in
    let live : inside.used ≡ Live = search rules in
    let skips : List Handle = skips_by (wants_notification table.attributes inside.pending c.row_in_force-row.result.now c.standing-standing.result)
    c.backlog-backlog.result a.handles.now in
    let is : slot_skips table a.moment.now a.moment.rows.now a.handles.now a.self.now ≡ map (skip_of inside.handle) skips =
    ap (λ (it : Option SlotState). slot_skips table a.moment.now a.moment.rows.now a.handles.now it) (sym c.self.view_is)
    ∙ skips_where_live table a.moment.now a.moment.rows.now a.handles.now inside.used inside.handle inside.peer inside.key_known inside.until inside.row
    inside.link inside.conn inside.pending
    inside.sender inside.reply inside.reason live
    ∙ (λ i. map (skip_of inside.handle) (skips_by
    (wants_notification table.attributes inside.pending (sym c.row_in_force-row.ensures i) (sym c.standing-standing.ensures i))
    (sym c.backlog-backlog.ensures.count i) a.handles.now)) in
    let count : length (slot_skips table a.moment.now a.moment.rows.now a.handles.now a.self.now) ≡ length skips =
    ap (λ (it : List Skipped). length it) is ∙ length-map skips (skip_of inside.handle) in
    omega (arith, c.requires.room, count)

pub returns-then-most-gt-MAX_BACKLOG : goal.returns-then-most-gt-MAX_BACKLOG
returns-then-most-gt-MAX_BACKLOG c =
    let a = c.args in
    let inside = c.self.inside in
    let table = a.moment.table.now in
    let live : inside.used ≡ Live = search rules in
    let skips : List Handle = skips_by (wants_notification table.attributes inside.pending c.row_in_force-row.result.now c.standing-standing.result)
    c.backlog-backlog.result a.handles.now in
    let is : slot_skips table a.moment.now a.moment.rows.now a.handles.now a.self.now ≡ map (skip_of inside.handle) skips =
    ap (λ (it : Option SlotState). slot_skips table a.moment.now a.moment.rows.now a.handles.now it) (sym c.self.view_is)
    ∙ skips_where_live table a.moment.now a.moment.rows.now a.handles.now inside.used inside.handle inside.peer inside.key_known inside.until inside.row
    inside.link inside.conn inside.pending
    inside.sender inside.reply inside.reason live
    ∙ (λ i. map (skip_of inside.handle) (skips_by
    (wants_notification table.attributes inside.pending (sym c.row_in_force-row.ensures i) (sym c.standing-standing.ensures i))
    (sym c.backlog-backlog.ensures.count i) a.handles.now)) in
    c.note_values.ensures ∙ ap (λ (it : List Skipped). a.skipped.now.items ++ it) (sym is)

pub returns-else-most-gt-MAX_BACKLOG : goal.returns-else-most-gt-MAX_BACKLOG
returns-else-most-gt-MAX_BACKLOG c =
    let a = c.args in
    let inside = c.self.inside in
    let table = a.moment.table.now in
    let live : inside.used ≡ Live = search rules in
    let row : Row = row_by_key (is_some inside.link.key) (row_of a.moment.rows.now inside.peer) inside.row in
    let standing : Standing = standing_with inside.link inside.key_known inside.until a.moment.now in
    let queued : ℕ = length inside.sender.outgoing.queue in
    let is : slot_skips table a.moment.now a.moment.rows.now a.handles.now a.self.now ≡ [] =
    ap (λ (it : Option SlotState). slot_skips table a.moment.now a.moment.rows.now a.handles.now it) (sym c.self.view_is)
    ∙ skips_where_live table a.moment.now a.moment.rows.now a.handles.now inside.used inside.handle inside.peer inside.key_known inside.until inside.row
    inside.link inside.conn inside.pending
    inside.sender inside.reply inside.reason live
    ∙ ap (λ (skipped : List Handle). map (skip_of inside.handle) skipped)
    (none_skipped (wants_notification table.attributes inside.pending row standing) queued a.handles.now
    (omega (arith, c.if-most-gt-MAX_BACKLOG.false, c.backlog-backlog.ensures.count))) in
    sym (append-nil a.skipped.now.items) ∙ ap (λ (it : List Skipped). a.skipped.now.items ++ it) (sym is)
