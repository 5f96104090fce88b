use Rattle.std.proofs.Common.{subst, ◌∙◌}
use Rattle.att_table.specs.Table.{Contents}
use Rattle.gatt_host.specs.Notices.{HasTheValue}
use Rattle.gatt_host.specs.Telling.{notices_told}
use Rattle.gatt_commands.proofs.Noting.{noted_one}
use Rattle.gatt_commands.proofs.notes.Notes.note_all.Goals as goal

pub loop-notice-preserved : goal.loop-notice-preserved
loop-notice-preserved c = record {
  table = c.in-Some.ensures.steps.2 ∙ c.loop-notice.invariant.table;
  noted =
      noted_one (notices_told c.args.host.now) c.loop-notice.notice-iterator.notices c.next.new.self.notices c.in-Some.notice c.args.host.now.server.table
      c.args.self.now c.loop-notice.self c.note.new.self c.loop-notice.invariant.noted c.in-Some.ensures.steps.0
      (subst (λ (table : Contents). HasTheValue table c.in-Some.notice) c.loop-notice.invariant.table c.in-Some.ensures.steps.1) c.note.ensures.notes;
}
