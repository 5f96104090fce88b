use Rattle.std.proofs.Common.{◌≡◌}
use Rattle.gatt_host.specs.Telling.{notices_told}
use Rattle.gatt_commands.proofs.Noting.{HasNoted}
use Rattle.gatt_commands.proofs.notes.Notes.note_all.Given as goal

-- all but those that the iterator still has are noted
abbrev pub invariant-loop-notice : goal.invariant-loop-notice
invariant-loop-notice l = record {
  table : l.notice-iterator.table ≡ l.fn.host.server.table;
  noted : HasNoted (notices_told l.fn.host) l.notice-iterator.notices l.fn.host.server.table l.fn.self l.self;
}
