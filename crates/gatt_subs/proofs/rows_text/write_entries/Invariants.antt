use Rattle.std.proofs.Common.{drop}
use Rattle.std.specs.List.{flat_map}
use Rattle.octet_io.specs.Stream.{CountsNone}
use Rattle.gatt_subs.specs.RowsText.{entry_line}
use Rattle.octet_io.proofs.Writing.{HasWritten}
use Rattle.gatt_subs.proofs.rows_text.write_entries.Given as goal

abbrev pub invariant-loop-entry : goal.invariant-loop-entry
invariant-loop-entry g l = record {
  written : HasWritten (flat_map entry_line l.entries) (flat_map entry_line (drop l.entry-index l.entries)) (g.W.Sink.contents l.fn.sink)
      (g.W.Sink.contents l.sink);
  failures : CountsNone (g.W.Sink.failures l.fn.sink) (g.W.Sink.failures l.sink);
}
