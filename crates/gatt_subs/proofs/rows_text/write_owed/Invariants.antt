use Rattle.std.proofs.Common.{drop}
use Rattle.std.specs.List.{flat_map}
use Rattle.octet_io.specs.Stream.{CountsNone}
use Rattle.gatt_subs.specs.RowsText.{owed_line}
use Rattle.octet_io.proofs.Writing.{HasWritten}
use Rattle.gatt_subs.proofs.rows_text.write_owed.Given as goal

abbrev pub invariant-loop-peer : goal.invariant-loop-peer
invariant-loop-peer g l = record {
  written : HasWritten (flat_map owed_line l.peers) (flat_map owed_line (drop l.peer-index l.peers)) (g.W.Sink.contents l.fn.sink) (g.W.Sink.contents l.sink);
  failures : CountsNone (g.W.Sink.failures l.fn.sink) (g.W.Sink.failures l.sink);
}
