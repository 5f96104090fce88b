use Rattle.std.proofs.Common.{drop}
use Rattle.std.specs.List.{flat_map}
use Rattle.octet_io.specs.Stream.{CountsNone}
use Rattle.gatt_subs.specs.RowsText.{owed_peers, owed_line}
use Rattle.octet_io.proofs.Writing.{HasWritten}
use Rattle.gatt_subs.proofs.rows_text.write_owed_bonds.Given as goal

abbrev pub invariant-loop-place : goal.invariant-loop-place
invariant-loop-place g l = record {
  written : HasWritten (flat_map owed_line (owed_peers l.peers l.bonds)) (flat_map owed_line (owed_peers (drop l.place l.peers) (drop l.place l.bonds)))
      (g.W.Sink.contents l.fn.sink) (g.W.Sink.contents l.sink);
  failures : CountsNone (g.W.Sink.failures l.fn.sink) (g.W.Sink.failures l.sink);
}
