use Rattle.std.proofs.Common.{◌∙◌}
use Rattle.gatt_subs.specs.RowsText.{owed_line}
use Rattle.octet_io.proofs.Writing.{counts_none}
use Rattle.gatt_subs.proofs.Writing.{line_breaks_off, lines_more, on_err}
use Rattle.gatt_subs.proofs.rows_text.write_owed.Goals as goal

pub returns-in_err-write_all-clause-front : goal.returns-in_err-write_all-clause-front
returns-in_err-write_all-clause-front g c =
    on_err c.from_residual.result _
    (line_breaks_off owed_line c.args.peers.now c.loop-peer.peer-index _ _ _ _ _ c.loop-peer-test.true (c.as_slice.ensures.value ∙ c.owed_line.ensures)
    c.loop-peer.invariant.written c.in_err-write_all.ensures.front)

pub loop-peer-preserved : goal.loop-peer-preserved
loop-peer-preserved g c = record {
  written =
      lines_more owed_line c.args.peers.now c.loop-peer.peer-index _ _ _ _ _ c.loop-peer-test.true (c.as_slice.ensures.value ∙ c.owed_line.ensures)
      c.loop-peer.invariant.written c.in_ok-write_all.ensures.ok;
  failures = counts_none _ _ _ c.loop-peer.invariant.failures c.in_ok-write_all.ensures.failures;
}
