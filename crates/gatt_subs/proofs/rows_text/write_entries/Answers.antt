use Rattle.std.proofs.Common.{◌∙◌}
use Rattle.gatt_subs.specs.RowsText.{entry_line}
use Rattle.octet_io.proofs.Writing.{counts_none}
use Rattle.gatt_subs.proofs.Writing.{line_breaks_off, lines_more, on_err}
use Rattle.gatt_subs.proofs.rows_text.write_entries.Goals as goal

pub returns-in_err-write_all-clause-front : goal.returns-in_err-write_all-clause-front
returns-in_err-write_all-clause-front g c =
    on_err c.from_residual.result _
    (line_breaks_off entry_line c.args.entries.now c.loop-entry.entry-index _ _ _ _ _ c.loop-entry-test.true (c.as_slice.ensures.value ∙ c.entry_line.ensures)
    c.loop-entry.invariant.written c.in_err-write_all.ensures.front)

pub loop-entry-preserved : goal.loop-entry-preserved
loop-entry-preserved g c = record {
  written =
      lines_more entry_line c.args.entries.now c.loop-entry.entry-index _ _ _ _ _ c.loop-entry-test.true (c.as_slice.ensures.value ∙ c.entry_line.ensures)
      c.loop-entry.invariant.written c.in_ok-write_all.ensures.ok;
  failures = counts_none _ _ _ c.loop-entry.invariant.failures c.in_ok-write_all.ensures.failures;
}
