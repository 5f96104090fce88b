use Rattle.gatt_subs.specs.RowsText.{entry_line}
use Rattle.gatt_subs.proofs.Writing.{first_lines_break_off, second_lines_break_off, both_lines_written, on_err}
use Rattle.gatt_subs.proofs.rows_text.write_configured.Goals as goal

pub returns-in_err-write_bonds-clause-front : goal.returns-in_err-write_bonds-clause-front
returns-in_err-write_bonds-clause-front g c =
    on_err c.from_residual.result _ (first_lines_break_off entry_line _ _ _ _ c.in_err-write_bonds.ensures.front)

pub returns-clause-ok : goal.returns-clause-ok
returns-clause-ok g c = both_lines_written c.write_entries.result entry_line _ _ _ _ _ c.in_ok-write_bonds.ensures.ok c.write_entries.ensures.ok

pub returns-clause-front : goal.returns-clause-front
returns-clause-front g c = second_lines_break_off c.write_entries.result entry_line _ _ _ _ _ c.in_ok-write_bonds.ensures.ok c.write_entries.ensures.front
