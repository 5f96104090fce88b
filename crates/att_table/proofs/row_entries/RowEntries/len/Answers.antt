use Rattle.std.proofs.Common.{◌∙◌, length, ap, sym, arith}
use Rattle.att_table.proofs.Entries.{length_of}
use Rattle.att_table.proofs.row_entries.RowEntries.len.Goals as goal

pub returns-clause-value : goal.returns-clause-value
returns-clause-value c =
    let row = c.self.inside in
    sym (length_of row.handles row.bits row.len (omega (arith, c.self.told.0, c.self.invariant.0)) (omega (arith, c.self.told.1, c.self.invariant.0)))
    ∙ ap length c.self.view_is
