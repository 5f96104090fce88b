use Rattle.std.proofs.Common.{arith}
use Rattle.att_table.proofs.Entries.{none_set}
use Rattle.att_table.proofs.row_entries.RowEntries.new.Goals as goal

pub invariant_of-result : goal.invariant_of-result
invariant_of-result c = (omega arith, none_set 64)
