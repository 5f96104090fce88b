use Rattle.std.proofs.Common.{◌≡◌, length, drop}
use Rattle.att_table.specs.ConfigRow.{IsRowOf}
use Rattle.att_writes.specs.Applied.{stored_in}
use Rattle.att_writes.specs.Fits.{EntriesFit, after_all}
use Rattle.att_writes.specs.Queue.{entries_in, sizes_of}
use Rattle.att_writes.proofs.execution.put_all.Given as goal

-- the entries that are left fit, and lead from here to the same
abbrev pub invariant-loop-place : goal.invariant-loop-place
invariant-loop-place l =
    let left = entries_in (drop l.place-index l.places) l.rest in
    let by = stored_in l.table l.row in
    record {
      sizes : sizes_of (drop l.place-index l.places) ≡ length l.rest;
      attributes : l.table.attributes ≡ l.fn.table.attributes;
      row : IsRowOf l.fn.table.attributes l.row;
      fits : EntriesFit l.fn.table.attributes by left;
      after : after_all l.fn.table.attributes by left ≡ after_all l.fn.table.attributes (stored_in l.fn.table l.fn.row) (entries_in l.places l.octets);
    }
