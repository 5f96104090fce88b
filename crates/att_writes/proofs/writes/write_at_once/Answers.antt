use Rattle.std.proofs.Common.{refl, sym, ap, ◌∙◌}
use Rattle.att_writes.specs.Applied.{stored_in, stored_after}
use Rattle.att_writes.specs.Entry.{entry_of}
use Rattle.att_writes.specs.Outcome.{write_outcome}
use Rattle.att_writes.proofs.AtOnce.{fits_at_first, refused_at_first}
use Rattle.att_writes.proofs.writes.write_at_once.Goals as goal

pub put-requires-clause-fits : goal.put-requires-clause-fits
put-requires-clause-fits c =
    fits_at_first c.args.access c.args.table.now.attributes c.args.standing.now (stored_in c.args.table.now c.args.row.now) (entry_of c.args.entry)
    (sym c.fault_of.ensures.fault ∙ c.in-None.is)

pub returns-in-Some-clause-outcome : goal.returns-in-Some-clause-outcome
returns-in-Some-clause-outcome c =
    ap (write_outcome c.args.opcode)
    (sym (refused_at_first c.args.access c.args.table.now.attributes c.args.standing.now (stored_in c.args.table.now c.args.row.now)
    (entry_of c.args.entry) c.in-Some.code
    (sym c.fault_of.ensures.fault ∙ c.in-Some.is)))

pub returns-in-Some-clause-left : goal.returns-in-Some-clause-left
returns-in-Some-clause-left c =
    let table = c.args.table.now in
    let row = c.args.row.now in
    let refused =
    sym (refused_at_first c.args.access table.attributes c.args.standing.now (stored_in table row) (entry_of c.args.entry) c.in-Some.code
    (sym c.fault_of.ensures.fault ∙ c.in-Some.is)) in
    record {
      values = ap (λ after_entries. (stored_after (stored_in table row) after_entries).values) refused;
      row = ap (λ after_entries. (stored_after (stored_in table row) after_entries).row) refused;
      attributes = refl;
      table = c.requires.row;
    }
