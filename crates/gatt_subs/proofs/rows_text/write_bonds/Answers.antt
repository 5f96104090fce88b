use Rattle.std.proofs.Common.{◌<◌, length, ◌∙◌, arith}
use Rattle.octet_io.proofs.Writing.{counts_none}
use Rattle.gatt_subs.proofs.Writing.{bonds_break_off, bonds_more, on_err}
use Rattle.gatt_subs.proofs.rows_text.write_bonds.Goals as goal

pub returns-in_err-write_entries-clause-front : goal.returns-in_err-write_entries-clause-front
returns-in_err-write_entries-clause-front g c =
    let place = c.loop-place.place in
    let within : place < length c.args.bonds.now = omega (arith, c.loop-place-test.true) in
    let within' : place < length c.args.peers.now = omega (arith, c.requires) in
    on_err c.from_residual.result _
    (bonds_break_off c.args.peers.now c.args.bonds.now place _ _ _ _ _ _ within' within (c.as_slice.ensures.value ∙ c.entries_of-entries.ensures)
    c.loop-place.invariant.written c.in_err-write_entries.ensures.front)

pub loop-place-preserved : goal.loop-place-preserved
loop-place-preserved g c =
    let place = c.loop-place.place in
    let within : place < length c.args.bonds.now = omega (arith, c.loop-place-test.true) in
    let within' : place < length c.args.peers.now = omega (arith, c.requires) in
    record {
      written =
          bonds_more c.args.peers.now c.args.bonds.now place _ _ _ _ _ _ within' within (c.as_slice.ensures.value ∙ c.entries_of-entries.ensures)
          c.loop-place.invariant.written c.in_ok-write_entries.ensures.ok;
      failures = counts_none _ _ _ c.loop-place.invariant.failures c.in_ok-write_entries.ensures.failures;
    }
