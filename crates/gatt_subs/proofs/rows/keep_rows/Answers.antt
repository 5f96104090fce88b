use Rattle.std.proofs.Common.{◌<◌, length, set, ap, ◌∙◌, arith}
use Rattle.std.proofs.lemmas.List.Edits.{map_over_more}
use Rattle.att_numbers.specs.Types.{Row}
use Rattle.gatt_subs.specs.Rows.{kept_bond}
use Rattle.gatt_subs.proofs.rows.keep_rows.Goals as goal

pub loop-place-preserved : goal.loop-place-preserved
loop-place-preserved c =
    let bond = c.index_mut.result.now in
    let bonds = c.args.bonds.now.items in
    let place = c.loop-place.place in
    let within : place < length bonds = omega (arith, c.loop-place-test.true, c.args.bonds.now.ok.0) in
    ap (λ (row : Row). set c.loop-place.bonds.items place (record { row = row; owed = bond.owed })) c.keep.ensures.kept
    ∙ map_over_more (kept_bond c.args.old.now.attributes c.args.new.now.attributes) bonds c.loop-place.bonds.items place bond within c.loop-place.invariant
    c.index_mut.ensures.value
