use Rattle.std.proofs.Common.{◌<◌, length, set, ap, ◌∙◌, arith}
use Rattle.std.proofs.lemmas.List.Edits.{map_over_more}
use Rattle.gatt_subs.specs.declared.bond.Bond.{Bond}
use Rattle.gatt_subs.specs.Changes.{with_changes_owed}
use Rattle.gatt_subs.proofs.rows.owe_where_wanted.Goals as goal

pub loop-place-preserved : goal.loop-place-preserved
loop-place-preserved c =
    let bond = c.index_mut.result.now in
    let bonds = c.args.bonds.now.items in
    let place = c.loop-place.place in
    let within : place < length bonds = omega (arith, c.loop-place-test.true, c.args.bonds.now.ok.0) in
    ap (λ (bond : Bond). set c.loop-place.bonds.items place bond) c.owe_changes.ensures
    ∙ map_over_more (with_changes_owed c.args.changer) bonds c.loop-place.bonds.items place bond within c.loop-place.invariant c.index_mut.ensures.value
