use Rattle.std.proofs.Common.{ap, ◌∙◌}
use Rattle.att_table.specs.ConfigRow.{with_bits}
use Rattle.gatt_subs.specs.declared.bond.Bond.{Bond}
use Rattle.gatt_subs.specs.Rows.{with_set}
use Rattle.gatt_subs.proofs.Bonds.{set_to_change}
use Rattle.gatt_subs.proofs.rows.set_bits.Goals as goal

pub returns : goal.returns
returns c =
    let there = c.index_mut.ensures.value in
    let row = c.set.ensures.after ∙ ap (λ (bond : Bond). with_bits bond.row c.args.handle c.args.bits) there in
    set_to_change c.args.bonds.now.items c.args.place (with_set c.args.handle c.args.bits) c.index_mut.result.now _ c.requires.place
    (λ i. record { row = row i; owed = (there i).owed })
