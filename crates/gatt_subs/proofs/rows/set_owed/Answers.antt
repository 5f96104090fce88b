use Rattle.gatt_subs.specs.Rows.{with_owed}
use Rattle.gatt_subs.proofs.Bonds.{set_to_change}
use Rattle.gatt_subs.proofs.rows.set_owed.Goals as goal

pub returns : goal.returns
returns c =
    let there = c.index_mut.ensures.value in
    set_to_change c.args.bonds.now.items c.args.place (with_owed c.args.owed) c.index_mut.result.now _ c.requires
    (λ i. record { row = (there i).row; owed = c.args.owed })
