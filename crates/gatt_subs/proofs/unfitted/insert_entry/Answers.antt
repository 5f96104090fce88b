use Rattle.std.proofs.Common.{◌∙◌, arith}
use Rattle.gatt_subs.specs.RowEntry.{order_of}
use Rattle.gatt_subs.proofs.InOrder.{inserted_where_found}
use Rattle.gatt_subs.proofs.unfitted.insert_entry.Goals as goal

pub returns-clause-ok : goal.returns-clause-ok
returns-clause-ok c =
    c.in_ok-insert.ensures.items
    ∙ inserted_where_found order_of c.args.entry _ _ _ _ _ _ c.deref.ensures.value c.order.ensures c.first_entry_behind.ensures
    (omega (arith, c.len.ensures, c.args.entries.now.ok.0)) c.unwrap_or-place.ensures
