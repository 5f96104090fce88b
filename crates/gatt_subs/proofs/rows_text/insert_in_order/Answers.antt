use Rattle.std.proofs.Common.{◌∙◌, arith}
use Rattle.std.proofs.lemmas.Grind.{common_steps}
use Rattle.gatt_subs.specs.RowEntry.{order_of}
use Rattle.gatt_subs.proofs.InOrder.{inserted_where_found}
use Rattle.gatt_subs.proofs.rows_text.insert_in_order.Goals as goal

pub returns-clause-items : goal.returns-clause-items
returns-clause-items c =
    c.insert.ensures.items
    ∙ inserted_where_found order_of c.args.entry _ _ _ _ _ _ c.deref.ensures.0 c.order.ensures c.first_entry_behind.ensures
    (grind (arith, common_steps, c.len.ensures.value)) c.unwrap_or-place.ensures
