use Rattle.std.proofs.Common.{◌+◌, List, drop, ap, ◌∙◌, arith}
use Rattle.gatt_subs.specs.declared.row_entry.RowEntry.{RowEntry}
use Rattle.gatt_subs.specs.RowsText.{entries_with}
use Rattle.gatt_subs.proofs.InOrder.{entries_next}
use Rattle.gatt_subs.proofs.rows_text.entries_of.Goals as goal

pub loop-place-preserved : goal.loop-place-preserved
loop-place-preserved c =
    record {
      entries =
          ap (λ (entries : List RowEntry). entries_with entries c.args.peer.now (drop (c.loop-place.place + 1) c.args.row.now))
          c.insert_configured.ensures.items
          ∙ entries_next c.loop-place.entries.items c.args.peer.now c.args.row.now c.loop-place.place c.entry-handle.result c.entry-handle.ensures.entry
          ∙ c.loop-place.invariant.entries;
      room = omega (arith, c.insert_configured.ensures.len, c.loop-place.invariant.room);
    }
