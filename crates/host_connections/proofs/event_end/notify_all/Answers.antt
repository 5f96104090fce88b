use Rattle.std.proofs.Common.{◌+◌, List, drop, sym, ap, ◌∙◌, arith}
use Rattle.std.proofs.lemmas.List.{drop_more}
use Rattle.att_numbers.specs.Types.{Handle}
use Rattle.host_connections.proofs.OfTable.{of_table_if_any, of_table_of_some}
use Rattle.host_connections.specs.Slots.{SlotStates, all_notified_in_turn}
use Rattle.host_connections.proofs.event_end.notify_all.Goals as goal

pub notify_for-requires-clause-of_table : goal.notify_for-requires-clause-of_table
notify_for-requires-clause-of_table c =
    let a = c.args in
    of_table_of_some a.handles.now a.moment.table.now.attributes a.moment.rows.now c.loop-handle.slots (omega (arith, c.loop-handle-test.true))
    c.loop-handle.invariant.1.1.1.1

pub loop-handle-preserved : goal.loop-handle-preserved
loop-handle-preserved c =
    let a = c.args in
    let table = a.moment.table.now in
    let now = a.moment.now in
    let rows = a.moment.rows.now in
    let handles = a.handles.now in
    let at = c.loop-handle.handle-index in
    let new = c.notify_for.new.slots in
    let so-far = c.loop-handle.invariant in (
      ap (λ (it : SlotStates). all_notified_in_turn table now rows a.whom.bits (drop (at + 1) handles) it) c.notify_for.ensures.notified
          ∙ sym (ap (λ (it : List Handle). all_notified_in_turn table now rows a.whom.bits it c.loop-handle.slots)
          (drop_more handles at 0 c.loop-handle-test.true))
          ∙ so-far.0,
      (
        c.notify_for.ensures.covered,
        (
          c.notify_for.auto.slots ∙ so-far.1.1.0,
          (
            λ of. c.notify_for.ensures.of_table,
            of_table_if_any handles table.attributes rows new c.notify_for.ensures.of_table,
          ),
        ),
      ),
    )
