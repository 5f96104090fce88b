use Rattle.std.proofs.Common.{◌≡◌, ◌+◌, length}
use Rattle.gatt_subs.specs.Hearing.{is_indicated}
use Rattle.gatt_subs.specs.Indications.{from_due, HaveOnePlace}
use Rattle.gatt_subs.proofs.pending.take_due.Given as goal

-- nothing that was taken out is due
abbrev pub invariant-loop-taken : goal.invariant-loop-taken
invariant-loop-taken g l = record {
  count : length l.waiting.items + l._taken ≡ l._taken-end;
  same : from_due (is_indicated l.table.attributes l.row l.standing) l.waiting.items
      ≡ from_due (is_indicated l.table.attributes l.row l.standing) l.fn.waiting.items;
  places : HaveOnePlace l.waiting.items;
}
