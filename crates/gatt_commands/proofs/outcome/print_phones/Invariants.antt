use Rattle.std.proofs.Common.{◌≡◌, ◌≤◌, length}
use Rattle.gatt_commands.proofs.Telling.{HasToldPhones}
use Rattle.gatt_commands.proofs.outcome.print_phones.Given as goal

-- so many phones are told, and what waits for the host stays
abbrev pub invariant-loop-phone : goal.invariant-loop-phone
invariant-loop-phone g l = record {
  within : l.phone ≤ length l.fn.names;
  told : HasToldPhones l.phone l.fn.names l.fn.sim l.sim (g.W.Write.contents l.fn.writer) (g.W.Write.contents l.writer);
  waiting : l.sim.waiting ≡ l.fn.sim.waiting;
}
