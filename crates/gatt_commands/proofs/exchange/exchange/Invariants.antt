use Rattle.std.proofs.Common.{◌≤◌}
use Rattle.gatt_commands.specs.Exchange.{Exchanges, pair_of}
use Rattle.gatt_commands.proofs.exchange.exchange.Given as goal

-- as many packets are handed over as turns are behind
abbrev pub invariant-loop-packet : goal.invariant-loop-packet
invariant-loop-packet l = record {
  within : l._packet ≤ 100000;
  exchanges : Exchanges l._packet (pair_of l.fn.host l.fn.sim l.fn.notes) (pair_of l.host l.sim l.notes);
}
