use Rattle.std.proofs.Common.{rules, ap, Err, ◌≡◌, ◌∙◌}
use Rattle.std.proofs.lemmas.Result.{err_from_is_err_and}
use Rattle.shell_files.specs.declared.fault.ShellFault.{ShellFault}
use Rattle.gatt_commands.proofs.Exchanging.{exchanges_all, exchanges_ended, exchanges_next}
use Rattle.gatt_commands.specs.Exchange.{pair_of}
use Rattle.gatt_commands.proofs.exchange.exchange.Goals as goal

pub loop-packet-preserved : goal.loop-packet-preserved
loop-packet-preserved c = record {
  within = search rules;
  exchanges =
      exchanges_next c.loop-packet._packet (pair_of c.args.host.now c.args.sim.now c.args.notes.now)
      (pair_of c.loop-packet.host c.loop-packet.sim c.loop-packet.notes)
      (pair_of c.hand_over.new.host c.hand_over.new.sim c.hand_over.new.notes) c.in_ok-hand_over.field-0 c.loop-packet.invariant.exchanges
      c.in_ok-hand_over.ensures.hands
      c.if-not-branch.false;
}

pub returns-then-has_packet-clause-exchanges : goal.returns-then-has_packet-clause-exchanges
returns-then-has_packet-clause-exchanges c =
    let all : c.loop-packet._packet ≡ 100000 = search rules in
    exchanges_all c.loop-packet._packet (pair_of c.args.host.now c.args.sim.now c.args.notes.now)
    (pair_of c.loop-packet.host c.loop-packet.sim c.loop-packet.notes)
    c.loop-packet.invariant.exchanges all c.if-has_packet.ensures.more

pub returns-in_err-hand_over-clause-exchanges : goal.returns-in_err-hand_over-clause-exchanges
returns-in_err-hand_over-clause-exchanges c =
    let failed = err_from_is_err_and c.from_residual.result c.from_residual.ensures.1 in
    exchanges_ended c.loop-packet._packet (pair_of c.args.host.now c.args.sim.now c.args.notes.now)
    (pair_of c.loop-packet.host c.loop-packet.sim c.loop-packet.notes) (pair_of c.hand_over.new.host c.hand_over.new.sim c.hand_over.new.notes)
    c.in_err-hand_over.field-0.0 c.from_residual.result (failed.1 ∙ ap (λ (fault : ShellFault). Err fault) failed.2)
    c.loop-packet-test.true c.loop-packet.invariant.exchanges c.in_err-hand_over.ensures.hands
