use Rattle.std.proofs.Common.{rules, ◌<◌, length, ◌∙◌}
use Rattle.shell_files.proofs.Fronts.{at_error}
use Rattle.gatt_commands.proofs.Fronts.{phones_front}
use Rattle.gatt_commands.proofs.Telling.{phones_more}
use Rattle.gatt_commands.proofs.outcome.print_phones.Goals as goal

pub loop-phone-preserved : goal.loop-phone-preserved
loop-phone-preserved g c =
    let below : c.loop-phone.phone < length c.args.names.now = search rules in
    record {
      within = search rules;
      told =
          phones_more c.loop-phone.phone c.args.names.now c.index-names-phone.result c.args.sim.now c.loop-phone.sim c.print_phone.new.sim
          (g.W.Write.contents c.args.writer.now) (g.W.Write.contents c.loop-phone.writer) (g.W.Write.contents c.print_phone.new.writer)
          below c.index-names-phone.is c.loop-phone.invariant.told c.in_ok-print_phone.ensures.ok c.in_ok-print_phone.ensures.told;
      waiting = c.print_phone.ensures.waiting ∙ c.loop-phone.invariant.waiting;
    }

pub returns-in_err-print_phone-clause-front : goal.returns-in_err-print_phone-clause-front
returns-in_err-print_phone-clause-front g c =
    let below : c.loop-phone.phone < length c.args.names.now = search rules in
    at_error c.from_residual.result _
    (phones_front c.loop-phone.phone c.args.names.now c.index-names-phone.result c.args.sim.now c.loop-phone.sim
    (g.W.Write.contents c.args.writer.now) (g.W.Write.contents c.loop-phone.writer) (g.W.Write.contents c.print_phone.new.writer)
    below c.index-names-phone.is c.loop-phone.invariant.told c.in_err-print_phone.ensures.front)
