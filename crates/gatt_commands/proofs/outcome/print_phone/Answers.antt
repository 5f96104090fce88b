use Rattle.std.proofs.Common.{Some, ap, sym, ◌∙◌}
use Rattle.shell_files.proofs.Fronts.{at_error}
use Rattle.gatt_commands.proofs.Fronts.{end_front, frame_front}
use Rattle.gatt_commands.proofs.Telling.{told_more}
use Rattle.octet_io.specs.Number.{Octets}
use Rattle.sim_controller.specs.Simulated.{Simulated}
use Rattle.gatt_commands.proofs.outcome.print_phone.Goals as goal

pub loop-frame-preserved : goal.loop-frame-preserved
loop-frame-preserved g c = record {
  told =
      told_more c.args.name.now c.as_slice.result.now c.args.phone c.args.sim.now c.loop-frame.sim c.heard.new.self
      (g.W.Write.contents c.args.writer.now) (g.W.Write.contents c.loop-frame.writer) (g.W.Write.contents c.print_frame.new.writer)
      c.loop-frame.invariant.told (c.loop-frame-test.ensures.frame ∙ ap (λ (octets : Octets). Some octets) (sym c.as_slice.ensures.value)) c.heard.ensures.after
      c.in_ok-print_frame.ensures.line;
  waiting = ap (λ (sim : Simulated). sim.waiting) c.heard.ensures.after ∙ c.loop-frame.invariant.waiting;
}

pub returns-in_err-print_frame-clause-front : goal.returns-in_err-print_frame-clause-front
returns-in_err-print_frame-clause-front g c =
    at_error c.from_residual.result _
    (frame_front c.args.name.now c.as_slice.result.now c.args.phone c.args.sim.now c.loop-frame.sim
    (g.W.Write.contents c.args.writer.now) (g.W.Write.contents c.loop-frame.writer) (g.W.Write.contents c.print_frame.new.writer)
    c.loop-frame.invariant.told (c.loop-frame-test.ensures.frame ∙ ap (λ (octets : Octets). Some octets) (sym c.as_slice.ensures.value))
    c.in_err-print_frame.ensures.front)

pub returns-in-Some-clause-front : goal.returns-in-Some-clause-front
returns-in-Some-clause-front g c =
    end_front c.print_ended.result c.args.name.now c.ended.result c.in-Some.reason c.args.phone c.args.sim.now c.loop-frame.sim c.heard.new.self
    (g.W.Write.contents c.args.writer.now) (g.W.Write.contents c.loop-frame.writer) (g.W.Write.contents c.print_ended.new.writer)
    c.loop-frame.invariant.told c.loop-frame-test.ensures.none c.heard.ensures.after c.ended.ensures.reason c.in-Some.is c.print_ended.ensures.front
