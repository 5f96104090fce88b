use Rattle.std.proofs.Common.{ap, sym, ◌∙◌}
use Rattle.gatt_commands.specs.Echo.{lines_left}
use Rattle.gatt_commands.proofs.Echoing.{echo_more, has_line}
use Rattle.gatt_commands.proofs.script_text.echo.Goals as goal

pub loop-left-preserved : goal.loop-left-preserved
loop-left-preserved g c = record {
  echoed =
      echo_more (lines_left c.args.text) (lines_left c.loop-left.left) c.first_line.result.0.now (lines_left c.first_line.result.1) _ _ _
      c.loop-left.invariant.echoed (ap lines_left c.in-Some.is ∙ c.first_line.ensures.lines) (sym c.says.ensures ∙ c.if-says.false)
      c.in_ok-print_line.ensures.ok;
  shows = λ some. c.loop-left.invariant.shows (has_line (lines_left c.loop-left.left) c.first_line.result.0.now (lines_left c.first_line.result.1)
      (ap lines_left c.in-Some.is ∙ c.first_line.ensures.lines));
}
