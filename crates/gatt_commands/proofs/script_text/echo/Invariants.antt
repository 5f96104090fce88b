use Rattle.std.proofs.Common.{◌+◌, [], length}
use Rattle.std.specs.Prelude.{◌≢◌}
use Rattle.std.specs.Option.{option_map_or}
use Rattle.gatt_commands.specs.Echo.{lines_left}
use Rattle.gatt_commands.proofs.Echoing.{HasEchoed}
use Rattle.gatt_commands.proofs.script_text.echo.Given as goal

-- the lines so far are echoed
abbrev pub invariant-loop-left : goal.invariant-loop-left
invariant-loop-left g l = record {
  echoed : HasEchoed (lines_left l.fn.text) (lines_left l.left) (g.W.Write.contents l.fn.writer) (g.W.Write.contents l.writer);
  shows : lines_left l.left ≢ [] → lines_left l.fn.text ≢ [];
}

abbrev pub decreases-loop-left : goal.decreases-loop-left
decreases-loop-left g l = option_map_or (λ rest. length rest.now + 1) l.left 0
