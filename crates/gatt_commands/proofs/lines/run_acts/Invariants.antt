use Rattle.std.proofs.Common.{◌≡◌, true, drop}
use Rattle.gatt_host.specs.HostModel.{all_out}
use Rattle.gatt_commands.specs.Echo.{shown_of}
use Rattle.gatt_commands.proofs.Running.{HasRun}
use Rattle.gatt_commands.proofs.lines.run_acts.Given as goal

-- all is out before the next line
abbrev pub invariant-loop-act : goal.invariant-loop-act
invariant-loop-act g l = record {
  drained : all_out l.stage.host ≡ true;
  run : HasRun (shown_of l.fn.shown) (shown_of l.left) l.fn.names l.fn.acts (drop l.act-index l.fn.acts) l.fn.stage l.stage
      (g.W.Write.contents l.fn.writer) (g.W.Write.contents l.writer);
}
