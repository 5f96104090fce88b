use Rattle.std.proofs.Common.{◌++◌, ap, ◌∙◌}
use Rattle.std.specs.List.{flat_map}
use Rattle.device_host.specs.Answers.{lines_if_secured}
use Rattle.device_host.proofs.state_lines.add_secured.Goals as goal

pub loop-connection-init : goal.loop-connection-init
loop-connection-init c = record {
  told = ap (λ left. c.args.text.now.items ++ flat_map (lines_if_secured c.args.secured.now c.args.names.now.named c.args.host.now) left)
      (c.into_iter-connection-iterator.ensures.into_iter_gives ∙ c.connections-connection-items.ensures.server);
}
