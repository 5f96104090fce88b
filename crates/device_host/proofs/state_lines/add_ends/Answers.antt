use Rattle.std.proofs.Common.{◌++◌, ap, ◌∙◌}
use Rattle.std.specs.List.{flat_map}
use Rattle.device_host.specs.Answers.{end_line}
use Rattle.device_host.proofs.state_lines.add_ends.Goals as goal

pub loop-connection-init : goal.loop-connection-init
loop-connection-init c = record {
  told = ap (λ left. c.args.text.now.items ++ flat_map (end_line c.args.names.now.named) left)
      (c.into_iter-connection-iterator.ensures.into_iter_gives ∙ c.connections-connection-items.ensures.server);
}
