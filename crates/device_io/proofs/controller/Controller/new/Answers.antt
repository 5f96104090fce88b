use Rattle.std.proofs.Common.{rules}
use Rattle.device_io.specs.Connector.{is_tried}
use Rattle.device_io.proofs.Reached.{at_first}
use Rattle.device_io.proofs.controller.Controller.new.Goals as goal

pub invariant_of-result : goal.invariant_of-result
invariant_of-result c = at_first (is_tried c.args.connector) c.args.patience _ (search rules)
