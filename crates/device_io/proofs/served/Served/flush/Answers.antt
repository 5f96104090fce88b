use Rattle.std.proofs.Common.{rules}
use Rattle.device_io.specs.Served.Sending.{Accepts, Fails}
use Rattle.device_io.proofs.served.Served.flush.Goals as goal

pub returns-then-is_err : goal.returns-then-is_err
returns-then-is_err c = (Fails c.write_waiting.ensures.0, search rules)

pub returns-else-is_err : goal.returns-else-is_err
returns-else-is_err c = (Accepts c.write_waiting.ensures.0, c.write_waiting.ensures.1)
