use Rattle.std.proofs.Common.{rules}
use Rattle.device_io.specs.Served.Sending.{Accepts}
use Rattle.device_io.proofs.served.Served.write.Goals as goal

pub returns-in-Ok-false : goal.returns-in-Ok-false
returns-in-Ok-false c = (Accepts 0, search rules, search rules)
