use Rattle.std.proofs.Common.{rules}
use Rattle.device_session.proofs.application.Application.fill.Goals as goal

pub returns : goal.returns
returns c = record {
  flushed = c.flush_if.new.seats;
  writes = search rules;
  is = search rules;
  serves = search rules;
}
