use Rattle.std.proofs.Common.{rules}
use Rattle.device_session.proofs.application.Application.watch.Goals as goal

pub returns : goal.returns
returns c = record {
  flushed = c.flush_if.new.seats;
  writes = search rules;
  is = search rules;
  watches = search rules;
}
