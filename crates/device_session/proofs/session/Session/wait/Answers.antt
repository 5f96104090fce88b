use Rattle.std.proofs.Common.{rules, inl, inr, refl}
use Rattle.device_session.proofs.session.Session.wait.Goals as goal

pub returns-in-Ok-clause-waited : goal.returns-in-Ok-clause-waited
returns-in-Ok-clause-waited g c = record {
  begun = c.count.new.self;
  woken = c.count-2.new.self;
  heard = c.fill.new.seats;
  watched = c.watch.new.seats;
  noted = c.fill.new.missed;
  slow = c.watch.result;
  counts = (c.now.result, c.count.ensures.counted, c.count.ensures.seen);
  reads = search rules;
  watches = search rules;
  counts_wait = (c.now-3.result, c.count-2.ensures.counted, c.count-2.ensures.seen);
  takes = inl (c.in-Ok.ready, c.take_in.ensures.taken);
}

pub returns-in_default-clause-waited : goal.returns-in_default-clause-waited
returns-in_default-clause-waited g c = record {
  begun = c.count.new.self;
  woken = c.count-2.new.self;
  heard = c.fill.new.seats;
  watched = c.watch.new.seats;
  noted = c.fill.new.missed;
  slow = c.watch.result;
  counts = (c.now.result, c.count.ensures.counted, c.count.ensures.seen);
  reads = search rules;
  watches = search rules;
  counts_wait = (c.now-3.result, c.count-2.ensures.counted, c.count-2.ensures.seen);
  takes = inr refl;
}
