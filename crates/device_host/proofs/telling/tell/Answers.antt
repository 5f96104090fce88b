use Rattle.std.proofs.Common.{rules}
use Rattle.device_host.proofs.telling.tell.Goals as goal

pub returns-clause-order : goal.returns-clause-order
returns-clause-order g c = record {
  informed = c.tell_state_of_saving.new.device.session.seats;
  released = c.tell_pending.new.session.seats;
  answered = c.reply.new.self.seats;
  notified = c.tell_heard.new.device.session.seats;
  welcomed = c.welcome.new.device.session.seats;
  reminded = c.tell_missed.new.session.seats;
  noted = c.tell_pending.new.session.missed;
  known = c.tell_heard.new.device.session.missed;
  left = c.tell_missed.new.session.missed;
  waiting = c.tell_pending.new.session.pending.lines.items;
  missed = c.tell_missed.ensures.missed.0;
  news = search rules;
  releases = search rules;
  answers = search rules;
  notices = search rules;
  state = search rules;
  reminders = search rules;
  writes = search rules;
  stays = search rules;
  ends = search rules;
  asking = search rules;
  updated = search rules;
}
