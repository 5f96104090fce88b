-- The application's connection: its input and output (this profile's own). Times are in
-- milliseconds.
use Rattle.std.specs.Prelude.{ℕ, ◌==◌, ◌&&◌, ◌||◌, Bool, true, false, if◌then◌else◌, not}
use Rattle.octet_io.specs.Number.{Octets}
use Rattle.app_lines.specs.Inbox.{found_in}
use Rattle.device_session.specs.declared.holder.Holder.{Holder}
use Rattle.device_session.specs.declared.outgoing.Outgoing.TheVariants.{Deaf}
use Rattle.device_session.specs.declared.visitor.Visitor.{Visitor}
use Rattle.device_session.specs.Incoming.{Arrival, Reading, after_arrival, after_reading, has_failed, is_ended, is_found, is_readable}
use Rattle.device_session.specs.Incoming.Arrival.{Ready}
use Rattle.device_session.specs.Outgoing.{after_sent, empty, has_room, is_emptied, is_full, watched, with_text}

-- A visitor becomes the application. It may have sent more.
abbrev pub new_holder : Visitor → Holder
new_holder visitor = record {
  id = visitor.id;
  incoming = after_arrival visitor.incoming Ready;
  outgoing = empty;
  slow = visitor.slow;
  is_new = true;
  is_offered = true;
}

abbrev pub has_line : Holder → Bool
has_line holder = is_found (found_in holder.incoming.inbox)

abbrev pub may_read : Holder → Bool
may_read holder = is_readable holder.incoming.input

-- It has the current state, and not too much waits for it.
abbrev pub may_ask : Holder → Bool
may_ask holder = not holder.is_new && not (is_full holder.outgoing) && has_line holder

-- It sends no more, and everything was sent to it that it accepts.
abbrev pub is_done : Holder → Bool
is_done holder = is_ended holder.incoming.input && is_emptied holder.outgoing

abbrev pub is_busy : Holder → Bool
is_busy holder = holder.is_new || may_read holder || has_line holder || is_done holder

-- There is something to do at once.
abbrev pub acts : Holder → Bool
acts holder =
    holder.is_new || is_done holder
    || ((may_read holder || has_line holder) && not (is_full holder.outgoing))

-- It has closed its connection, and all its lines are executed.
abbrev pub is_gone : Holder → Bool
is_gone holder = not (has_line holder) && not (may_read holder) && is_done holder

-- It has the current state, and one more line fits.
abbrev pub has_room_for_line : Holder → Bool
has_room_for_line holder = not holder.is_new && has_room holder.outgoing

abbrev pub with_arrival : Arrival → Holder → Holder
with_arrival arrival holder =
    record holder { incoming = after_arrival holder.incoming arrival }

-- Nothing more is sent to it. Its input is still read to the end.
abbrev pub deafened : Holder → Holder
deafened holder =
    record (with_arrival Ready holder) { outgoing = Deaf; is_offered = true }

-- Nothing more is sent to an application whose socket has failed.
abbrev pub after_holder_read : Reading → Holder → Holder
after_holder_read reading holder = record holder {
  incoming = after_reading holder.incoming reading;
  outgoing = if has_failed reading then Deaf else holder.outgoing;
}

-- It is read only while no line of it waits.
abbrev pub read : Reading → Holder → Holder
read reading holder = if has_line holder then holder else after_holder_read reading holder

abbrev pub sent : ℕ → Holder → Holder
sent count holder = record holder { outgoing = after_sent holder.outgoing count }

abbrev pub queued : Octets → Holder → Holder
queued text holder = record holder {
  outgoing = with_text holder.outgoing text;
  is_offered = false;
}

-- Its socket was offered all that waits, and accepts no more yet.
abbrev pub offered : Holder → Holder
offered holder = record holder { is_offered = true }

abbrev pub watched_at : ℕ → Holder → Holder
watched_at now holder = record holder { outgoing = watched holder.outgoing now }

abbrev pub welcomed : Holder → Holder
welcomed holder = record holder { is_new = false }

-- A change of one connection alone.
abbrev pub if_holder : ℕ → (Holder → Holder) → Holder → Holder
if_holder id change holder = if holder.id == id then change holder else holder
