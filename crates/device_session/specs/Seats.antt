-- The seats at the application's socket: the application, the one that gets its seat next, and a
-- visitor (this profile's own). Connections are numbers. Times are in milliseconds.
use Rattle.std.specs.Prelude.{ℕ, ◌-◌, ◌==◌, ◌&&◌, ◌||◌, Bool, true, false, if◌then◌else◌, is_some, not, [], Option, Some, None}
use Rattle.std.specs.Option.{option_map, option_map_or}
use Rattle.octet_io.specs.Number.{Octets}
use Rattle.app_lines.specs.declared.inbox.Found.TheVariants as found
use Rattle.device_session.specs.declared.askers.Asker.{Asker}
use Rattle.device_session.specs.declared.askers.Asker.TheVariants as asker
use Rattle.device_session.specs.declared.askers.Askers.{Askers}
use Rattle.device_session.specs.declared.holder.Holder.{Holder}
use Rattle.device_session.specs.declared.incoming.Incoming.{Incoming}
use Rattle.device_session.specs.declared.incoming.NextLine.{NextLine}
use Rattle.device_session.specs.declared.seat.Next.{Next}
use Rattle.device_session.specs.declared.seat.Seat.{Seat}
use Rattle.device_session.specs.declared.seat.Seat.TheVariants.{Free, Taken}
use Rattle.device_session.specs.declared.seat.TheConstants.{LAST_READS}
use Rattle.device_session.specs.declared.seats.Outcome.{Outcome}
use Rattle.device_session.specs.declared.seats.Outcome.TheVariants as outcome
use Rattle.device_session.specs.declared.visitor.Visit.{Visit}
use Rattle.device_session.specs.declared.visitor.Visit.TheVariants as visit
use Rattle.device_session.specs.declared.visitor.Visitor.{Visitor}
use Rattle.device_session.specs.Askers.{after_choice, at_first}
use Rattle.device_session.specs.Holder.{acts, deafened, has_line, has_room_for_line, if_holder, is_busy, is_gone, may_ask, may_read, new_holder, offered, queued, read, sent, watched_at, welcomed, with_arrival}
use Rattle.device_session.specs.Incoming.{Reading, next_line_of, octets_of_line}
use Rattle.device_session.specs.Incoming.Arrival.{Ready, Taken as Took}
use Rattle.device_session.specs.Outgoing.{due, fits, is_deaf, is_full, is_slow, octets_of}
use Rattle.device_session.specs.Strangers.{sooner_of}
use Rattle.device_session.specs.Visitor.{has_something, if_visitor, is_asking, is_claiming, visit_of, visitor_arrival, visitor_at, visitor_read, would_come}

-- No more lines are read if they are held. Another connection waits for the visitor's seat if one
-- is knocking.
pub record Seats : Type 0 where
  pub seat : Seat
  pub next : Option Next
  pub visitor : Option Visitor
  pub askers : Askers
  pub is_held : Bool
  pub is_knocking : Bool

-- Nobody is there, and nobody visits.
abbrev pub nobody : Seats
nobody = record {
  seat = Free true;
  next = None;
  visitor = None;
  askers = at_first;
  is_held = false;
  is_knocking = false;
}

abbrev pub test_holder : (Holder → Bool) → Seat → Bool
test_holder test (Taken holder) = test holder
test_holder test (Free all_read) = false

abbrev pub on_holder : (Holder → Holder) → Seat → Seat
on_holder change (Taken holder) = Taken (change holder)
on_holder change (Free all_read) = Free all_read

abbrev pub with_seat : Seat → Seats → Seats
with_seat seat seats = record seats { seat = seat }

abbrev pub with_holder : (Holder → Holder) → Seats → Seats
with_holder change seats = record seats { seat = on_holder change seats.seat }

abbrev pub with_visitor : (Visitor → Visitor) → Seats → Seats
with_visitor change seats = record seats { visitor = option_map change seats.visitor }

-- An application has the seat.
abbrev pub is_taken : Seat → Bool
is_taken seat = test_holder (λ holder. true) seat

abbrev pub is_there : Seats → Bool
is_there seats = is_taken seats.seat

-- Another application gets the seat next.
abbrev pub has_next : Seats → Bool
has_next seats = is_some seats.next

-- No application has the seat or waits for it.
abbrev pub is_free : Seats → Bool
is_free seats = not (is_there seats) && not (has_next seats)

abbrev pub is_read_by_all : Seat → Bool
is_read_by_all (Free all_read) = all_read
is_read_by_all (Taken holder) = false

-- Nobody is there, and the last application has read everything.
abbrev pub has_read_all : Seats → Bool
has_read_all seats = is_read_by_all seats.seat

-- The application lacks the current state.
abbrev pub is_new : Seats → Bool
is_new seats = test_holder (λ (holder : Holder). holder.is_new) seats.seat

-- It has the current state, and one more line fits.
abbrev pub has_room_in : Seats → Bool
has_room_in seats = test_holder has_room_for_line seats.seat

-- Too much waits for the application: nothing may be read that causes more.
abbrev pub is_full_in : Seats → Bool
is_full_in seats = test_holder (λ (holder : Holder). is_full holder.outgoing) seats.seat

-- The next line of the application may be executed.
abbrev pub may_ask_in : Seats → Bool
may_ask_in seats = test_holder may_ask seats.seat

abbrev pub is_slow_seat : Seat → ℕ → Bool
is_slow_seat seat now =
    test_holder (λ (holder : Holder). is_slow holder.slow holder.outgoing now) seat

abbrev pub is_slow_in : Seats → ℕ → Bool
is_slow_in seats now = is_slow_seat seats.seat now

abbrev pub due_in : Seat → Option ℕ
due_in (Taken holder) = due holder.slow holder.outgoing
due_in (Free all_read) = None

abbrev pub fits_by : Seat → Octets → Bool
fits_by (Taken holder) text = fits holder.outgoing text
fits_by (Free all_read) text = true

-- A text is queued for the application, if any is there.
abbrev pub fits_in : Seats → Octets → Bool
fits_in seats text = fits_by seats.seat text

-- The application's connection, and the octets that wait for it.
abbrev pub id_of_holder : Seat → Option ℕ
id_of_holder (Taken holder) = Some holder.id
id_of_holder (Free all_read) = None

abbrev pub id_of_visitor : Seats → Option ℕ
id_of_visitor seats = option_map (λ (visitor : Visitor). visitor.id) seats.visitor

abbrev pub waiting_by : Seat → Octets
waiting_by (Taken holder) = octets_of holder.outgoing
waiting_by (Free all_read) = []

abbrev pub waiting_in : Seats → Octets
waiting_in seats = waiting_by seats.seat

-- A connection has a seat, as the application, the next one or the visitor.
abbrev pub has_seat : Seats → ℕ → Bool
has_seat seats id =
    test_holder (λ (holder : Holder). holder.id == id) seats.seat
    || option_map_or (λ (next : Next). next.visitor.id == id) seats.next false
    || option_map_or (λ (visitor : Visitor). visitor.id == id) seats.visitor false

-- The application is served before the visitor.
abbrev pub is_busy_in : Seats → Bool
is_busy_in seats = has_next seats || test_holder is_busy seats.seat

-- All lines are executed of an application that is replaced, or it was read often enough.
abbrev pub is_over : ℕ → Holder → Bool
is_over last_reads holder = (not (may_read holder) || last_reads == 0) && not (has_line holder)

abbrev pub is_leaving : Seat → Option Next → Bool
is_leaving (Taken holder) (Some next) = is_over next.last_reads holder
is_leaving (Free all_read) (Some next) = true
is_leaving seat None = false

-- The application leaves its seat to the next one.
abbrev pub gives_place : Seats → Bool
gives_place seats = not seats.is_held && is_leaving seats.seat seats.next

abbrev pub has_offered : Seat → Bool
has_offered (Taken holder) = holder.is_offered
has_offered (Free all_read) = true

-- The next application gets the seat once the one before it was offered all that waits for it.
abbrev pub is_given : Seat → Option Next → Bool
is_given seat next = is_leaving seat next && has_offered seat

-- There is something to do at once. An application that is replaced is read or given up, or its
-- lines are executed, unless too much waits for it.
abbrev pub acts_by : Seat → Option Next → Bool
acts_by (Taken holder) (Some next) =
    holder.is_new || is_over next.last_reads holder || not (is_full holder.outgoing)
acts_by (Free all_read) (Some next) = true
acts_by (Taken holder) None = acts holder
acts_by (Free all_read) None = false

-- A connection that comes now gets the visitor's seat.
abbrev pub accepts : Seats → Bool
accepts seats = not seats.is_held && not (is_some seats.visitor)

-- A connection waits for the visitor's seat.
abbrev pub after_knock : Seats → Seats
after_knock seats = record seats { is_knocking = is_some seats.visitor }

-- A connection comes. One that gets no seat is closed.
abbrev pub after_coming : ℕ → Bool → ℕ → Seats → Seats
after_coming id remote now seats =
    if accepts seats then record seats { visitor = Some (visitor_at id remote now) } else seats

-- The octets of a connection go to it alone.
abbrev pub after_arrival_at : ℕ → Reading → Seats → Seats
after_arrival_at id reading seats =
    with_visitor (if_visitor id (visitor_read reading))
    (with_holder (if_holder id (read reading)) seats)

-- Each connection may have sent more.
abbrev pub after_ready : Seats → Seats
after_ready seats =
    with_visitor (visitor_arrival Ready)
    (with_holder (with_arrival Ready) seats)

abbrev pub after_sending : ℕ → ℕ → Seats → Seats
after_sending id count seats = with_holder (if_holder id (sent count)) seats

-- A connection was offered all that waits.
abbrev pub after_offer : ℕ → Seats → Seats
after_offer id seats = with_holder (if_holder id offered) seats

-- A connection accepts no more.
abbrev pub after_refusal : ℕ → Seats → Seats
after_refusal id seats = with_holder (if_holder id deafened) seats

-- The visitor's next action.
abbrev pub visit_in : Seats → ℕ → Visit
visit_in seats now =
    if seats.is_held then visit.Stays
    else option_map_or (λ visitor. visit_of visitor now (is_free seats)) seats.visitor visit.Stays

abbrev pub is_coming : Visit → Bool
is_coming visit.Comes = true
is_coming visit = false

-- A visitor may come only if no other one waits for the seat.
abbrev pub may_come : Seats → Bool
may_come seats = not (has_next seats) && is_some seats.visitor

-- The visitor gets the seat, or is the next to get it.
abbrev pub comes : Seats → ℕ → Bool
comes seats now = is_coming (visit_in seats now) && may_come seats

-- A free seat is taken. An application that is there is replaced later.
abbrev pub seat_for : Seat → Visitor → Seat
seat_for (Free all_read) visitor = Taken (new_holder visitor)
seat_for (Taken holder) visitor = Taken (with_arrival Ready holder)

abbrev pub next_after : Seat → Visitor → Option Next
next_after (Free all_read) visitor = None
next_after (Taken holder) visitor =
    Some (record { visitor = visitor; last_reads = LAST_READS })

abbrev pub seated : Visitor → Seats → Seats
seated visitor seats = record seats {
  seat = seat_for seats.seat visitor;
  next = next_after seats.seat visitor;
  visitor = None;
}

abbrev pub seating : Option Visitor → Seats → Seats
seating (Some visitor) seats = seated visitor seats
seating None seats = seats

-- The visitor gets the seat, or is the next to get it, unless another one is.
abbrev pub after_claim : Seats → Seats
after_claim seats = if has_next seats then seats else seating seats.visitor seats

abbrev pub after_visit : Visit → Seats → Seats
after_visit visit.Leaves seats = record seats { visitor = None }
after_visit visit.Comes seats = after_claim seats
after_visit visit seats = seats

-- The visitor leaves, or comes.
abbrev pub after_attending : ℕ → Seats → Seats
after_attending now seats = after_visit (visit_in seats now) seats

abbrev pub read_of : Option Visitor → Outcome
read_of (Some visitor) = outcome.Reads visitor.id
read_of None = outcome.Nothing

abbrev pub outcome_of_visit : Visit → Seats → Outcome
outcome_of_visit visit.Reads seats = read_of seats.visitor
outcome_of_visit visit.Comes seats =
    if may_come seats then outcome.Comes else outcome.Nothing
outcome_of_visit visit seats = outcome.Nothing

abbrev pub outcome_of_attending : ℕ → Seats → Outcome
outcome_of_attending now seats = outcome_of_visit (visit_in seats now) seats

abbrev pub given : Option Next → Seats → Seats
given (Some next) seats =
    record seats { seat = Taken (new_holder next.visitor); next = None }
given None seats = seats

abbrev pub left_by : Holder → Seat
left_by holder = Free (not (is_deaf holder.outgoing))

-- An application leaves once it is gone, unless it is replaced then.
abbrev pub left_seat : Seat → Option Next → Seat
left_seat (Taken holder) None = if is_gone holder then left_by holder else Taken holder
left_seat seat next = seat

-- The reads of an application that is replaced are counted down.
abbrev pub counted_down : Seat → Option Next → Option Next
counted_down (Taken holder) (Some next) =
    if has_line holder then Some next
    else Some (record next { last_reads = next.last_reads - 1 })
counted_down seat next = next

abbrev pub read_or_left : Seats → Seats
read_or_left seats = record seats {
  seat = left_seat seats.seat seats.next;
  next = counted_down seats.seat seats.next;
}

abbrev pub after_filling : Seats → Seats
after_filling seats =
    if seats.is_held then seats
    else if is_given seats.seat seats.next then given seats.next seats
    else if is_full_in seats then seats
    else read_or_left seats

abbrev pub outcome_by : Seat → Option Next → Outcome
outcome_by (Free all_read) next = outcome.Nothing
outcome_by (Taken holder) next =
    if has_line holder then outcome.Nothing
    else if is_some next || may_read holder then outcome.Reads holder.id
    else if is_gone holder then outcome.Gone
    else outcome.Nothing

abbrev pub outcome_of_filling : Seats → Outcome
outcome_of_filling seats =
    if seats.is_held then outcome.Nothing
    else if is_given seats.seat seats.next then outcome.Replaced
    else if is_full_in seats then outcome.Nothing
    else outcome_by seats.seat seats.next

abbrev pub ended : Seat → Seat
ended (Taken holder) = Free false
ended (Free all_read) = Free all_read

-- The application is ended. It may not have read everything.
abbrev pub after_end : Seats → Seats
after_end seats = with_seat (ended seats.seat) seats

-- An application that accepts nothing for too long is cut off.
abbrev pub watched_seat : ℕ → Seat → Seat
watched_seat now seat =
    if is_slow_seat seat now then ended seat else on_holder (watched_at now) seat

abbrev pub after_watch : ℕ → Seats → Seats
after_watch now seats = with_seat (watched_seat now seats.seat) seats

abbrev pub after_welcome : Seats → Seats
after_welcome seats = with_holder welcomed seats

abbrev pub after_telling : Seats → Octets → Bool → Seats
after_telling seats text fits =
    if fits then with_holder (queued text) seats else after_end seats

-- The visitor is closed unless it accepts a whole answer at once.
abbrev pub after_answer : Seats → Bool → Seats
after_answer seats accepted =
    record seats { visitor = if accepted then seats.visitor else None }

-- Lines are read again. A connection may have come in the meantime.
abbrev pub after_release : Seats → Seats
after_release seats = record seats { is_held = false; is_knocking = true }

abbrev pub is_asked : Seats → Bool
is_asked seats =
    option_map_or (λ visitor. is_asking visitor (is_free seats)) seats.visitor false

abbrev pub may_be_asked : Asker → Seats → Bool
may_be_asked asker.Application seats = may_ask_in seats
may_be_asked asker.Visitor seats = is_asked seats

-- The sender of the last line has sent another one.
abbrev pub has_next_line : Seats → Bool
has_next_line seats = not seats.is_held && may_be_asked seats.askers.asker seats

-- The sender of the next line, chosen at a time in milliseconds.
abbrev pub chosen_in : Seats → ℕ → Askers
chosen_in seats now = after_choice seats.askers (record {
  visited = is_asked seats;
  busy = is_busy_in seats;
  now = now;
})

abbrev pub after_choosing : Seats → ℕ → Seats
after_choosing seats now =
    if seats.is_held then seats else record seats { askers = chosen_in seats now }

abbrev pub input_by : Seat → Option Incoming
input_by (Taken holder) = Some holder.incoming
input_by (Free all_read) = None

abbrev pub input_of : Asker → Seats → Option Incoming
input_of asker.Application seats = input_by seats.seat
input_of asker.Visitor seats =
    option_map (λ (visitor : Visitor). visitor.incoming) seats.visitor

-- The input of which a line is taken next.
abbrev pub next_input : Seats → Option Incoming
next_input seats = if has_next_line seats then input_of seats.askers.asker seats else None

abbrev pub next_line_of_any : Option Incoming → NextLine
next_line_of_any (Some incoming) = next_line_of incoming
next_line_of_any None = record { found = found.Nothing; is_first = false }

abbrev pub octets_of_any : Option Incoming → Octets → Octets
octets_of_any (Some incoming) before = octets_of_line incoming before
octets_of_any None before = before

abbrev pub next_line_in : Seats → NextLine
next_line_in seats = next_line_of_any (next_input seats)

abbrev pub line_from : Seats → Octets → Octets
line_from seats before = octets_of_any (next_input seats) before

abbrev pub with_taken : Asker → Seats → Seats
with_taken asker.Application seats = with_holder (with_arrival Took) seats
with_taken asker.Visitor seats = with_visitor (visitor_arrival Took) seats

abbrev pub after_asking : Seats → Seats
after_asking seats =
    if has_next_line seats then with_taken seats.askers.asker seats else seats

-- A visitor that claims the seat while another one waits for it waits, too. Without a visitor, a
-- connection that waits for its seat is accepted, if any is.
abbrev pub has_visit : Bool → Seats → Bool
has_visit accepts seats =
    option_map_or
    (λ visitor. has_something visitor && not (has_next seats && is_claiming visitor))
    seats.visitor (seats.is_knocking && accepts)

-- There is something to do at once.
abbrev pub acts_now : Bool → Seats → Bool
acts_now accepts seats =
    if seats.is_held then is_new seats
    else has_visit accepts seats || acts_by seats.seat seats.next

-- The end of a visit. A visitor that would get the seat stays while another one waits for it.
abbrev pub visit_due : Bool → Option Visitor → Option ℕ
visit_due next (Some visitor) = if next && would_come visitor then None else Some visitor.due
visit_due next None = None

-- The end of the visit, or the time at which the application is cut off.
abbrev pub due_of_all : Seats → Option ℕ
due_of_all seats =
    sooner_of (if seats.is_held then None else visit_due (has_next seats) seats.visitor)
    (due_in seats.seat)

abbrev pub is_visitor : Asker → Bool
is_visitor asker.Visitor = true
is_visitor asker.Application = false
