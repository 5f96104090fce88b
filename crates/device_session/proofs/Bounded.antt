-- No buffer passes its limit.
use Rattle.std.proofs.Common.{◌≡◌, ℕ, ◌+◌, ◌-◌, ◌≤◌, Bool, true, false, List, [], ◌∷◌, length, Option, Some, None, refl, arith}
use Rattle.std.specs.Prelude.{if◌then◌else◌, fold, IfSome}
use Rattle.std.specs.List.{position_or_len}
use Rattle.std.specs.Option.{option_map}
use Rattle.std.proofs.lemmas.Bool.{leb-true}
use Rattle.std.proofs.lemmas.List.{length-append, length-drop}
use Rattle.octet_io.specs.Number.{Octets}
use Rattle.app_lines.specs.Inbox.{found_in, is_feed, rest_after}
use Rattle.app_lines.specs.declared.inbox.Found.{Found}
use Rattle.app_lines.specs.declared.inbox.Found.TheVariants.{Line, Nothing, TooLong}
use Rattle.app_lines.specs.declared.inbox.TheConstants.{ROOM}
use Rattle.device_session.specs.declared.askers.Asker.{Asker}
use Rattle.device_session.specs.declared.askers.Asker.TheVariants as asker
use Rattle.device_session.specs.declared.holder.Holder.{Holder}
use Rattle.device_session.specs.declared.incoming.Incoming.{Incoming}
use Rattle.device_session.specs.declared.outgoing.Outgoing.{Outgoing}
use Rattle.device_session.specs.declared.outgoing.Outgoing.TheVariants.{Open, Deaf}
use Rattle.device_session.specs.declared.seat.Next.{Next}
use Rattle.device_session.specs.declared.seat.Seat.{Seat}
use Rattle.device_session.specs.declared.seat.Seat.TheVariants.{Free, Taken}
use Rattle.device_session.specs.declared.visitor.Visit.{Visit}
use Rattle.device_session.specs.declared.visitor.Visit.TheVariants.{Stays, Reads, Asks, Comes, Leaves}
use Rattle.device_session.specs.declared.visitor.Visitor.{Visitor}
use Rattle.device_session.specs.Holder.{after_holder_read, deafened, has_line, if_holder, is_gone, offered, queued, read, sent, watched_at, welcomed, with_arrival}
use Rattle.device_session.specs.Incoming.{IsShort, Reading, after_reading, has_failed, is_found}
use Rattle.device_session.specs.Incoming.Arrival.{Ready, Taken as Took}
use Rattle.device_session.specs.Incoming.Reading.{Brings, Waits, Ends as Finishes, Fails, Repeats}
use Rattle.device_session.specs.Laws.{ArePossible, Bounds, Event, IsBounded, IsBoundedHolder, IsBoundedInput, IsBoundedOutput, IsBoundedSeat, IsBoundedVisitor, IsPossibleEvent, after_event}
use Rattle.device_session.specs.Laws.Event.{Knocks, Comes as Connects, Arrives, Readies, Sends, Offers, Refuses, Attends, Fills, Watches, Tells, Answers, Chooses, Asks as Takes, Welcomes, Ends, Holds, Releases}
use Rattle.device_session.specs.Outgoing.{after_sent, fits, watched, with_text}
use Rattle.device_session.specs.Seats.{Seats, accepts, after_visit, chosen_in, counted_down, ended, fits_by, given, has_next, has_next_line, is_full_in, is_given, is_slow_in, left_by, left_seat, next_after, nobody, on_holder, read_or_left, seat_for, seating, visit_in, with_taken}
use Rattle.device_session.specs.Visitor.{if_visitor, visitor_arrival, visitor_at, visitor_read}
use Rattle.device_session.proofs.Feeds.{short}

-- inputs
rest-fits : (found : Found) (octets : Octets) → length octets ≤ ROOM → length (rest_after found octets) ≤ ROOM
rest-fits Line octets fits = omega (arith, fits, length-drop (position_or_len is_feed octets + 1) octets)
rest-fits Nothing octets fits = fits
rest-fits TooLong octets fits = fits

read-fits : (incoming : Incoming) (reading : Reading) → found_in incoming.inbox ≡ Nothing → IsShort reading → IsBoundedInput incoming
    → IsBoundedInput (after_reading incoming reading)
read-fits incoming (Brings octets) none few fits = omega (arith, short incoming.inbox none, few, length-append incoming.inbox octets)
read-fits incoming Waits none few fits = fits
read-fits incoming Finishes none few fits = fits
read-fits incoming Fails none few fits = fits
read-fits incoming Repeats none few fits = fits

not-found : (found : Found) → is_found found ≡ false → found ≡ Nothing
not-found Nothing is = refl
not-found Line is = cc is
not-found TooLong is = cc is

-- outputs
sent-fits : (outgoing : Outgoing) (count : ℕ) → IsBoundedOutput outgoing → IsBoundedOutput (after_sent outgoing count)
sent-fits (Open outbox stalled) count fits = (fits.0, omega (arith, fits.1, length-drop count outbox.octets))
sent-fits Deaf count fits = tt

watched-fits : (outgoing : Outgoing) (now : ℕ) → IsBoundedOutput outgoing → IsBoundedOutput (watched outgoing now)
watched-fits (Open outbox stalled) now fits = fits
watched-fits Deaf now fits = tt

text-fits : (outgoing : Outgoing) (text : Octets) → fits outgoing text ≡ true → IsBoundedOutput outgoing → IsBoundedOutput (with_text outgoing text)
text-fits (Open outbox stalled) text is bounded =
    (bounded.0, omega (arith, bounded.0, leb-true (length outbox.octets + length text) outbox.limit is, length-append outbox.octets text))
text-fits Deaf text is bounded = tt

failed-fits : (outgoing : Outgoing) (failed : Bool) → IsBoundedOutput outgoing → IsBoundedOutput (if failed then Deaf else outgoing)
failed-fits outgoing true fits = tt
failed-fits outgoing false fits = fits

-- an application
abbrev Keeps : (Holder → Holder) → Type 0
Keeps change = (holder : Holder) → IsBoundedHolder holder → IsBoundedHolder (change holder)

reads-fit : (reading : Reading) → IsShort reading → Keeps (read reading)
reads-fit reading few holder fits = test (has_line holder) refl
  where
    test : (line : Bool) → has_line holder ≡ line → IsBoundedHolder (if line then holder else after_holder_read reading holder)
    test true is = fits
    test false is = (
      read-fits holder.incoming reading (not-found (found_in holder.incoming.inbox) is) few fits.0,
      failed-fits holder.outgoing (has_failed reading) fits.1,
    )

if-id : (id : ℕ) (change : Holder → Holder) → Keeps change → Keeps (if_holder id change)
if-id id change keeps holder fits = test _
  where
    test : (is : Bool) → IsBoundedHolder (if is then change holder else holder)
    test true = keeps holder fits
    test false = fits

on : (change : Holder → Holder) → Keeps change → (seat : Seat) → IsBoundedSeat seat → IsBoundedSeat (on_holder change seat)
on change keeps (Free all_read) fits = tt
on change keeps (Taken holder) fits = keeps holder fits

ends : (seat : Seat) → IsBoundedSeat (ended seat)
ends (Free all_read) = tt
ends (Taken holder) = tt

coming : (seat : Seat) (visitor : Visitor) → IsBoundedVisitor visitor → IsBoundedSeat seat → IsBoundedSeat (seat_for seat visitor)
coming (Free all_read) visitor visit fits = (visit, (refl, omega arith))
coming (Taken holder) visitor visit fits = fits

waiting : (seat : Seat) (visitor : Visitor) → IsBoundedVisitor visitor
    → IfSome (next_after seat visitor) (λ next. IsBoundedVisitor next.visitor)
waiting (Free all_read) visitor visit = tt
waiting (Taken holder) visitor visit = visit

leaves : (seat : Seat) (next : Option Next) → IsBoundedSeat seat → IsBoundedSeat (left_seat seat next)
leaves (Free all_read) next fits = tt
leaves (Taken holder) (Some next) fits = fits
leaves (Taken holder) None fits = gone (is_gone holder)
  where
    gone : (is : Bool) → IsBoundedSeat (if is then left_by holder else Taken holder)
    gone true = tt
    gone false = fits

counts : (seat : Seat) (next : Option Next) → IfSome next (λ next. IsBoundedVisitor next.visitor)
    → IfSome (counted_down seat next) (λ next. IsBoundedVisitor next.visitor)
counts (Free all_read) next fits = fits
counts (Taken holder) None fits = tt
counts (Taken holder) (Some next) fits = line (has_line holder)
  where
    line : (is : Bool)
        → IfSome (if is then Some next else Some (record next { last_reads = next.last_reads - 1 })) (λ next. IsBoundedVisitor next.visitor)
    line true = fits
    line false = fits

tells : (text : Octets) (seat : Seat) → fits_by seat text ≡ true → IsBoundedSeat seat → IsBoundedSeat (on_holder (queued text) seat)
tells text (Free all_read) is fits = tt
tells text (Taken holder) is fits = (fits.0, text-fits holder.outgoing text is fits.1)

-- a visitor
visitor-on : (change : Visitor → Visitor) → ((visitor : Visitor) → IsBoundedVisitor visitor → IsBoundedVisitor (change visitor))
    → (visitor : Option Visitor) → IfSome visitor IsBoundedVisitor → IfSome (option_map change visitor) IsBoundedVisitor
visitor-on change keeps (Some visitor) fits = keeps visitor fits
visitor-on change keeps None fits = tt

visitor-reads : (reading : Reading) → IsShort reading → (visitor : Visitor) → IsBoundedVisitor visitor
    → IsBoundedVisitor (visitor_read reading visitor)
visitor-reads reading few visitor fits = test (is_found (found_in visitor.incoming.inbox)) refl
  where
    test : (line : Bool) → is_found (found_in visitor.incoming.inbox) ≡ line
        → IsBoundedInput (if line then visitor.incoming else after_reading visitor.incoming reading)
    test true is = fits
    test false is = read-fits visitor.incoming reading (not-found (found_in visitor.incoming.inbox) is) few fits

if-visitor-id : (id : ℕ) (change : Visitor → Visitor)
    → ((visitor : Visitor) → IsBoundedVisitor visitor → IsBoundedVisitor (change visitor)) → (visitor : Visitor)
    → IsBoundedVisitor visitor → IsBoundedVisitor (if_visitor id change visitor)
if-visitor-id id change keeps visitor fits = test _
  where
    test : (is : Bool) → IsBoundedVisitor (if is then change visitor else visitor)
    test true = keeps visitor fits
    test false = fits

module _ (seats : Seats) (fits : IsBounded seats) where
  -- the seat changes, and nobody comes
  placed : (seat : Seat) → IsBoundedSeat seat → IsBounded (record seats { seat = seat })
  placed seat bounded = record { seat = bounded; next = fits.next; visitor = fits.visitor }

  visited : (visitor : Option Visitor) → IfSome visitor IsBoundedVisitor → IsBounded (record seats { visitor = visitor })
  visited visitor bounded = record { seat = fits.seat; next = fits.next; visitor = bounded }

  claims : (next : Bool) (visitor : Option Visitor) → IfSome visitor IsBoundedVisitor → IsBounded (if next then seats else seating visitor seats)
  claims true visitor visit = fits
  claims false (Some visitor) visit = record {
    seat = coming seats.seat visitor visit fits.seat;
    next = waiting seats.seat visitor visit;
    visitor = tt;
  }
  claims false None visit = fits

  visits : (visit : Visit) → IsBounded (after_visit visit seats)
  visits Comes = claims (has_next seats) seats.visitor fits.visitor
  visits Leaves = visited None tt
  visits Reads = fits
  visits Stays = fits
  visits Asks = fits

  connects : (id : ℕ) (remote : Bool) (now : ℕ) (free : Bool)
      → IsBounded (if free then record seats { visitor = Some (visitor_at id remote now) } else seats)
  connects id remote now true = visited (Some (visitor_at id remote now)) (omega arith)
  connects id remote now false = fits

  gives : (next : Option Next) → IfSome next (λ next. IsBoundedVisitor next.visitor) → IsBounded (given next seats)
  gives (Some next) waits = record { seat = (waits, (refl, omega arith)); next = tt; visitor = fits.visitor }
  gives None waits = fits

  fill-fits : (held giving full : Bool)
      → IsBounded (if held then seats else if giving then given seats.next seats else if full then seats else read_or_left seats)
  fill-fits true giving full = fits
  fill-fits false true full = gives seats.next fits.next
  fill-fits false false true = fits
  fill-fits false false false = record {
    seat = leaves seats.seat seats.next fits.seat;
    next = counts seats.seat seats.next fits.next;
    visitor = fits.visitor;
  }

  watches : (now : ℕ) (slow : Bool) → IsBoundedSeat (if slow then ended seats.seat else on_holder (watched_at now) seats.seat)
  watches now true = ends seats.seat
  watches now false =
      (on (watched_at now) (λ holder bounded. (bounded.0, watched-fits holder.outgoing now bounded.1)) seats.seat fits.seat)

  chooses : (now : ℕ) (held : Bool) → IsBounded (if held then seats else record seats { askers = chosen_in seats now })
  chooses now true = fits
  chooses now false = record { seat = fits.seat; next = fits.next; visitor = fits.visitor }

  takes : (line : Bool) (who : Asker) → IsBounded (if line then with_taken who seats else seats)
  takes false who = fits
  takes true asker.Application =
      placed (on_holder (with_arrival Took) seats.seat)
      (on (with_arrival Took)
      (λ holder bounded. (rest-fits (found_in holder.incoming.inbox) holder.incoming.inbox bounded.0, bounded.1)) seats.seat fits.seat)
  takes true asker.Visitor =
      visited (option_map (visitor_arrival Took) seats.visitor)
      (visitor-on (visitor_arrival Took)
      (λ visitor bounded. rest-fits (found_in visitor.incoming.inbox) visitor.incoming.inbox bounded) seats.visitor fits.visitor)

  event-keeps : (event : Event) → IsPossibleEvent seats event → IsBounded (after_event seats event)
  event-keeps Knocks possible = record { seat = fits.seat; next = fits.next; visitor = fits.visitor }
  event-keeps (Connects id remote now) possible = connects id remote now (accepts seats)
  event-keeps (Arrives id reading) few = record {
    seat = on (if_holder id (read reading)) (if-id id (read reading) (reads-fit reading few)) seats.seat fits.seat;
    next = fits.next;
    visitor = visitor-on (if_visitor id (visitor_read reading)) (if-visitor-id id (visitor_read reading) (visitor-reads reading few))
        seats.visitor fits.visitor;
  }
  event-keeps Readies possible = record {
    seat = on (with_arrival Ready) (λ holder bounded. bounded) seats.seat fits.seat;
    next = fits.next;
    visitor = visitor-on (visitor_arrival Ready) (λ visitor bounded. bounded) seats.visitor fits.visitor;
  }
  event-keeps (Sends id count) possible =
      placed (on_holder (if_holder id (sent count)) seats.seat)
      (on (if_holder id (sent count))
      (if-id id (sent count) (λ holder bounded. (bounded.0, sent-fits holder.outgoing count bounded.1))) seats.seat fits.seat)
  event-keeps (Offers id) possible =
      placed (on_holder (if_holder id offered) seats.seat)
      (on (if_holder id offered) (if-id id offered (λ holder bounded. bounded)) seats.seat fits.seat)
  event-keeps (Refuses id) possible =
      placed (on_holder (if_holder id deafened) seats.seat)
      (on (if_holder id deafened) (if-id id deafened (λ holder bounded. (bounded.0, tt))) seats.seat fits.seat)
  event-keeps (Attends now) possible = visits (visit_in seats now)
  event-keeps Fills possible = fill-fits seats.is_held (is_given seats.seat seats.next) (is_full_in seats)
  event-keeps (Watches now) possible = placed _ (watches now (is_slow_in seats now))
  event-keeps (Tells text true) is = placed _ (tells text seats.seat is fits.seat)
  event-keeps (Tells text false) possible = placed _ (ends seats.seat)
  event-keeps (Answers true) possible = record { seat = fits.seat; next = fits.next; visitor = fits.visitor }
  event-keeps (Answers false) possible = visited None tt
  event-keeps (Chooses now) possible = chooses now seats.is_held
  event-keeps Takes possible = takes (has_next_line seats) seats.askers.asker
  event-keeps Welcomes possible = placed _ (on welcomed (λ holder bounded. bounded) seats.seat fits.seat)
  event-keeps Ends possible = placed _ (ends seats.seat)
  event-keeps Holds possible = record { seat = fits.seat; next = fits.next; visitor = fits.visitor }
  event-keeps Releases possible = record { seat = fits.seat; next = fits.next; visitor = fits.visitor }

all-keep : (seats : Seats) (events : List Event) → ArePossible seats events → IsBounded seats → IsBounded (fold after_event seats events)
unfolding ArePossible
all-keep seats [] possible fits = fits
all-keep seats (event ∷ events) possible fits =
    all-keep (after_event seats event) events possible.1 (event-keeps seats fits event possible.0)

pub bounds : Bounds
bounds events possible = all-keep nobody events possible (record { seat = tt; next = tt; visitor = tt })
