-- Each visitor is one that connected and has sent this.
use Rattle.std.proofs.Common.{◌≡◌, ℕ, Bool, true, false, List, [], ◌∷◌, ◌++◌, Option, Some, None, refl, sym, ap, subst, ◌∙◌}
use Rattle.std.specs.Prelude.{if◌then◌else◌, fold}
use Rattle.std.specs.Option.{option_map, option_map_or}
use Rattle.std.proofs.lemmas.List.Sums.{fold-append}
use Rattle.app_lines.specs.Inbox.{found_in}
use Rattle.device_session.specs.declared.askers.Asker.{Asker}
use Rattle.device_session.specs.declared.askers.Asker.TheVariants as asker
use Rattle.device_session.specs.declared.seat.Next.{Next}
use Rattle.device_session.specs.declared.visitor.Visit.{Visit}
use Rattle.device_session.specs.declared.visitor.Visit.TheVariants.{Stays, Reads, Asks, Comes, Leaves}
use Rattle.device_session.specs.declared.visitor.Visitor.{Visitor}
use Rattle.device_session.specs.Incoming.{Arrival, Reading, Received, after_arrival, after_reading, fresh, is_found, received, with_arrival}
use Rattle.device_session.specs.Incoming.Arrival.{Came, Later, Over, Ready, Taken}
use Rattle.device_session.specs.Incoming.Reading.{Brings, Waits, Ends as Finishes, Fails, Repeats}
use Rattle.device_session.specs.Laws.{ComesRightly, Event, after_event, seats_after}
use Rattle.device_session.specs.Laws.Event.{Knocks, Comes as Connects, Arrives, Readies, Sends, Offers, Refuses, Attends, Fills, Watches, Tells, Answers, Chooses, Asks as Takes, Welcomes, Ends, Holds, Releases}
use Rattle.device_session.specs.Seats.{Seats, accepts, after_visit, chosen_in, given, has_next, has_next_line, is_free, is_full_in, is_given, nobody, read_or_left, seating, visit_in, with_taken}
use Rattle.device_session.specs.Visitor.{if_visitor, visit_of, visitor_after, visitor_arrival, visitor_at, visitor_read}
use Rattle.device_session.proofs.Succession.{comes_as}
use Rattle.device_session.proofs.Visits.{claims_rightly}

abbrev HasSent : Visitor → Type 0
HasSent visitor =
    (id : ℕ) × (remote : Bool) × (born : ℕ) × (arrivals : List Arrival) × (visitor ≡ visitor_after id remote born arrivals)

abbrev IsKnown : Option Visitor → Type 0
IsKnown (Some visitor) = HasSent visitor
IsKnown None = Unit {0}

one-more : (id : ℕ) (remote : Bool) (born : ℕ) (arrivals : List Arrival) (arrival : Arrival)
    → record (visitor_at id remote born) { incoming = after_arrival (received arrivals).incoming arrival }
    ≡ visitor_after id remote born (arrivals ++ arrival ∷ [])
one-more id remote born arrivals arrival =
    ap (λ (all : Received). record (visitor_at id remote born) { incoming = all.incoming })
    (sym (fold-append with_arrival (record { incoming = fresh; came = []; lines = [] }) arrivals (arrival ∷ [])))

sends : (arrival : Arrival) (visitor : Visitor) → HasSent visitor → HasSent (visitor_arrival arrival visitor)
sends arrival visitor (id, remote, born, arrivals, sent) =
    (id, remote, born, arrivals ++ arrival ∷ [], ap (visitor_arrival arrival) sent ∙ one-more id remote born arrivals arrival)

is-read : (reading : Reading) (visitor : Visitor) → HasSent visitor → HasSent (visitor_read reading visitor)
is-read reading visitor sent = test (is_found (found_in visitor.incoming.inbox)) reading
  where
    test : (line : Bool) (reading : Reading)
        → HasSent (record visitor { incoming = if line then visitor.incoming else after_reading visitor.incoming reading })
    test true reading = sent
    test false (Brings octets) = sends (Came octets) visitor sent
    test false Waits = sends Later visitor sent
    test false Finishes = sends Over visitor sent
    test false Fails = sends Over visitor sent
    test false Repeats = sent

-- a change of a visitor
on : (change : Visitor → Visitor) → ((visitor : Visitor) → HasSent visitor → HasSent (change visitor)) → (visitor : Option Visitor)
    → IsKnown visitor → IsKnown (option_map change visitor)
on change keeps (Some visitor) known = keeps visitor known
on change keeps None known = tt

if-id : (id : ℕ) (change : Visitor → Visitor) → ((visitor : Visitor) → HasSent visitor → HasSent (change visitor)) → (visitor : Visitor)
    → HasSent visitor → HasSent (if_visitor id change visitor)
if-id id change keeps visitor sent = test _
  where
    test : (is : Bool) → HasSent (if is then change visitor else visitor)
    test true = keeps visitor sent
    test false = sent

module _ (seats : Seats) (known : IsKnown seats.visitor) where
  claims : (next : Bool) (visitor : Option Visitor) → IsKnown (if next then seats else seating visitor seats).visitor
  claims true visitor = known
  claims false (Some visitor) = tt
  claims false None = known

  visits : (visit : Visit) → IsKnown (after_visit visit seats).visitor
  visits Comes = claims (has_next seats) seats.visitor
  visits Leaves = tt
  visits Reads = known
  visits Stays = known
  visits Asks = known

  connects : (id : ℕ) (remote : Bool) (now : ℕ) (free : Bool)
      → IsKnown (if free then record seats { visitor = Some (visitor_at id remote now) } else seats).visitor
  connects id remote now true = (id, remote, now, [], refl)
  connects id remote now false = known

  gives : (next : Option Next) → IsKnown (given next seats).visitor
  gives (Some next) = known
  gives None = known

  fills : (held giving full : Bool)
      → IsKnown (if held then seats else if giving then given seats.next seats else if full then seats else read_or_left seats).visitor
  fills true giving full = known
  fills false true full = gives seats.next
  fills false false true = known
  fills false false false = known

  chooses : (now : ℕ) (held : Bool) → IsKnown (if held then seats else record seats { askers = chosen_in seats now }).visitor
  chooses now true = known
  chooses now false = known

  takes : (line : Bool) (who : Asker) → IsKnown (if line then with_taken who seats else seats).visitor
  takes false who = known
  takes true asker.Application = known
  takes true asker.Visitor = on (visitor_arrival Taken) (sends Taken) seats.visitor known

  event-keeps : (event : Event) → IsKnown (after_event seats event).visitor
  event-keeps Knocks = known
  event-keeps (Connects id remote now) = connects id remote now (accepts seats)
  event-keeps (Arrives id reading) =
      on (if_visitor id (visitor_read reading)) (if-id id (visitor_read reading) (is-read reading)) seats.visitor known
  event-keeps Readies = on (visitor_arrival Ready) (sends Ready) seats.visitor known
  event-keeps (Sends id count) = known
  event-keeps (Offers id) = known
  event-keeps (Refuses id) = known
  event-keeps (Attends now) = visits (visit_in seats now)
  event-keeps Fills = fills seats.is_held (is_given seats.seat seats.next) (is_full_in seats)
  event-keeps (Watches now) = known
  event-keeps (Tells text true) = known
  event-keeps (Tells text false) = known
  event-keeps (Answers true) = known
  event-keeps (Answers false) = tt
  event-keeps (Chooses now) = chooses now seats.is_held
  event-keeps Takes = takes (has_next_line seats) seats.askers.asker
  event-keeps Welcomes = known
  event-keeps Ends = known
  event-keeps Holds = known
  event-keeps Releases = known

all-keep : (seats : Seats) (events : List Event) → IsKnown seats.visitor → IsKnown (fold after_event seats events).visitor
all-keep seats [] known = known
all-keep seats (event ∷ events) known = all-keep (after_event seats event) events (event-keeps seats known event)

is-known : (visitor : Option Visitor) (one : Visitor) → visitor ≡ Some one → IsKnown visitor → HasSent one
is-known visitor one is known = subst IsKnown is known

-- the action of a visitor that is there
visit-of : (seats : Seats) (now : ℕ) (one : Visitor) → seats.visitor ≡ Some one → visit_in seats now ≡ Comes
    → visit_of one now (is_free seats) ≡ Comes
visit-of seats now one is comes =
    at seats.is_held
    (sym (ap (λ (visitor : Option Visitor). if seats.is_held then Stays else option_map_or (λ visitor. visit_of visitor now (is_free seats)) visitor Stays) is)
    ∙ comes)
  where
    at : (held : Bool) → (if held then Stays else visit_of one now (is_free seats)) ≡ Comes → visit_of one now (is_free seats) ≡ Comes
    at true is = cc is
    at false is = is

pub comes_rightly : ComesRightly
comes_rightly events now is =
    let seats : Seats = seats_after events in
    let found = comes_as seats now is in
    let one : Visitor = found.2.0 in
    let sent : HasSent one = is-known seats.visitor one found.2.1 (all-keep nobody events tt) in (
      sent.0,
      sent.1,
      sent.2,
      sent.3,
      found.2.1 ∙ ap (λ (visitor : Visitor). Some visitor) sent.4,
      claims_rightly sent.0 sent.1 sent.2 sent.3 now (is_free seats)
          (ap (λ (visitor : Visitor). visit_of visitor now (is_free seats)) (sym sent.4)
          ∙ visit-of seats now one found.2.1 found.0),
    )
