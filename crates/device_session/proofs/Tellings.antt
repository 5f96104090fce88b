-- The octets that wait for the application are the end of the texts that were queued for it.
use Rattle.std.proofs.Common.{◌≡◌, ℕ, Bool, true, false, List, [], ◌∷◌, ◌++◌, Option, Some, None, take, drop, refl, sym, ap, subst, ◌∙◌, append_assoc, append-nil}
use Rattle.std.specs.Prelude.{◌&&◌, if◌then◌else◌, fold, is_some, not}
use Rattle.std.proofs.lemmas.List.{take-append-drop}
use Rattle.octet_io.specs.Number.{Octets}
use Rattle.device_session.specs.declared.askers.Asker.{Asker}
use Rattle.device_session.specs.declared.askers.Asker.TheVariants as asker
use Rattle.device_session.specs.declared.holder.Holder.{Holder}
use Rattle.device_session.specs.declared.outgoing.Outgoing.{Outgoing}
use Rattle.device_session.specs.declared.outgoing.Outgoing.TheVariants.{Open, Deaf}
use Rattle.device_session.specs.declared.seat.Next.{Next}
use Rattle.device_session.specs.declared.seat.Seat.{Seat}
use Rattle.device_session.specs.declared.seat.Seat.TheVariants.{Free, Taken}
use Rattle.device_session.specs.declared.visitor.Visit.{Visit}
use Rattle.device_session.specs.declared.visitor.Visit.TheVariants.{Stays, Reads, Asks, Comes, Leaves}
use Rattle.device_session.specs.declared.visitor.Visitor.{Visitor}
use Rattle.device_session.specs.Holder.{after_holder_read, deafened, has_line, if_holder, is_gone, offered, queued, read, sent, watched_at, welcomed, with_arrival}
use Rattle.device_session.specs.Incoming.{Reading, has_failed}
use Rattle.device_session.specs.Incoming.Arrival.{Ready, Taken as Took}
use Rattle.device_session.specs.Laws.{Event, IsEnd, IsEndIn, Telling, TellsInOrder, with_event}
use Rattle.device_session.specs.Laws.Event.{Knocks, Comes as Connects, Arrives, Readies, Sends, Offers, Refuses, Attends, Fills, Watches, Tells, Answers, Chooses, Asks as Takes, Welcomes, Ends, Holds, Releases}
use Rattle.device_session.specs.Outgoing.{after_sent, watched, with_text}
use Rattle.device_session.specs.Seats.{Seats, accepts, after_attending, after_visit, chosen_in, comes, ended, given, has_next, has_next_line, is_coming, is_free, is_full_in, is_given, is_slow_in, is_taken, left_by, left_seat, may_come, nobody, on_holder, read_or_left, seat_for, seating, visit_in, with_taken}
use Rattle.device_session.specs.Visitor.{visitor_at}
use Rattle.device_session.proofs.Succession.{comes_to}

-- a change of the output that leaves the end
abbrev Leaving : (Holder → Holder) → Type 0
Leaving change = (texts : Octets) (holder : Holder) → IsEnd texts holder.outgoing → IsEnd texts (change holder).outgoing

sends-end : (texts : Octets) (outgoing : Outgoing) (count : ℕ) → IsEnd texts outgoing → IsEnd texts (after_sent outgoing count)
sends-end texts (Open outbox stalled) count end = (
  end.0 ++ take count outbox.octets,
  end.1 ∙ ap (λ (octets : Octets). end.0 ++ octets) (sym (take-append-drop count outbox.octets))
      ∙ sym (append_assoc end.0 (take count outbox.octets) (drop count outbox.octets)),
)
sends-end texts Deaf count end = tt

sends : (count : ℕ) → Leaving (sent count)
sends count texts holder end = sends-end texts holder.outgoing count end

watched-end : (now : ℕ) (texts : Octets) (outgoing : Outgoing) → IsEnd texts outgoing → IsEnd texts (watched outgoing now)
watched-end now texts (Open outbox stalled) end = end
watched-end now texts Deaf end = tt

failed-end : (texts : Octets) (outgoing : Outgoing) (failed : Bool) → IsEnd texts outgoing → IsEnd texts (if failed then Deaf else outgoing)
failed-end texts outgoing true end = tt
failed-end texts outgoing false end = end

reads : (reading : Reading) → Leaving (read reading)
reads reading texts holder end = at (has_line holder)
  where
    at : (line : Bool) → IsEnd texts (if line then holder else after_holder_read reading holder).outgoing
    at true = end
    at false = failed-end texts holder.outgoing (has_failed reading) end

if-id : (id : ℕ) (change : Holder → Holder) → Leaving change → Leaving (if_holder id change)
if-id id change leaves texts holder end = test _
  where
    test : (is : Bool) → IsEnd texts (if is then change holder else holder).outgoing
    test true = leaves texts holder end
    test false = end

on : (change : Holder → Holder) → Leaving change → (texts : Octets) (seat : Seat) → IsEndIn texts seat → IsEndIn texts (on_holder change seat)
on change leaves texts (Free all_read) end = tt
on change leaves texts (Taken holder) end = leaves texts holder end

ends : (texts : Octets) (seat : Seat) → IsEndIn texts (ended seat)
ends texts (Free all_read) = tt
ends texts (Taken holder) = tt

-- a text
text-end : (texts : Octets) (outgoing : Outgoing) (text : Octets) → IsEnd texts outgoing → IsEnd (texts ++ text) (with_text outgoing text)
text-end texts (Open outbox stalled) text end =
    (end.0, ap (λ (texts : Octets). texts ++ text) end.1 ∙ append_assoc end.0 outbox.octets text)
text-end texts Deaf text end = tt

tells : (texts : Octets) (seat : Seat) (text : Octets) → IsEndIn texts seat
    → IsEndIn (texts ++ (if is_taken seat then text else [])) (on_holder (queued text) seat)
tells texts (Free all_read) text end = tt
tells texts (Taken holder) text end = text-end texts holder.outgoing text end

no-more : (texts : Octets) (seat : Seat) → IsEndIn texts seat → IsEndIn (texts ++ []) seat
no-more texts seat end = subst (λ (texts : Octets). IsEndIn texts seat) (sym (append-nil texts)) end

-- nothing was queued yet for a new application
comes-end : (texts : Octets) (seat : Seat) (next : Bool) (visitor : Visitor) → next ≡ false → IsEndIn texts seat
    → IsEndIn (if not (is_taken seat) && not next then [] else texts ++ []) (seat_for seat visitor)
comes-end texts (Free all_read) false visitor none end = ([], refl)
comes-end texts (Free all_read) true visitor none end = cc none
comes-end texts (Taken holder) next visitor none end = no-more texts (Taken holder) end

gives : (texts : Octets) (seats : Seats) (next : Option Next) → is_given seats.seat next ≡ true → IsEndIn [] (given next seats).seat
gives texts seats (Some next) is = ([], refl)
gives texts seats None is = none seats.seat is
  where
    none : (seat : Seat) → is_given seat None ≡ true → IsEndIn [] seats.seat
    none (Taken holder) is = cc is
    none (Free all_read) is = cc is

leaves : (texts : Octets) (seat : Seat) (next : Option Next) → IsEndIn texts seat → IsEndIn texts (left_seat seat next)
leaves texts (Free all_read) next end = tt
leaves texts (Taken holder) (Some next) end = end
leaves texts (Taken holder) None end = gone (is_gone holder)
  where
    gone : (is : Bool) → IsEndIn texts (if is then left_by holder else Taken holder)
    gone true = tt
    gone false = end

module _ (seats : Seats) (texts : Octets) (end : IsEndIn texts seats.seat) where
  fill-end : (held giving full : Bool) → is_given seats.seat seats.next ≡ giving
      → IsEndIn (if not held && giving then [] else texts ++ [])
      (if held then seats else if giving then given seats.next seats else if full then seats else read_or_left seats).seat
  fill-end true giving full is = no-more texts seats.seat end
  fill-end false true full is = gives texts seats seats.next is
  fill-end false false true is = no-more texts seats.seat end
  fill-end false false false is = no-more texts _ (leaves texts seats.seat seats.next end)

  claim-stays : (next : Bool) (visitor : Option Visitor) → not next && is_some visitor ≡ false
      → (if next then seats else seating visitor seats).seat ≡ seats.seat
  claim-stays true visitor is = refl
  claim-stays false None is = refl
  claim-stays false (Some visitor) is = cc is

  visit-stays : (visit : Visit) → is_coming visit && may_come seats ≡ false → (after_visit visit seats).seat ≡ seats.seat
  visit-stays Comes off = claim-stays (has_next seats) seats.visitor off
  visit-stays Leaves off = refl
  visit-stays Stays off = refl
  visit-stays Reads off = refl
  visit-stays Asks off = refl

  attend-end : (now : ℕ) (coming : Bool) → comes seats now ≡ coming
      → IsEndIn (if coming && is_free seats then [] else texts ++ []) (after_attending now seats).seat
  attend-end now true is =
      let to = comes_to seats now is in
      subst (λ (after : Seats). IsEndIn (if is_free seats then [] else texts ++ []) after.seat) (sym to.4)
      (comes-end texts seats.seat (has_next seats) to.0 to.2 end)
  attend-end now false is =
      subst (λ (seat : Seat). IsEndIn (texts ++ []) seat) (sym (visit-stays (visit_in seats now) is)) (no-more texts seats.seat end)

  choose-end : (now : ℕ) (held : Bool) → IsEndIn texts (if held then seats else record seats { askers = chosen_in seats now }).seat
  choose-end now true = end
  choose-end now false = end

  take-end : (line : Bool) (who : Asker) → IsEndIn texts (if line then with_taken who seats else seats).seat
  take-end false who = end
  take-end true asker.Application = on (with_arrival Took) (λ texts holder end. end) texts seats.seat end
  take-end true asker.Visitor = end

  connect-end : (visitor : Visitor) (free : Bool) → IsEndIn texts (if free then record seats { visitor = Some visitor } else seats).seat
  connect-end visitor true = end
  connect-end visitor false = end

  watch-end : (now : ℕ) (slow : Bool) → IsEndIn texts (if slow then ended seats.seat else on_holder (watched_at now) seats.seat)
  watch-end now true = ends texts seats.seat
  watch-end now false = on (watched_at now) (λ texts holder end. watched-end now texts holder.outgoing end) texts seats.seat end

event-keeps : (telling : Telling) (event : Event) → IsEndIn telling.texts telling.seats.seat
    → IsEndIn (with_event telling event).texts (with_event telling event).seats.seat
event-keeps telling Knocks end = no-more telling.texts telling.seats.seat end
event-keeps telling (Connects id remote now) end =
    no-more telling.texts _ (connect-end telling.seats telling.texts end (visitor_at id remote now) (accepts telling.seats))
event-keeps telling (Arrives id reading) end =
    no-more telling.texts _ (on (if_holder id (read reading)) (if-id id (read reading) (reads reading)) telling.texts telling.seats.seat end)
event-keeps telling Readies end =
    no-more telling.texts _ (on (with_arrival Ready) (λ texts holder end. end) telling.texts telling.seats.seat end)
event-keeps telling (Sends id count) end =
    no-more telling.texts _ (on (if_holder id (sent count)) (if-id id (sent count) (sends count)) telling.texts telling.seats.seat end)
event-keeps telling (Offers id) end =
    no-more telling.texts _ (on (if_holder id offered) (if-id id offered (λ texts holder end. end)) telling.texts telling.seats.seat end)
event-keeps telling (Refuses id) end =
    no-more telling.texts _ (on (if_holder id deafened) (if-id id deafened (λ texts holder end. tt)) telling.texts telling.seats.seat end)
event-keeps telling (Attends now) end = attend-end telling.seats telling.texts end now (comes telling.seats now) refl
event-keeps telling Fills end =
    fill-end telling.seats telling.texts end telling.seats.is_held (is_given telling.seats.seat telling.seats.next) (is_full_in telling.seats) refl
event-keeps telling (Watches now) end = no-more telling.texts _ (watch-end telling.seats telling.texts end now (is_slow_in telling.seats now))
event-keeps telling (Tells text true) end = tells telling.texts telling.seats.seat text end
event-keeps telling (Tells text false) end = no-more telling.texts _ (ends telling.texts telling.seats.seat)
event-keeps telling (Answers accepted) end = no-more telling.texts telling.seats.seat end
event-keeps telling (Chooses now) end = no-more telling.texts _ (choose-end telling.seats telling.texts end now telling.seats.is_held)
event-keeps telling Takes end =
    no-more telling.texts _ (take-end telling.seats telling.texts end (has_next_line telling.seats) telling.seats.askers.asker)
event-keeps telling Welcomes end = no-more telling.texts _ (on welcomed (λ texts holder end. end) telling.texts telling.seats.seat end)
event-keeps telling Ends end = no-more telling.texts _ (ends telling.texts telling.seats.seat)
event-keeps telling Holds end = no-more telling.texts telling.seats.seat end
event-keeps telling Releases end = no-more telling.texts telling.seats.seat end

all-keep : (telling : Telling) (events : List Event) → IsEndIn telling.texts telling.seats.seat
    → let last : Telling = fold with_event telling events in IsEndIn last.texts last.seats.seat
all-keep telling [] end = end
all-keep telling (event ∷ events) end = all-keep (with_event telling event) events (event-keeps telling event end)

pub tells_in_order : TellsInOrder
tells_in_order events = all-keep (record { seats = nobody; texts = [] }) events tt
