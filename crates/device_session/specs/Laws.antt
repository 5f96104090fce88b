-- The laws of the application's seat, over all that may happen (this profile's own).
use Rattle.std.specs.Prelude.{◌≡◌, ◌⊎◌, ℕ, ◌+◌, ◌≤◌, ◌&&◌, ◌++◌, Bool, true, false, if◌then◌else◌, List, [], ◌∷◌, fold, length, not, IfSome, Option, Some, None}
use Rattle.octet_io.specs.Number.{Octets}
use Rattle.app_lines.specs.declared.inbox.TheConstants.{ROOM}
use Rattle.device_io.specs.declared.outbound.TheConstants.{MOST_WAITING}
use Rattle.device_session.specs.declared.holder.Holder.{Holder}
use Rattle.device_session.specs.declared.incoming.Incoming.{Incoming}
use Rattle.device_session.specs.declared.outgoing.Outgoing.{Outgoing}
use Rattle.device_session.specs.declared.outgoing.Outgoing.TheVariants.{Open, Deaf}
use Rattle.device_session.specs.declared.seat.Next.{Next}
use Rattle.device_session.specs.declared.seat.Seat.{Seat}
use Rattle.device_session.specs.declared.seat.Seat.TheVariants.{Free, Taken}
use Rattle.device_session.specs.declared.visitor.Visitor.{Visitor}
use Rattle.device_session.specs.Holder.{new_holder}
use Rattle.device_session.specs.Incoming.{Arrival, IsShort, Reading, after_arrival}
use Rattle.device_session.specs.Seats.{Seats, after_answer, after_arrival_at, after_asking, after_attending, after_choosing, after_coming, after_end, after_filling, after_knock, after_offer, after_ready, after_refusal, after_release, after_sending, after_telling, after_watch, after_welcome, comes, fits_in, has_next, is_free, is_given, is_there, nobody, seated}
use Rattle.device_session.specs.Visitor.{Claims, visitor_after}

-- All that may happen to the seats.
pub data Event : Type 0 where
  -- A connection waits for the visitor's seat, and comes.
  Knocks : Event
  Comes : (id : ℕ) (remote : Bool) (now : ℕ) → Event
  Arrives : (id : ℕ) (reading : Reading) → Event
  Readies : Event
  Sends : (id count : ℕ) → Event
  Offers : (id : ℕ) → Event
  Refuses : (id : ℕ) → Event
  Attends : (now : ℕ) → Event
  Fills : Event
  Watches : (now : ℕ) → Event
  Tells : (text : Octets) (fits : Bool) → Event
  Answers : (accepted : Bool) → Event
  Chooses : (now : ℕ) → Event
  Asks : Event
  Welcomes : Event
  Ends : Event
  Holds : Event
  Releases : Event

abbrev pub after_event : Seats → Event → Seats
after_event seats Knocks = after_knock seats
after_event seats (Comes id remote now) = after_coming id remote now seats
after_event seats (Arrives id reading) = after_arrival_at id reading seats
after_event seats Readies = after_ready seats
after_event seats (Sends id count) = after_sending id count seats
after_event seats (Offers id) = after_offer id seats
after_event seats (Refuses id) = after_refusal id seats
after_event seats (Attends now) = after_attending now seats
after_event seats Fills = after_filling seats
after_event seats (Watches now) = after_watch now seats
after_event seats (Tells text fits) = after_telling seats text fits
after_event seats (Answers accepted) = after_answer seats accepted
after_event seats (Chooses now) = after_choosing seats now
after_event seats Asks = after_asking seats
after_event seats Welcomes = after_welcome seats
after_event seats Ends = after_end seats
after_event seats Holds = record seats { is_held = true }
after_event seats Releases = after_release seats

-- The seats of a device after its start and these events.
abbrev pub seats_after : List Event → Seats
seats_after events = fold after_event nobody events

-- A visitor gets the seat, or is the next to get it.
abbrev pub comes_by : Seats → Event → Bool
comes_by seats (Attends now) = comes seats now
comes_by seats event = false

-- It is the same connection, which may have sent more.
pub record IsSame (before after : Holder) : Type 0 where
  pub id : after.id ≡ before.id
  pub slow : after.slow ≡ before.slow
  pub arrivals : List Arrival
  pub sends_more : after.incoming ≡ fold after_arrival before.incoming arrivals

-- The application stays, or leaves.
abbrev pub StaysOrLeaves : Seat → Seat → Type 0
StaysOrLeaves (Free all_read) after = after ≡ Free all_read
StaysOrLeaves (Taken holder) after =
    ((now : Holder) × (after ≡ Taken now) × IsSame holder now)
    ⊎ ((all_read : Bool) × (after ≡ Free all_read))

-- The same one gets the seat next. The reads of the application before it are counted down.
abbrev pub WaitsOn : Option Next → Option Next → Type 0
WaitsOn None after = after ≡ None
WaitsOn (Some next) after =
    (left : ℕ) × (after ≡ Some (record next { last_reads = left }))
    × (left ≤ next.last_reads) × (next.last_reads ≤ left + 1)

pub record StaysSeated (before after : Seats) : Type 0 where
  pub seat : StaysOrLeaves before.seat after.seat
  pub next : WaitsOn before.next after.next

-- The next one gets the seat once the application before it was offered all that waits for it, and
-- all its lines are executed or its reads are counted down, or once it was ended.
pub record IsGiven (before after : Seats) : Type 0 where
  pub one : Next
  pub waits : before.next ≡ Some one
  pub over : is_given before.seat before.next ≡ true
  pub seat : after.seat ≡ Taken (new_holder one.visitor)
  pub next : after.next ≡ None

abbrev pub GoesOn : Seats → Seats → Type 0
GoesOn before after = StaysSeated before after ⊎ IsGiven before after

-- A connection gets the seat only by a visit, or in turn.
abbrev pub ServesInTurn : Type 0
ServesInTurn =
    (seats : Seats) (event : Event) → comes_by seats event ≡ false
    → GoesOn seats (after_event seats event)

-- A visitor that comes gets a free seat, or else waits for it, alone.
pub record IsNext (before : Seats) (visitor : Visitor) (after : Seats) : Type 0 where
  pub visits : before.visitor ≡ Some visitor
  pub waits_alone : has_next before ≡ false
  pub seat : after ≡ seated visitor before
  pub leaves : after.visitor ≡ None

abbrev pub ComesAlone : Type 0
ComesAlone =
    (seats : Seats) (event : Event) → comes_by seats event ≡ true
    → (visitor : Visitor) × IsNext seats visitor (after_event seats event)

-- A visitor comes only by the line `application`, by a call while there is no application, or if
-- nothing came of it in its time.
abbrev pub IsClaimedAt : ℕ → Seats → Type 0
IsClaimedAt now seats =
    (id : ℕ) × (remote : Bool) × (born : ℕ) × (arrivals : List Arrival)
    × (seats.visitor ≡ Some (visitor_after id remote born arrivals))
    × Claims born arrivals now (is_free seats)

abbrev pub ComesRightly : Type 0
ComesRightly =
    (events : List Event) (now : ℕ) → comes (seats_after events) now ≡ true
    → IsClaimedAt now (seats_after events)

-- The seats, and the texts that were queued for the application since it got its seat.
pub record Telling : Type 0 where
  pub seats : Seats
  pub texts : Octets

-- This event gives the seat to another one.
abbrev pub passes : Seats → Event → Bool
passes seats Fills = not seats.is_held && is_given seats.seat seats.next
passes seats event = comes_by seats event && is_free seats

abbrev pub text_of : Seats → Event → Octets
text_of seats (Tells text true) = if is_there seats then text else []
text_of seats event = []

abbrev pub with_event : Telling → Event → Telling
with_event telling event = record {
  seats = after_event telling.seats event;
  texts =
      if passes telling.seats event then [] else telling.texts ++ text_of telling.seats event;
}

abbrev pub telling_after : List Event → Telling
telling_after events = fold with_event (record { seats = nobody; texts = [] }) events

-- The waiting octets are the end of the texts.
abbrev pub IsEnd : Octets → Outgoing → Type 0
IsEnd texts (Open outbox stalled) = (sent : Octets) × (texts ≡ sent ++ outbox.octets)
IsEnd texts Deaf = Unit {0}

abbrev pub IsEndIn : Octets → Seat → Type 0
IsEndIn texts (Taken holder) = IsEnd texts holder.outgoing
IsEndIn texts (Free all_read) = Unit {0}

-- Each text goes to the application in the seat, once, in order, and to nobody else: its sent
-- octets and its waiting ones are the texts since it got the seat.
abbrev pub TellsInOrder : Type 0
TellsInOrder =
    (events : List Event)
    → IsEndIn (telling_after events).texts (telling_after events).seats.seat

-- A read brings few octets, and a text is queued only if it fits.
abbrev pub IsPossibleEvent : Seats → Event → Type 0
IsPossibleEvent seats (Arrives id reading) = IsShort reading
IsPossibleEvent seats (Tells text true) = fits_in seats text ≡ true
IsPossibleEvent seats event = Unit {0}

unfoldable pub ArePossible : Seats → List Event → Type 0
ArePossible seats [] = Unit {0}
ArePossible seats (event ∷ events) =
    IsPossibleEvent seats event × ArePossible (after_event seats event) events

-- They became what they are by such events alone.
unfoldable pub IsReached : Seats → Type 0
IsReached seats =
    (events : List Event) × ArePossible nobody events × (seats ≡ seats_after events)

abbrev pub IsBoundedInput : Incoming → Type 0
IsBoundedInput incoming = length incoming.inbox ≤ ROOM

abbrev pub IsBoundedOutput : Outgoing → Type 0
IsBoundedOutput (Open outbox stalled) =
    (outbox.limit ≡ MOST_WAITING) × (length outbox.octets ≤ MOST_WAITING)
IsBoundedOutput Deaf = Unit {0}

abbrev pub IsBoundedHolder : Holder → Type 0
IsBoundedHolder holder = IsBoundedInput holder.incoming × IsBoundedOutput holder.outgoing

abbrev pub IsBoundedVisitor : Visitor → Type 0
IsBoundedVisitor visitor = IsBoundedInput visitor.incoming

abbrev pub IsBoundedSeat : Seat → Type 0
IsBoundedSeat (Taken holder) = IsBoundedHolder holder
IsBoundedSeat (Free all_read) = Unit {0}

-- No input or output of the application, of the next one or of the visitor passes its limit.
pub record IsBounded (seats : Seats) : Type 0 where
  pub seat : IsBoundedSeat seats.seat
  pub next : IfSome seats.next (λ next. IsBoundedVisitor next.visitor)
  pub visitor : IfSome seats.visitor IsBoundedVisitor

abbrev pub Bounds : Type 0
Bounds =
    (events : List Event) → ArePossible nobody events → IsBounded (seats_after events)
