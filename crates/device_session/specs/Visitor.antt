-- A connection that is not the application yet (this profile's own). Times are in milliseconds.
use Rattle.std.specs.Prelude.{◌≡◌, ◌≢◌, ◌⊎◌, ℕ, ◌+◌, ◌-◌, ◌^◌, ◌==◌, ◌<◌, ◌≤◌, ◌&&◌, ◌||◌, Bool, true, false, if◌then◌else◌, List, [], min, nat_le, not}
use Rattle.octet_io.specs.Number.{Octets}
use Rattle.app_lines.specs.Inbox.{found_in, line_in}
use Rattle.app_lines.specs.declared.inbox.Found.{Found}
use Rattle.app_lines.specs.declared.inbox.Found.TheVariants.{Line, Nothing, TooLong}
use Rattle.device_session.specs.declared.asked.LineKind.{LineKind}
use Rattle.device_session.specs.declared.asked.LineKind.TheVariants.{Claim, Call}
use Rattle.device_session.specs.declared.incoming.Input.{Input}
use Rattle.device_session.specs.declared.incoming.Input.TheVariants.{Readable, Quiet, Ended}
use Rattle.device_session.specs.declared.visitor.TheConstants.{SLOW_PORT_TIME, SLOW_TIME, VISIT}
use Rattle.device_session.specs.declared.visitor.Visit.{Visit}
use Rattle.device_session.specs.declared.visitor.Visit.TheVariants.{Stays, Reads, Asks, Comes, Leaves}
use Rattle.device_session.specs.declared.visitor.Visitor.{Visitor}
use Rattle.device_session.specs.Incoming.{Arrival, Reading, after_arrival, after_reading, fresh, is_found, is_nothing, received}
use Rattle.device_session.specs.Lines.{kind_of_line}

-- The end of a visit, at most 2^64 - 1.
abbrev pub due_after : ℕ → ℕ
due_after now = min (now + VISIT) (2 ^ 64 - 1)

-- The time in which an application may accept nothing of what waits for it. The system of one at a
-- port accepts nothing until the application has read much.
abbrev pub slow_of : Bool → ℕ
slow_of remote = if remote then SLOW_PORT_TIME else SLOW_TIME

-- A visitor that connects at a path, or `remote`, at a port.
abbrev pub visitor_at : ℕ → Bool → ℕ → Visitor
visitor_at id remote now = record {
  id = id;
  incoming = fresh;
  slow = slow_of remote;
  due = due_after now;
}

abbrev pub visitor_arrival : Arrival → Visitor → Visitor
visitor_arrival arrival visitor =
    record visitor { incoming = after_arrival visitor.incoming arrival }

-- It is read only while no line of it waits.
abbrev pub visitor_read : Reading → Visitor → Visitor
visitor_read reading visitor = record visitor {
  incoming =
      if is_found (found_in visitor.incoming.inbox) then visitor.incoming
      else after_reading visitor.incoming reading;
}

-- A change of one connection alone.
abbrev pub if_visitor : ℕ → (Visitor → Visitor) → Visitor → Visitor
if_visitor id change visitor = if visitor.id == id then change visitor else visitor

-- A call claims a place that is free.
abbrev pub by_kind : LineKind → Bool → Visit
by_kind Claim free = Comes
by_kind Call free = if free then Comes else Asks
by_kind kind free = Asks

-- Without a line: it is late, and has sent nothing yet.
abbrev pub by_input : Input → Bool → Bool → Visit
by_input Ended nothing late = Leaves
by_input Readable nothing late = if late && not nothing then Leaves else Reads
by_input Quiet nothing late =
    if late && not nothing then Leaves else if late then Comes else Stays

abbrev pub by_found : Found → Visitor → ℕ → Bool → Visit
by_found Line visitor now free = by_kind (kind_of_line (line_in visitor.incoming.inbox)) free
by_found TooLong visitor now free = Asks
by_found Nothing visitor now free =
    by_input visitor.incoming.input (is_nothing visitor.incoming) (nat_le visitor.due now)

abbrev pub visit_of : Visitor → ℕ → Bool → Visit
visit_of visitor now free = by_found (found_in visitor.incoming.inbox) visitor now free

abbrev pub asks_by_kind : LineKind → Bool → Bool
asks_by_kind Claim free = false
asks_by_kind Call free = not free
asks_by_kind kind free = true

abbrev pub asks_by_found : Found → Octets → Bool → Bool
asks_by_found Line octets free = asks_by_kind (kind_of_line (line_in octets)) free
asks_by_found TooLong octets free = true
asks_by_found Nothing octets free = false

abbrev pub is_asking : Visitor → Bool → Bool
is_asking visitor free =
    asks_by_found (found_in visitor.incoming.inbox) visitor.incoming.inbox free

abbrev pub is_claim : LineKind → Bool
is_claim Claim = true
is_claim kind = false

abbrev pub claims_by_found : Found → Octets → Bool
claims_by_found Line octets = is_claim (kind_of_line (line_in octets))
claims_by_found found octets = false

-- Its next line claims the place, whether that is free or not.
abbrev pub is_claiming : Visitor → Bool
is_claiming visitor = claims_by_found (found_in visitor.incoming.inbox) visitor.incoming.inbox

-- It becomes the application in its time, unless it sends something else.
abbrev pub would_come : Visitor → Bool
would_come visitor = is_claiming visitor || is_nothing visitor.incoming

-- A visitor that connected at a time, after it has sent this.
abbrev pub visitor_after : ℕ → Bool → ℕ → List Arrival → Visitor
visitor_after id remote born arrivals =
    record (visitor_at id remote born) { incoming = (received arrivals).incoming }

abbrev pub BeginsWith : LineKind → Octets → Type 0
BeginsWith kind octets = (found_in octets ≡ Line) × (kind_of_line (line_in octets) ≡ kind)

-- The line `application` is next, or a call while there is no application, or nothing came of it
-- in its time.
abbrev pub Claims : ℕ → List Arrival → ℕ → Bool → Type 0
Claims born arrivals now free =
    BeginsWith Claim (received arrivals).incoming.inbox
    ⊎ ((free ≡ true) × BeginsWith Call (received arrivals).incoming.inbox)
    ⊎ (((received arrivals).came ≡ []) × (due_after born ≤ now))

-- A visitor becomes the application only so.
abbrev pub ClaimsRightly : Type 0
ClaimsRightly =
    (id : ℕ) (remote : Bool) (born : ℕ) (arrivals : List Arrival) (now : ℕ) (free : Bool)
    → visit_of (visitor_after id remote born arrivals) now free ≡ Comes
    → Claims born arrivals now free

-- Once its time is over, it does not stay, and nothing more of it is read.
pub record EndsInTime (visit : Visit) (came : Octets) : Type 0 where
  pub ends : visit ≢ Stays
  pub reads_no_more : visit ≡ Reads → came ≡ []

abbrev pub LeavesInTime : Type 0
LeavesInTime =
    (id : ℕ) (remote : Bool) (born : ℕ) (arrivals : List Arrival) (now : ℕ) (free : Bool)
    → due_after born ≤ now
    → EndsInTime (visit_of (visitor_after id remote born arrivals) now free)
    (received arrivals).came

abbrev pub is_quiet : Input → Bool
is_quiet Quiet = true
is_quiet input = false

abbrev pub is_nothing_found : Found → Bool
is_nothing_found Nothing = true
is_nothing_found found = false

-- There is something to do before its time is over.
abbrev pub has_something : Visitor → Bool
has_something visitor =
    not (is_quiet visitor.incoming.input && is_nothing_found (found_in visitor.incoming.inbox))

-- A visitor that has something to do does it at any time. Another one stays until its time is over.
abbrev pub WakesInTime : Type 0
WakesInTime =
    (visitor : Visitor) (now : ℕ) (free : Bool)
    → (has_something visitor ≡ true → visit_of visitor now free ≢ Stays)
    × (has_something visitor ≡ false → now < visitor.due → visit_of visitor now free ≡ Stays)
