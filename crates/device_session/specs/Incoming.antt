-- The lines that a connection of an application sends (this profile's own).
use Rattle.std.specs.Prelude.{◌≡◌, ◌≤◌, ◌==◌, ◌&&◌, ◌++◌, Bool, true, false, List, [], ◌∷◌, fold, length}
use Rattle.std.specs.List.{slice_split}
use Rattle.octet_io.specs.Number.{Octets}
use Rattle.app_lines.specs.Inbox.{found_in, is_feed, line_after, line_in, rest_after}
use Rattle.app_lines.specs.declared.inbox.Found.{Found}
use Rattle.app_lines.specs.declared.inbox.Found.TheVariants.{Line, Nothing}
use Rattle.device_session.specs.declared.incoming.Incoming.{Incoming}
use Rattle.device_session.specs.declared.incoming.Input.{Input}
use Rattle.device_session.specs.declared.incoming.Input.TheVariants.{Readable, Quiet, Ended}
use Rattle.device_session.specs.declared.incoming.NextLine.{NextLine}
use Rattle.device_session.specs.declared.incoming.Read.{Read}
use Rattle.device_session.specs.declared.incoming.Read.TheVariants as read
use Rattle.device_session.specs.declared.incoming.TheConstants.{MOST_READ}

-- Events of the input of a connection: a read brings octets, or finds none yet, or its end;
-- more may be there; its next line is taken.
pub data Arrival : Type 0 where
  Came : (octets : Octets) → Arrival
  Later : Arrival
  Over : Arrival
  Ready : Arrival
  Taken : Arrival

abbrev pub fresh : Incoming
fresh = record { inbox = []; input = Readable; is_silent = true }

-- It has sent nothing yet.
abbrev pub is_nothing : Incoming → Bool
is_nothing incoming = incoming.is_silent && length incoming.inbox == 0

abbrev pub input_when_ready : Input → Input
input_when_ready Quiet = Readable
input_when_ready input = input

abbrev pub silent_after : Found → Bool → Bool
silent_after Line silent = false
silent_after found silent = silent

abbrev pub after_arrival : Incoming → Arrival → Incoming
after_arrival incoming (Came octets) = record incoming { inbox = incoming.inbox ++ octets }
after_arrival incoming Later = record incoming { input = Quiet }
after_arrival incoming Over = record incoming { input = Ended }
after_arrival incoming Ready = record incoming { input = input_when_ready incoming.input }
after_arrival incoming Taken = record incoming {
  inbox = rest_after (found_in incoming.inbox) incoming.inbox;
  is_silent = silent_after (found_in incoming.inbox) incoming.is_silent;
}

-- A read brings octets, finds none yet, the end, or a failure, or is to be repeated.
pub data Reading : Type 0 where
  Brings : (octets : Octets) → Reading
  Waits : Reading
  Ends : Reading
  Fails : Reading
  Repeats : Reading

abbrev pub reading_of : Read → Reading
reading_of (read.Brought octets) = Brings octets.now
reading_of read.Waits = Waits
reading_of read.Ended = Ends
reading_of read.Failed = Fails

abbrev pub arrivals_of : Reading → List Arrival
arrivals_of (Brings octets) = Came octets ∷ []
arrivals_of Waits = Later ∷ []
arrivals_of Ends = Over ∷ []
arrivals_of Fails = Over ∷ []
arrivals_of Repeats = []

abbrev pub IsShort : Reading → Type 0
IsShort (Brings octets) = length octets ≤ MOST_READ
IsShort reading = Unit {0}

abbrev pub has_failed : Reading → Bool
has_failed Fails = true
has_failed reading = false

abbrev pub after_reading : Incoming → Reading → Incoming
after_reading incoming reading = fold after_arrival incoming (arrivals_of reading)

abbrev pub is_readable : Input → Bool
is_readable Readable = true
is_readable input = false

abbrev pub is_ended : Input → Bool
is_ended Ended = true
is_ended input = false

abbrev pub is_found : Found → Bool
is_found Nothing = false
is_found found = true

-- The next line of an input, and whether it is the first.
abbrev pub next_line_of : Incoming → NextLine
next_line_of incoming =
    record { found = found_in incoming.inbox; is_first = incoming.is_silent }

abbrev pub octets_of_line : Incoming → Octets → Octets
octets_of_line incoming before = line_after (found_in incoming.inbox) incoming.inbox before

-- An input, all octets that came, and the lines that were taken, in their order.
pub record Received : Type 0 where
  pub incoming : Incoming
  pub came : Octets
  pub lines : List Octets

abbrev pub octets_of : Arrival → Octets
octets_of (Came octets) = octets
octets_of arrival = []

abbrev pub line_found : Found → Octets → List Octets
line_found Line octets = line_in octets ∷ []
line_found found octets = []

abbrev pub line_taken : Incoming → Arrival → List Octets
line_taken incoming Taken = line_found (found_in incoming.inbox) incoming.inbox
line_taken incoming arrival = []

abbrev pub with_arrival : Received → Arrival → Received
with_arrival received arrival = record {
  incoming = after_arrival received.incoming arrival;
  came = received.came ++ octets_of arrival;
  lines = received.lines ++ line_taken received.incoming arrival;
}

abbrev pub received : List Arrival → Received
received arrivals = fold with_arrival (record { incoming = fresh; came = []; lines = [] }) arrivals

-- The lines of octets. The last one has no line feed yet.
abbrev pub lines_of : Octets → List Octets
lines_of octets = slice_split is_feed octets

-- However the octets are cut, each complete line is taken once, in order.
abbrev pub TakesEachLineOnce : Type 0
TakesEachLineOnce =
    (arrivals : List Arrival)
    → (received arrivals).lines ++ lines_of (received arrivals).incoming.inbox
    ≡ lines_of (received arrivals).came
