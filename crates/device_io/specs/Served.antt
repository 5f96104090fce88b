-- A controller that is served, without its transport (this profile's own). Times are in
-- milliseconds.
use Rattle.std.specs.Prelude.{◌≡◌, ℕ, Bool, true, false, ◌||◌, if◌then◌else◌, is_some, nat_le, nat_lt, not, [], ◌∷◌, codes, Option, Some, None}
use Rattle.std.specs.Option.{option_map_or}
use Rattle.octet_io.specs.Number.{Octets}
use Rattle.device_io.specs.declared.outbound.Outbound.{Outbound}
use Rattle.device_io.specs.declared.served.Fault.{Fault}
use Rattle.device_io.specs.declared.served.Fault.TheVariants.{NotInitialised, TakesNothing, TooMuch, NoMemory, NotWritten}
use Rattle.device_io.specs.declared.served.Input.{Input}
use Rattle.device_io.specs.declared.served.Input.TheVariants.{Quiet, Readable, Ending, Over}
use Rattle.device_io.specs.declared.served.Progress.{Progress}
use Rattle.device_io.specs.declared.served.Progress.TheVariants.{New, Begun, Initialised}
use Rattle.device_io.specs.Outbound.{after_accepted, fits, nothing_waits, stalled_since, with_octets}
use Rattle.device_io.specs.Patience.{given_up_at}

pub record Served : Type 0 where
  pub outbound : Outbound
  pub progress : Progress
  pub input : Input

-- A controller that has just been reached.
abbrev pub served_at : ℕ → Served
served_at now = record { outbound = nothing_waits; progress = New now; input = Quiet }

-- The time at which a controller was reached that is not initialised yet.
abbrev pub begun_at : Progress → Option ℕ
begun_at (New reached) = Some reached
begun_at (Begun reached) = Some reached
begun_at Initialised = None

-- It is not announced yet.
abbrev pub is_new : Progress → Bool
is_new (New reached) = true
is_new progress = false

abbrev pub announced_in : Progress → Progress
announced_in (New reached) = Begun reached
announced_in progress = progress

-- A time limit is over.
abbrev pub is_late : Option ℕ → ℕ → Bool
is_late due now = option_map_or (λ due. nat_le due now) due false

-- The time at which a controller is given up, unless it makes progress.
abbrev pub served_due : ℕ → Served → Option ℕ
served_due patience served =
    given_up_at patience (stalled_since served.outbound ∷ begun_at served.progress ∷ [])

abbrev pub fault_in : Input → Option Fault
fault_in (Over fault) = Some fault
fault_in input = None

-- The words of the log about a controller that is given up.
abbrev pub words_of : Fault → Octets
words_of NotInitialised = codes "given up: it is not initialised in time"
words_of TakesNothing = codes "given up: it takes no octets"
words_of TooMuch = codes "given up: too many octets wait for it"
words_of NoMemory = codes "given up: memory was refused"
words_of NotWritten = codes "gone: it cannot be written"

abbrev pub is_quiet : Input → Bool
is_quiet Quiet = true
is_quiet input = false

-- It can be read, or it must be given up.
abbrev pub needs_a_read : ℕ → ℕ → Served → Bool
needs_a_read patience now served =
    not (is_quiet served.input) || is_late (served_due patience served) now

-- The fault of a controller that is late.
abbrev pub lapse_of : Progress → Fault
lapse_of Initialised = TakesNothing
lapse_of progress = NotInitialised

abbrev pub with_fault : Fault → Served → Served
with_fault fault served = record served { input = Over fault }

-- A controller that is late is given up.
abbrev pub judged : ℕ → ℕ → Served → Served
judged patience now served =
    if is_late (served_due patience served) now then with_fault (lapse_of served.progress) served
    else served

-- It is given up, or late.
abbrev pub is_over : ℕ → ℕ → Served → Bool
is_over patience now served = is_some (fault_in (judged patience now served).input)

-- More has arrived, maybe the last of it. A controller that is given up stays so.
abbrev pub ready_in : Bool → Input → Input
ready_in ends (Over fault) = Over fault
ready_in ends Ending = Ending
ready_in ends input = if ends then Ending else Readable

abbrev pub after_arrival : Bool → Served → Served
after_arrival ends served = record served { input = ready_in ends served.input }

-- A read with this room has brought so many octets, or nothing yet. If it has not filled the room,
-- nothing is left to be read, unless the stream ends there: the end itself is read too.
abbrev pub input_after : ℕ → Option ℕ → Input → Input
input_after room read (Over fault) = Over fault
input_after room None input = Quiet
input_after room (Some count) Readable = if nat_lt count room then Quiet else Readable
input_after room (Some count) input = input

abbrev pub after_read : ℕ → Option ℕ → Served → Served
after_read room read served = record served { input = input_after room read served.input }

abbrev pub after_announcement : Served → Served
after_announcement served = record served { progress = announced_in served.progress }

abbrev pub after_initialisation : Served → Served
after_initialisation served = record served { progress = Initialised }

-- The answer of the system to octets for a controller: it accepts the first so many that wait, it
-- fails after so many, or memory is refused.
pub data Sending : Type 0 where
  Accepts : (count : ℕ) → Sending
  Fails : (count : ℕ) → Sending
  Refuses : Sending

abbrev pub after_acceptance : ℕ → ℕ → Served → Served
after_acceptance count now served =
    record served { outbound = after_accepted served.outbound count now }

abbrev pub after_queuing : Octets → ℕ → Served → Served
after_queuing octets now served =
    record served { outbound = with_octets served.outbound octets now }

abbrev pub has_room_for : Octets → Served → Bool
has_room_for octets served = fits served.outbound octets

-- A controller for which too many octets would wait is given up, and gets none of them.
abbrev pub after_queued : Octets → ℕ → ℕ → Served → Served
after_queued octets now count served =
    if has_room_for octets served
    then after_acceptance count now (after_queuing octets now served)
    else with_fault TooMuch served

abbrev pub after_write : Octets → ℕ → Sending → Served → Served
after_write octets now (Accepts count) served = after_queued octets now count served
after_write octets now (Fails count) served = after_queued octets now count served
after_write octets now Refuses served = with_fault NoMemory served

abbrev pub is_taken : Octets → Sending → Served → Bool
is_taken octets (Accepts count) served = has_room_for octets served
is_taken octets sending served = false

-- Octets that wait are accepted, or fail.
abbrev pub after_flush : ℕ → Sending → Served → Served
after_flush now (Accepts count) served = after_acceptance count now served
after_flush now (Fails count) served = with_fault NotWritten (after_acceptance count now served)
after_flush now Refuses served = served

abbrev pub IsAccepted : ℕ → Served → Served → Type 0
IsAccepted now before after = (count : ℕ) × (after ≡ after_acceptance count now before)

abbrev pub IsWritten : Octets → ℕ → Served → Served → Bool → Type 0
IsWritten octets now before after taken =
    (sending : Sending) × (taken ≡ is_taken octets sending before)
    × (after ≡ after_write octets now sending before)

abbrev pub IsFlushed : ℕ → Served → Served → Type 0
IsFlushed now before after = (sending : Sending) × (after ≡ after_flush now sending before)

abbrev pub IsDrained : ℕ → Outbound → Outbound → Type 0
IsDrained now before after = (count : ℕ) × (after ≡ after_accepted before count now)
