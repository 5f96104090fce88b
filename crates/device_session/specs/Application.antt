-- The effects of the sockets of the application and its visitor on their seats (this profile's
-- own). The octets that a socket brings, or accepts, are not known. All else is.
use Rattle.std.specs.Prelude.{◌≡◌, ◌⊎◌, ℕ, Bool, true, false}
use Rattle.device_session.specs.declared.holder.Holder.{Holder}
use Rattle.device_session.specs.declared.seats.Outcome.{Outcome}
use Rattle.device_session.specs.declared.seats.Outcome.TheVariants.{Reads}
use Rattle.device_session.specs.Holder.{deafened, if_holder, offered, sent}
use Rattle.device_session.specs.Incoming.{IsShort, Reading}
use Rattle.device_session.specs.Seats.{Seats, after_answer, after_arrival_at, after_attending, after_coming, after_filling, after_knock, after_ready, after_sending, after_watch, gives_place, is_full_in, is_slow_in, outcome_of_attending, outcome_of_filling, with_holder}

-- All octets that wait are offered. Some are accepted, or none, or no more are ever accepted.
pub data Writing : Type 0 where
  Nothing : Writing
  Accepts : (count : ℕ) → Writing
  Refuses : Writing

abbrev pub written : Writing → Holder → Holder
written Nothing holder = offered holder
written (Accepts count) holder = offered (sent count holder)
written Refuses holder = deafened holder

-- Some octets are accepted at once, or none.
abbrev pub IsSent : ℕ → Seats → Seats → Type 0
IsSent id before after = (after ≡ before) ⊎ ((count : ℕ) × (after ≡ after_sending id count before))

abbrev pub IsWritten : ℕ → Seats → Seats → Type 0
IsWritten id before after =
    (writing : Writing) × (after ≡ with_holder (if_holder id (written writing)) before)

-- The waiting octets of the application are written, as far as it accepts them.
abbrev pub IsFlushed : Seats → Seats → Type 0
IsFlushed before after = (writing : Writing) × (after ≡ with_holder (written writing) before)

pub record IsWrittenIf (writes : Bool) (before after : Seats) : Type 0 where
  pub written : writes ≡ true → IsFlushed before after
  pub same : writes ≡ false → after ≡ before

-- A connection is read once.
abbrev pub IsArrival : ℕ → Seats → Seats → Type 0
IsArrival id before after =
    (reading : Reading) × IsShort reading × (after ≡ after_arrival_at id reading before)

-- Only the connection that is to be read is read.
abbrev pub IsServed : Outcome → Seats → Seats → Type 0
IsServed (Reads id) before after = IsArrival id before after
IsServed outcome before after = after ≡ before

-- A connection waits, and maybe comes.
abbrev pub IsKnock : ℕ → Seats → Seats → Type 0
IsKnock now before after =
    (after ≡ after_knock before)
    ⊎ ((id : ℕ) × (remote : Bool) × (after ≡ after_coming id remote now (after_knock before)))

abbrev pub IsAttended : ℕ → Seats → Seats → Type 0
IsAttended now before after =
    IsServed (outcome_of_attending now before) (after_attending now before) after

-- The last octets for an application that is replaced are written before another one has the seat.
pub record IsFilled (before : Seats) (outcome : Outcome) (after : Seats) : Type 0 where
  pub flushed : Seats
  pub writes : IsWrittenIf (gives_place before) before flushed
  pub is : outcome ≡ outcome_of_filling flushed
  pub serves : IsServed (outcome_of_filling flushed) (after_filling flushed) after

-- If much waits for the application, its socket may accept a little without an event.
pub record IsWatch (now : ℕ) (before after : Seats) (slow : Bool) : Type 0 where
  pub flushed : Seats
  pub writes : IsWrittenIf (is_full_in before) before flushed
  pub is : slow ≡ is_slow_in flushed now
  pub watches : after ≡ after_watch now flushed

abbrev pub IsReady : Seats → Seats → Type 0
IsReady before after = IsFlushed (after_ready before) after

abbrev pub IsAnswered : Seats → Seats → Type 0
IsAnswered before after = (accepted : Bool) × (after ≡ after_answer before accepted)
