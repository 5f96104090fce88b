-- The values that an application knows by the lines that it reads (this profile's own).
use Rattle.std.specs.Prelude.{◌≡◌, ℕ, ◌==◌, ◌++◌, Bool, true, false, if◌then◌else◌, List, [], filter, fold, map, not}
use Rattle.std.specs.List.{list_any}
use Rattle.octet_io.specs.Number.{Octets}
use Rattle.device_session.specs.declared.pending.Subject.{Subject}
use Rattle.device_session.specs.declared.pending.Subject.TheVariants.{Value, Configuration}
use Rattle.device_session.specs.Pending.{Line, is_same, with_line, without_subject}

-- The values of a table, by their handles.
abbrev pub ValuesByHandle : Type 0
ValuesByHandle = ℕ → Octets

abbrev pub with_known_value : ℕ → Octets → ValuesByHandle → ValuesByHandle
with_known_value handle value values = λ other. if handle == other then value else values other

-- A value that a line of an application or of its visitor has updated.
pub record Update : Type 0 where
  pub handle : ℕ
  pub value : Octets

abbrev pub after_known_update : ValuesByHandle → Update → ValuesByHandle
after_known_update values update = with_known_value update.handle update.value values

-- The value of a line, if it is about one.
abbrev pub with_known_change : Subject → Octets → ValuesByHandle → ValuesByHandle
with_known_change (Value handle) value values = with_known_value handle value values
with_known_change (Configuration peer attribute) value values = values

-- A change by a client. Its line says the value.
abbrev pub after_known_change : (Octets → Octets) → ValuesByHandle → Line → ValuesByHandle
after_known_change says values line = with_known_change line.subject (says line.text) values

-- The events of a turn in their order: changes by clients, each with its line; updates by lines of
-- the application; or updates by lines of its visitor. No turn has two of these.
pub data Events : Type 0 where
  ByClients : (lines : List Line) → Events
  ByItself : (updates : List Update) → Events
  ByVisitor : (updates : List Update) → Events

-- A turn: its events, whether its changes are saved then, and the handles of values that the
-- application had missed and is sent.
pub record ReadTurn : Type 0 where
  pub events : Events
  pub is_saved : Bool
  pub missed : List ℕ

-- The values of the host after the events of a turn.
abbrev pub values_after_events : (Octets → Octets) → ValuesByHandle → Events → ValuesByHandle
values_after_events says values (ByClients lines) = fold (after_known_change says) values lines
values_after_events says values (ByItself updates) = fold after_known_update values updates
values_after_events says values (ByVisitor updates) = fold after_known_update values updates

-- A line that an application reads: about a change by a client, the answer `ok` to its own update,
-- about an update of its visitor, or about a value that it had missed.
pub data Read : Type 0 where
  Changed : (line : Line) → Read
  Done : (update : Update) → Read
  Updated : (update : Update) → Read
  Missed : (handle : ℕ) (value : Octets) → Read

-- The values that an application knows after a line.
abbrev pub values_after_read : (Octets → Octets) → ValuesByHandle → Read → ValuesByHandle
values_after_read says values (Changed line) = after_known_change says values line
values_after_read says values (Done update) = after_known_update values update
values_after_read says values (Updated update) = after_known_update values update
values_after_read says values (Missed handle value) = with_known_value handle value values

-- A line that waits for a save is dropped if an update replaces its value.
abbrev pub without_update : List Line → Update → List Line
without_update waiting update = without_subject (Value update.handle) waiting

abbrev pub still_waiting : Events → List Line → List Line
still_waiting (ByClients lines) waiting = waiting
still_waiting (ByItself updates) waiting = fold without_update waiting updates
still_waiting (ByVisitor updates) waiting = fold without_update waiting updates

abbrev pub answers_in : Events → List Read
answers_in (ByItself updates) = map Done updates
answers_in events = []

abbrev pub updates_in : Events → List Read
updates_in (ByVisitor updates) = map Updated updates
updates_in events = []

abbrev pub changes_in : Events → List Line
changes_in (ByClients lines) = lines
changes_in events = []

-- The lines about changes of some subjects wait if these are not saved.
abbrev pub lines_at_once : (Subject → Bool) → Bool → List Line → List Line
lines_at_once waits saved lines =
    if saved then lines else filter (λ (line : Line). not (waits line.subject)) lines

abbrev pub with_waiting_line : List Line → Line → List Line
with_waiting_line waiting line = with_line line.subject line.text waiting

abbrev pub waiting_after : (Subject → Bool) → Bool → List Line → List Line → List Line
waiting_after waits saved lines waiting =
    if saved then []
    else fold with_waiting_line waiting (filter (λ (line : Line). waits line.subject) lines)

-- The lines of a turn: first those that waited for its save, then the answers, those about updates
-- of the visitor, those about changes by clients, and the values that the application had missed.
abbrev pub lines_read : (Subject → Bool) → ReadTurn → List Line → ValuesByHandle → List Read
lines_read waits turn waiting host =
    map Changed (if turn.is_saved then still_waiting turn.events waiting else [])
    ++ (answers_in turn.events
    ++ (updates_in turn.events
    ++ (map Changed (lines_at_once waits turn.is_saved (changes_in turn.events))
    ++ map (λ handle. Missed handle (host handle)) turn.missed)))

-- The values that the host has, those that an application knows, and the lines that wait.
pub record Sight : Type 0 where
  pub host : ValuesByHandle
  pub known : ValuesByHandle
  pub waiting : List Line

abbrev pub sight_after_turn : (Octets → Octets) → (Subject → Bool) → Sight → ReadTurn → Sight
sight_after_turn says waits sight turn = record {
  host = values_after_events says sight.host turn.events;
  known =
      fold (values_after_read says) sight.known
      (lines_read waits turn sight.waiting (values_after_events says sight.host turn.events));
  waiting =
      waiting_after waits turn.is_saved (changes_in turn.events)
      (still_waiting turn.events sight.waiting);
}

abbrev pub first_sight : ValuesByHandle → Sight
first_sight values = record { host = values; known = values; waiting = [] }

abbrev pub sight_after : (Octets → Octets) → (Subject → Bool) → ValuesByHandle → List ReadTurn
    → Sight
sight_after says waits values turns = fold (sight_after_turn says waits) (first_sight values) turns

abbrev pub is_about : ℕ → Line → Bool
is_about handle line = is_same line.subject (Value handle)

-- The application has the value of the host, unless a line about it waits. Once those that wait are
-- read, too, it has all values of the host.
pub record Agrees (says : Octets → Octets) (sight : Sight) (handle : ℕ) : Type 0 where
  pub now :
      list_any (is_about handle) sight.waiting ≡ false → sight.known handle ≡ sight.host handle
  pub saved :
      fold (after_known_change says) sight.known sight.waiting handle ≡ sight.host handle

-- Read in order, the lines leave an application with the values of the host, however it reads a
-- value in a line, and whichever changes are saved.
abbrev pub LeavesHostsValues : Type 0
LeavesHostsValues =
    (says : Octets → Octets) (waits : Subject → Bool) (values : ValuesByHandle)
    (turns : List ReadTurn) (handle : ℕ) → Agrees says (sight_after says waits values turns) handle
