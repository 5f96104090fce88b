-- The lines of an application or of its visitor, and their answers (this profile's own).
use Rattle.std.specs.Prelude.{◌≡◌, ◌⊎◌, ℕ, ◌+◌, ◌<◌, ◌&&◌, ◌++◌, Bool, true, false, if◌then◌else◌, is_some, List, [], ◌∷◌, fold, length, nat_le, not, Option, Some, None, Result, Ok, Err}
use Rattle.octet_io.specs.Number.{Octets}
use Rattle.gatt_laws.specs.machine.Calls.{Call}
use Rattle.app_lines.specs.declared.inbox.Found.{Found}
use Rattle.app_lines.specs.declared.names.Named.{Named}
use Rattle.app_lines.specs.declared.inbox.Found.TheVariants as found
use Rattle.host_api.specs.declared.app.AppFault.{AppFault}
use Rattle.device_session.specs.declared.asked.LineKind.{LineKind}
use Rattle.device_session.specs.declared.asked.LineKind.TheVariants as kind
use Rattle.device_session.specs.declared.asking.Closing.{Closing}
use Rattle.device_session.specs.declared.asking.Closing.TheVariants.{No, LineTooLong, FirstLineWrong}
use Rattle.device_session.specs.declared.asking.TheConstants.{MOST_ANSWERS}
use Rattle.device_session.specs.declared.asking.Unanswered.{Unanswered}
use Rattle.device_session.specs.declared.asking.Unanswered.TheVariants.{Nothing, Line, TooLong, Later}
use Rattle.device_session.specs.declared.incoming.NextLine.{NextLine}
use Rattle.device_session.specs.declared.turns.Turns.{Turns}
use Rattle.device_session.specs.Incoming.{is_found}
use Rattle.device_session.specs.Questions.{call_in, question_in}
use Rattle.device_session.specs.Lines.{kind_of_line}
use Rattle.device_session.specs.Seats.{Seats, after_asking, line_from, next_line_in}

-- The last line, which may wait for its answer, and the answers that wait for a save, if any do.
-- Their texts are missing if memory was refused for one.
pub record Asking : Type 0 where
  pub line : Octets
  pub unanswered : Unanswered
  pub closing : Closing
  pub answers : Option (Option Octets)

abbrev pub nothing_asked : Asking
nothing_asked = record {
  line = [];
  unanswered = Nothing;
  closing = No;
  answers = None;
}

abbrev pub is_unanswered : Unanswered → Bool
is_unanswered Nothing = false
is_unanswered line = true

-- A line waits for its answer, or its answer is put off.
abbrev pub is_waiting : Asking → Bool
is_waiting asking = is_unanswered asking.unanswered

-- The next line may be executed: none waits, and neither does an answer.
abbrev pub may_begin : Asking → Bool
may_begin asking = not (is_waiting asking) && not (is_some asking.answers)

abbrev pub stays_open : Closing → Bool
stays_open No = true
stays_open closing = false

abbrev pub is_short : Option Octets → Bool
is_short (Some answers) = nat_le (length answers) MOST_ANSWERS
is_short None = false

abbrev pub are_few : Option (Option Octets) → Bool
are_few (Some answers) = is_short answers
are_few None = false

-- Another line may be executed before the save, after the answer to one.
abbrev pub may_continue : Asking → Bool
may_continue asking =
    not (is_waiting asking) && stays_open asking.closing && are_few asking.answers

abbrev pub is_wrong_kind : LineKind → Bool
is_wrong_kind kind.Wrong = true
is_wrong_kind kind = false

abbrev pub unanswered_after : Found → Unanswered → Unanswered
unanswered_after found.Nothing before = before
unanswered_after found.TooLong before = TooLong
unanswered_after found.Line before = Line (Ok tt)

-- It may be executed at the time that the host has.
abbrev pub goes_on : Turns → Asking → Bool
goes_on turns asking = turns.is_current && may_continue asking

-- A connection is closed after a line that is too long, and after a first one that is no command.
abbrev pub closing_after : Found → Bool → Octets → Closing → Closing
closing_after found.Nothing first line closing = closing
closing_after found.TooLong first line closing = LineTooLong
closing_after found.Line first line closing =
    if first && is_wrong_kind (kind_of_line line) then FirstLineWrong else No

abbrev pub with_next_line : NextLine → Octets → Asking → Asking
with_next_line next line asking = record asking {
  line = line;
  unanswered = unanswered_after next.found asking.unanswered;
  closing = closing_after next.found next.is_first line asking.closing;
}

-- The next line of the application or its visitor is taken, if there is one.
abbrev pub asked_next : Seats → Asking → Asking
asked_next seats asking =
    with_next_line (next_line_in seats) (line_from seats asking.line) asking

-- The call that the last line makes, with at most `room` octets of a value, or why it makes none.
abbrev pub call_by : Asking → List Named → ℕ → ℕ → Result (Option Call) AppFault
call_by asking named time room =
    call_in (question_in asking.unanswered asking.line) named time room

abbrev pub call_made : Result (Option Call) AppFault → Option Call
call_made (Ok call) = call
call_made (Err fault) = None

abbrev pub called_with : Result (Unit {0}) AppFault → Unanswered → Unanswered
called_with answer (Line before) = Line answer
called_with answer unanswered = unanswered

-- The call of the line that waits is answered.
abbrev pub after_call : Result (Unit {0}) AppFault → Asking → Asking
after_call answer asking =
    record asking { unanswered = called_with answer asking.unanswered }

abbrev pub answer_in : Unanswered → Result (Unit {0}) AppFault
answer_in (Line answer) = answer
answer_in unanswered = Ok tt

abbrev pub refused_with : Result (Option Call) AppFault → Unanswered → Unanswered
refused_with (Ok call) unanswered = unanswered
refused_with (Err fault) unanswered = called_with (Err fault) unanswered

-- A line that names no connection is refused without a call.
abbrev pub refused_by : Result (Option Call) AppFault → Asking → Asking
refused_by call asking = record asking { unanswered = refused_with call asking.unanswered }

-- A line is taken only if it may be.
abbrev pub call_if : Bool → Seats → Asking → List Named → ℕ → ℕ
    → Result (Option Call) AppFault
call_if may seats asking named time room =
    if may then call_by (asked_next seats asking) named time room else Ok None

abbrev pub asked_if : Bool → Seats → Asking → List Named → ℕ → ℕ → Asking
asked_if may seats asking named time room =
    if may
    then refused_by (call_by (asked_next seats asking) named time room)
    (asked_next seats asking)
    else asking

abbrev pub seats_if : Bool → Seats → Seats → Seats
seats_if may chosen seats = if may then after_asking chosen else seats

-- The answer to the line that waits is put off.
abbrev pub after_delay : Asking → Asking
after_delay asking =
    record asking { unanswered = if is_waiting asking then Later else asking.unanswered }

abbrev pub appended : Option Octets → Option Octets → Option Octets
appended (Some answers) (Some text) = Some (answers ++ text)
appended answers text = None

abbrev pub joined : Option (Option Octets) → Option Octets → Option (Option Octets)
joined (Some answers) text = Some (appended answers text)
joined None text = Some text

-- The line that waits is answered by a text, or memory was refused for it. If none waits, there is
-- nothing to answer.
abbrev pub with_answer : Option Octets → Asking → Asking
with_answer text asking =
    if is_waiting asking
    then record asking { unanswered = Nothing; answers = joined asking.answers text }
    else asking

abbrev pub IsAnswerKept : Option Octets → Asking → Asking → Type 0
IsAnswerKept text before after =
    (after ≡ with_answer text before) ⊎ (after ≡ with_answer None before)

-- The connection is closed after the answers, but not before the answer to a line that still waits.
abbrev pub closing_now : Asking → Closing
closing_now asking = if is_waiting asking then No else asking.closing

abbrev pub without_closing : Asking → Asking
without_closing asking =
    record asking { closing = if is_waiting asking then asking.closing else No }

abbrev pub without_answers : Asking → Asking
without_answers asking = record asking { answers = None }

abbrev pub replied : Asking → Asking
replied asking =
    if is_some asking.answers then without_closing (without_answers asking) else asking

-- All that may be done with lines and answers, in any order: the first line of a turn is taken, or
-- another one before the same save; the call of the host is answered; the answer to the line is
-- put off; it is there; or the answers are sent.
pub data Step : Type 0 where
  Begins : (next : NextLine) (line : Octets) → Step
  Continues : (next : NextLine) (line : Octets) → Step
  Called : (answer : Result (Unit {0}) AppFault) → Step
  Delays : Step
  Answers : (text : Option Octets) → Step
  Replies : Step

abbrev pub taken_if : Bool → NextLine → Octets → Asking → Asking
taken_if may next line asking = if may then with_next_line next line asking else asking

abbrev pub after_step : Asking → Step → Asking
after_step asking (Begins next line) = taken_if (may_begin asking) next line asking
after_step asking (Continues next line) = taken_if (may_continue asking) next line asking
after_step asking (Called answer) = after_call answer asking
after_step asking Delays = after_delay asking
after_step asking (Answers text) = with_answer text asking
after_step asking Replies = replied asking

-- The lines that were taken and the answers that were given are counted from the start. The texts
-- are those since the last reply. The last line closes its connection, or not.
pub record Exchange : Type 0 where
  pub asking : Asking
  pub lines : ℕ
  pub answered : ℕ
  pub texts : List (Option Octets)
  pub last : Closing

abbrev pub count_of : Bool → ℕ
count_of test = if test then 1 else 0

abbrev pub takes_line : Asking → Step → Bool
takes_line asking (Begins next line) = may_begin asking && is_found next.found
takes_line asking (Continues next line) = may_continue asking && is_found next.found
takes_line asking step = false

abbrev pub with_line_taken : Bool → NextLine → Octets → Exchange → Exchange
with_line_taken takes next line exchange =
    if takes then record exchange {
      lines = exchange.lines + 1;
      last = closing_after next.found next.is_first line No;
    }
    else exchange

abbrev pub with_text : Option Octets → Exchange → Exchange
with_text text exchange =
    if is_waiting exchange.asking then record exchange {
      answered = exchange.answered + 1;
      texts = exchange.texts ++ text ∷ [];
    }
    else exchange

abbrev pub counted : Exchange → Step → Exchange
counted exchange (Begins next line) =
    with_line_taken (takes_line exchange.asking (Begins next line)) next line exchange
counted exchange (Continues next line) =
    with_line_taken (takes_line exchange.asking (Continues next line)) next line exchange
counted exchange (Answers text) = with_text text exchange
counted exchange Replies = record exchange { texts = [] }
counted exchange step = exchange

abbrev pub with_step : Exchange → Step → Exchange
with_step exchange step =
    record (counted exchange step) { asking = after_step exchange.asking step }

abbrev pub at_start : Exchange
at_start = record {
  asking = nothing_asked;
  lines = 0;
  answered = 0;
  texts = [];
  last = No;
}

abbrev pub exchange_after : List Step → Exchange
exchange_after steps = fold with_step at_start steps

-- It became what it is by such steps alone.
unfoldable pub IsReached : Asking → Type 0
IsReached asking = (steps : List Step) × (asking ≡ (exchange_after steps).asking)

-- All texts in their order, unless memory was refused for one. There are none without a text.
abbrev pub all_joined : List (Option Octets) → Option (Option Octets)
all_joined texts = fold joined None texts

-- Each line gets one answer, unless it still waits for it. The answers that are sent next are the
-- texts since the last reply, in order.
pub record AnswersInOrder (exchange : Exchange) : Type 0 where
  pub one_each : exchange.lines ≡ exchange.answered + count_of (is_waiting exchange.asking)
  pub in_order : exchange.asking.answers ≡ all_joined exchange.texts

abbrev pub AnswersEachLine : Type 0
AnswersEachLine = (steps : List Step) → AnswersInOrder (exchange_after steps)

-- After a line that closes its connection, none is taken before its answer is sent. The reply with
-- the answer to the last line closes the connection exactly if that line does.
pub record IsClosed (exchange : Exchange) : Type 0 where
  pub none_taken :
      (step : Step) → takes_line exchange.asking step ≡ true → exchange.asking.closing ≡ No
  pub by_reply :
      is_waiting exchange.asking ≡ false → is_some exchange.asking.answers ≡ true
      → closing_now exchange.asking ≡ exchange.last

abbrev pub EndsWithClosing : Type 0
EndsWithClosing = (steps : List Step) → IsClosed (exchange_after steps)

-- The reply ends a turn. Another line of the turn is taken only after the answer to one, so a turn
-- that begins with octets or with the time takes no line.
abbrev pub ContinuesLines : Type 0
ContinuesLines =
    (steps : List Step) (next : NextLine) (line : Octets)
    → takes_line (exchange_after steps).asking (Continues next line) ≡ true
    → 0 < length (exchange_after steps).texts
