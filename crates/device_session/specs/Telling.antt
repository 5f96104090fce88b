-- The texts that are sent to an application, and the answers to lines (this profile's own).
use Rattle.std.specs.Prelude.{◌≡◌, ◌⊎◌, ℕ, ◌==◌, ◌&&◌, Bool, true, false, if◌then◌else◌, is_some, List, [], ◌∷◌, length, map, nat_le, not, Option, Some, None}
use Rattle.std.specs.List.{slice_range}
use Rattle.octet_io.specs.Number.{Octets}
use Rattle.device_io.specs.ControllerValue.{Controller}
use Rattle.device_io.specs.Controller.{after_announcing, after_initialising, is_begun}
use Rattle.device_session.specs.Missed.{Missed, after_last, with_missed, with_told, IsNotedUpTo}
use Rattle.device_session.specs.Pending.{Line, with_line, without_subject}
use Rattle.device_session.specs.Application.{IsFlushed}
use Rattle.device_session.specs.Seats.{Seats, after_answer, after_end, after_telling, fits_in, is_new, is_there, is_visitor}
use Rattle.device_session.specs.declared.pending.Subject.{Subject}
use Rattle.device_session.specs.declared.pending.Subject.TheVariants.{Value, Configuration}
use Rattle.device_session.specs.declared.heard.Change.{Change}

-- A text is sent if it fits. An application for which it does not fit is ended, and so is one for
-- which memory is refused.
abbrev pub IsSaid : Octets → Seats → Seats → Type 0
IsSaid text before after =
    (after ≡ after_telling before text (fits_in before text)) ⊎ (after ≡ after_end before)

-- Memory was refused if there is no text.
abbrev pub IsSaidOrEnded : Option Octets → Seats → Seats → Type 0
IsSaidOrEnded (Some text) before after = IsSaid text before after
IsSaidOrEnded None before after = after ≡ after_end before

-- An application that lacks the current state is sent nothing else before it.
pub record IsTold (text : Option Octets) (before after : Seats) : Type 0 where
  pub later : is_new before ≡ true → after ≡ before
  pub now : is_new before ≡ false → IsSaidOrEnded text before after

-- A last text is offered to the application before it is ended.
pub record IsLastSaid (text : Octets) (before after : Seats) : Type 0 where
  pub said : Seats
  pub flushed : Seats
  pub says : IsSaid text before said
  pub writes : IsFlushed said flushed
  pub ends : after ≡ after_end flushed

abbrev pub IsSaidIf : Bool → Octets → Seats → Seats → Type 0
IsSaidIf true text before after = IsSaid text before after
IsSaidIf false text before after = IsLastSaid text before after

-- The application is ended if its connection does not stay open, or if memory was refused for the
-- answer.
abbrev pub IsOwnAnswer : Option Octets → Bool → Seats → Seats → Type 0
IsOwnAnswer (Some text) stays before after = IsSaidIf stays text before after
IsOwnAnswer None stays before after = after ≡ after_end before

-- A visitor is closed unless it accepts all of its answer at once and its connection stays open.
abbrev pub IsVisitorAnswer : Option Octets → Bool → Seats → Seats → Type 0
IsVisitorAnswer text stays before after =
    (accepted : Bool) × (after ≡ after_answer before (accepted && is_some text && stays))

-- The answer to a visitor goes to the visitor, and one to the application to nobody else.
pub record IsAnswer (text : Option Octets) (stays : Bool) (before after : Seats) : Type 0
  where
    pub visitor :
        is_visitor before.askers.asker ≡ true → IsVisitorAnswer text stays before after
    pub own : is_visitor before.askers.asker ≡ false → IsOwnAnswer text stays before after

-- Nothing is sent without an answer.
abbrev pub IsReply : Option (Option Octets) → Bool → Seats → Seats → Type 0
IsReply (Some text) stays before after = IsAnswer text stays before after
IsReply None stays before after = after ≡ before

-- The lines about updates of visitors are sent, if there are any.
pub record AreSent (lines : Octets) (before after : Seats) : Type 0 where
  pub none : (length lines == 0) ≡ true → after ≡ before
  pub some : (length lines == 0) ≡ false → IsTold (Some lines) before after

-- The answers go before the lines about updates of visitors.
pub record IsReplied (answers : Option (Option Octets)) (stays : Bool) (updated : Octets)
    (before after : Seats) : Type 0 where
  pub answered : Seats
  pub answers_first : IsReply answers stays before answered
  pub updates_then : AreSent updated answered after

-- A controller is announced, and noted as initialised once it is.
abbrev pub after_telling_of : Bool → Controller → Controller
after_telling_of initialised controller =
    if initialised then after_initialising (after_announcing controller)
    else after_announcing controller

-- It is initialised, and was not when it was last looked at.
abbrev pub is_initialised_first : Bool → Controller → Bool
is_initialised_first initialised controller =
    initialised && is_begun (after_announcing controller)

-- It has the current state, and is sent each notice.
abbrev pub is_notified : Seats → Bool
is_notified seats = is_there seats && not (is_new seats)

abbrev pub noted : Subject → Bool → Missed → Missed
noted (Value handle) told missed =
    if told then with_told missed handle else with_missed missed handle
noted (Configuration peer attribute) told missed = missed

-- A written value is noted, unless memory is refused for it.
abbrev pub IsNoted : Subject → Seats → Missed → Missed → Type 0
IsNoted subject seats before after =
    (after ≡ noted subject (is_notified seats) before) ⊎ (after ≡ before)

-- The last application has read everything, or has missed the values of which it was notified, as
-- far as memory is there for them.
pub record IsLast (all_read : Bool) (before after : Missed) : Type 0 where
  pub none_told : after.told ≡ []
  pub read : all_read ≡ true → after ≡ after_last true before
  pub kept : IsNotedUpTo before.told before.handles after.handles

-- Each line is sent once, in order, and the value that it is about is noted.
unfoldable pub AreLinesTold : List Line → Seats → Missed → Seats → Missed → Type 0
AreLinesTold [] before missed after last = (after ≡ before) × (last ≡ missed)
AreLinesTold (line ∷ lines) before missed after last =
    (next : Seats) × (now : Missed) × AreSent line.text before next
    × IsNoted line.subject next missed now × AreLinesTold lines next now after last

-- Each value is noted, in order.
unfoldable pub AreNoted : List Subject → Seats → Missed → Missed → Type 0
AreNoted [] seats before after = after ≡ before
AreNoted (subject ∷ subjects) seats before after =
    (now : Missed) × IsNoted subject seats before now
    × AreNoted subjects seats now after

-- The octets from a place to another one, if the text has them.
abbrev pub part : Octets → ℕ → ℕ → Octets
part text begin end =
    if nat_le begin end && nat_le end (length text) then slice_range text begin end else []

-- A line waits for a save. If memory is refused for it, it is lost, and the application is ended.
abbrev pub IsPut : Subject → Octets → Seats → List Line → Seats → List Line → Type 0
IsPut subject text before lines after last =
    ((after ≡ before) × (last ≡ with_line subject text lines))
    ⊎ ((after ≡ after_end before) × (last ≡ without_subject subject lines))

-- The text from a place on is sent, without the lines of these changes, which wait.
unfoldable pub AreOthersTold : Octets → ℕ → List Change → Seats → List Line
    → Seats → List Line → Type 0
AreOthersTold text begin [] before lines after last =
    AreSent (part text begin (length text)) before after × (last ≡ lines)
AreOthersTold text begin (change ∷ changes) before lines after last =
    (sent next : Seats) × (now : List Line)
    × AreSent (part text begin change.begin) before sent
    × IsPut change.subject (part text change.begin change.end) sent lines next now
    × AreOthersTold text change.end changes next now after last

-- An application is ended if memory was refused for a notice.
abbrev pub heard_by : Bool → Seats → Seats
heard_by refused seats = if refused then after_end seats else seats

-- If the changes of a turn are saved, all its notices are sent, and then the values are noted.
abbrev pub IsSavedTold : Bool → Octets → List Change → List ℕ → Seats → Missed
    → Seats → Missed → Type 0
IsSavedTold refused text changes written before missed after last =
    AreSent text (heard_by refused before) after
    × ((now : Missed)
    × AreNoted (map (λ (change : Change). change.subject) changes) after missed now
    × AreNoted (map Value written) after now last)

abbrev pub IsUnsavedTold : Bool → Octets → List Change → Seats → List Line
    → Seats → List Line → Type 0
IsUnsavedTold refused text changes before lines after last =
    AreOthersTold text 0 changes (heard_by refused before) lines after last
