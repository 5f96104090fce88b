-- Each method of the controller is an event of its laws.
use Rattle.std.proofs.Common.{◌≡◌, ◌++◌, ℕ, Bool, true, false, List, [], ◌∷◌, Option, refl, sym, subst, ap, ◌∙◌}
use Rattle.std.specs.Prelude.{if◌then◌else◌, IfErr, IfOk, Result, Err, Ok}
use Rattle.std.proofs.lemmas.List.Sums.{fold-append}
use Rattle.octet_io.specs.Number.{Octets}
use Rattle.device_io.specs.Controller.{after_announcing, after_initialising, after_judging, after_loss, after_notice, after_reading, after_ready, is_answered_in, retry_of, IsFinished, IsFlushedTo, IsTried, IsWrittenTo}
use Rattle.device_io.specs.Controller as spec
use Rattle.device_io.specs.ControllerLaws.{Event, after_event, controller_after, IsReached}
use Rattle.device_io.specs.ControllerLaws.Event.{Readies, Reads, Judges, Writes, Flushes, Announces, Initialises, LosesIt, Notes, Finishes, Tries}
use Rattle.device_io.specs.ControllerValue.{Controller}
use Rattle.device_io.specs.Served.{is_late}

-- No event changes the way to controllers, or the patience with them.
abbrev Keeps : Controller → Controller → Type 0
Keeps before after = (after.is_tried ≡ before.is_tried) × (after.patience ≡ before.patience)

either : (before one other : Controller) (test : Bool) → Keeps before one → Keeps before other → Keeps before (if test then one else other)
either before one other true first second = first
either before one other false first second = second

kept : (controller : Controller) (event : Event) → Keeps controller (after_event controller event)
kept controller (Readies ends) = (refl, refl)
kept controller (Reads room read) = (refl, refl)
kept controller (Judges now) = (refl, refl)
kept controller (Writes octets now sending) = (refl, refl)
kept controller (Flushes now sending) = (refl, refl)
kept controller Announces = (refl, refl)
kept controller Initialises = (refl, refl)
kept controller LosesIt = (refl, refl)
kept controller (Notes connects held now) = (refl, refl)
kept controller (Finishes now failure) = either controller _ controller (is_answered_in controller.side) (refl, refl) (refl, refl)
kept controller (Tries now attempt) = either controller _ controller (is_late (retry_of controller) now) (refl, refl) (refl, refl)

-- It begins with what it keeps.
from : (events : List Event) (after : Controller) (tried : Bool) (patience : ℕ) → after ≡ controller_after tried patience events
    → after.is_tried ≡ tried → after.patience ≡ patience → after ≡ controller_after after.is_tried after.patience events
from events after tried patience same is_tried is_patience =
    same ∙ ap (λ (tried : Bool). controller_after tried patience events) (sym is_tried)
    ∙ ap (λ (patience : ℕ). controller_after after.is_tried patience events) (sym is_patience)

reached : (before after : Controller) (event : Event) → IsReached before → after ≡ after_event before event → IsReached after
unfolding IsReached
reached before after event (events, same) step =
    let keeps : Keeps before after = subst (λ (next : Controller). Keeps before next) (sym step) (kept before event) in (
      events ++ event ∷ [],
      from (events ++ event ∷ []) after before.is_tried before.patience
          (step ∙ ap (λ (earlier : Controller). after_event earlier event) same
          ∙ sym (fold-append after_event (spec.at_first before.is_tried before.patience) events (event ∷ [])))
          keeps.0 keeps.1,
    )

pub at_first : (tried : Bool) (patience : ℕ) (after : Controller) → after ≡ spec.at_first tried patience → IsReached after
unfolding IsReached
at_first tried patience after same =
    ([], from [] after tried patience same (ap (λ (one : Controller). one.is_tried) same) (ap (λ (one : Controller). one.patience) same))

pub by_ready : (ends : Bool) (before after : Controller) → IsReached before → after ≡ after_ready ends before → IsReached after
by_ready ends before after known same = reached before after (Readies ends) known same

pub by_read : {E : Type 0} (room now : ℕ) (before after : Controller) (read : Result (Option ℕ) E) → IsReached before
    → IfOk read (λ read. after ≡ after_reading room read before) → IfErr read (λ error. after ≡ after_judging now before) → IsReached after
by_read room now before after (Ok read) known same other = reached before after (Reads room read) known same
by_read room now before after (Err error) known other same = reached before after (Judges now) known same

pub by_writing : (octets : Octets) (now : ℕ) (before after : Controller) (taken : Bool) → IsReached before → IsWrittenTo octets now before after taken
    → IsReached after
by_writing octets now before after taken known (sending, is_taken, same) = reached before after (Writes octets now sending) known same

pub by_flush : (now : ℕ) (before after : Controller) → IsReached before → IsFlushedTo now before after → IsReached after
by_flush now before after known (sending, same) = reached before after (Flushes now sending) known same

pub by_announcing : (before after : Controller) → IsReached before → after ≡ after_announcing before → IsReached after
by_announcing before after known same = reached before after Announces known same

pub by_initialising : (before after : Controller) → IsReached before → after ≡ after_initialising before → IsReached after
by_initialising before after known same = reached before after Initialises known same

pub by_loss : (before after : Controller) → IsReached before → after ≡ after_loss before → IsReached after
by_loss before after known same = reached before after LosesIt known same

pub by_notice : (connects held : Bool) (now : ℕ) (before after : Controller) → IsReached before → after ≡ after_notice connects held now before
    → IsReached after
by_notice connects held now before after known same = reached before after (Notes connects held now) known same

pub by_finish : (now : ℕ) (before after : Controller) → IsReached before → IsFinished now before after → IsReached after
by_finish now before after known (failure, same) = reached before after (Finishes now failure) known same

pub by_try : (now : ℕ) (before after : Controller) → IsReached before → IsTried now before after → IsReached after
by_try now before after known (attempt, same) = reached before after (Tries now attempt) known same
