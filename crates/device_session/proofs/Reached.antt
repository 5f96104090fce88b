-- The seats become what they are by the events of the laws.
use Rattle.std.proofs.Common.{◌≡◌, ℕ, Bool, true, List, [], ◌∷◌, ◌++◌, sym, ap, subst, ◌∙◌}
use Rattle.std.specs.Prelude.{fold}
use Rattle.std.proofs.lemmas.List.Sums.{fold-append}
use Rattle.octet_io.specs.Number.{Octets}
use Rattle.device_session.specs.Incoming.{IsShort, Reading}
use Rattle.device_session.specs.Laws.{ArePossible, Event, IsPossibleEvent, IsReached, after_event}
use Rattle.device_session.specs.Laws.Event.{Knocks, Comes, Arrives, Readies, Sends, Offers, Refuses, Attends, Fills, Watches, Tells, Answers, Chooses, Asks, Welcomes, Ends, Holds, Releases}
use Rattle.device_session.specs.Seats.{Seats, after_answer, after_arrival_at, after_asking, after_attending, after_choosing, after_coming, after_end, after_filling, after_knock, after_offer, after_ready, after_refusal, after_release, after_sending, after_telling, after_watch, after_welcome, fits_in, nobody}

one_more : (seats : Seats) (events : List Event) (event : Event) → ArePossible seats events
    → IsPossibleEvent (fold after_event seats events) event → ArePossible seats (events ++ event ∷ [])
unfolding ArePossible
one_more seats [] event all now = (now, tt)
one_more seats (first ∷ events) event (possible, others) now =
    (possible, one_more (after_event seats first) events event others now)

reached : (before after : Seats) (event : Event) → IsReached before → IsPossibleEvent before event
    → after ≡ after_event before event → IsReached after
unfolding IsReached
reached before after event (events, possible, same) now step = (
  events ++ event ∷ [],
  one_more nobody events event possible (subst (λ (earlier : Seats). IsPossibleEvent earlier event) same now),
  step ∙ ap (λ (earlier : Seats). after_event earlier event) same
      ∙ sym (fold-append after_event nobody events (event ∷ [])),
)

pub at_first : (after : Seats) → after ≡ nobody → IsReached after
unfolding ArePossible IsReached
at_first after same = ([], tt, same)

pub by_knock : (before after : Seats) → IsReached before → after ≡ after_knock before → IsReached after
by_knock before after known same = reached before after Knocks known tt same

pub by_coming : (id : ℕ) (remote : Bool) (now : ℕ) (before after : Seats) → IsReached before
    → after ≡ after_coming id remote now before → IsReached after
by_coming id remote now before after known same = reached before after (Comes id remote now) known tt same

pub by_arrival : (id : ℕ) (reading : Reading) (before after : Seats) → IsReached before → IsShort reading
    → after ≡ after_arrival_at id reading before → IsReached after
by_arrival id reading before after known short same = reached before after (Arrives id reading) known short same

pub by_ready : (before after : Seats) → IsReached before → after ≡ after_ready before → IsReached after
by_ready before after known same = reached before after Readies known tt same

pub by_sending : (id count : ℕ) (before after : Seats) → IsReached before → after ≡ after_sending id count before → IsReached after
by_sending id count before after known same = reached before after (Sends id count) known tt same

pub by_offer : (id : ℕ) (before after : Seats) → IsReached before → after ≡ after_offer id before → IsReached after
by_offer id before after known same = reached before after (Offers id) known tt same

pub by_deafening : (id : ℕ) (before after : Seats) → IsReached before → after ≡ after_refusal id before → IsReached after
by_deafening id before after known same = reached before after (Refuses id) known tt same

pub by_attending : (now : ℕ) (before after : Seats) → IsReached before → after ≡ after_attending now before → IsReached after
by_attending now before after known same = reached before after (Attends now) known tt same

pub by_filling : (before after : Seats) → IsReached before → after ≡ after_filling before → IsReached after
by_filling before after known same = reached before after Fills known tt same

pub by_watch : (now : ℕ) (before after : Seats) → IsReached before → after ≡ after_watch now before → IsReached after
by_watch now before after known same = reached before after (Watches now) known tt same

pub by_answer : (accepted : Bool) (before after : Seats) → IsReached before → after ≡ after_answer before accepted → IsReached after
by_answer accepted before after known same = reached before after (Answers accepted) known tt same

pub by_telling : (before after : Seats) (text : Octets) → IsReached before → fits_in before text ≡ true
    → after ≡ after_telling before text true → IsReached after
by_telling before after text known fits same = reached before after (Tells text true) known fits same

pub by_refusal : (before after : Seats) → IsReached before → after ≡ after_end before → IsReached after
by_refusal before after known same = reached before after Ends known tt same

pub by_choosing : (now : ℕ) (before after : Seats) → IsReached before → after ≡ after_choosing before now → IsReached after
by_choosing now before after known same = reached before after (Chooses now) known tt same

pub by_asking : (before after : Seats) → IsReached before → after ≡ after_asking before → IsReached after
by_asking before after known same = reached before after Asks known tt same

pub by_welcome : (before after : Seats) → IsReached before → after ≡ after_welcome before → IsReached after
by_welcome before after known same = reached before after Welcomes known tt same

pub by_release : (before after : Seats) → IsReached before → after ≡ after_release before → IsReached after
by_release before after known same = reached before after Releases known tt same

pub by_hold : (before after : Seats) → IsReached before → after ≡ record before { is_held = true } → IsReached after
by_hold before after known same = reached before after Holds known tt same
