-- The attempts to reach a controller.
use Rattle.std.proofs.Common.{◌≡◌, ℕ, ◌+◌, ◌-◌, ◌^◌, ◌≤◌, min, Bool, true, false, List, [], ◌∷◌, Option, Some, None, is_some, refl, sym, ap, subst, ◌∙◌, arith}
use Rattle.std.specs.Prelude.{◌||◌, if◌then◌else◌, fold, unwrap_or}
use Rattle.device_io.specs.declared.connector.TheConstants.{CONNECT_TIME, RETRY_TIME}
use Rattle.device_io.specs.declared.missed.Missed.{Missed}
use Rattle.device_io.specs.declared.side.Side.{Side}
use Rattle.device_io.specs.declared.side.Side.TheVariants as variant
use Rattle.device_io.specs.Connector.{Attempt}
use Rattle.device_io.specs.Connector.Attempt.{Begins, FindsNobody, Loses, Misses, Reaches}
use Rattle.device_io.specs.Controller.{abandoned, after_attempt, after_entry, after_finish, after_notice, after_try, answered, at_first, is_answered_in, lost, missed_in, next_after, on_served, retry_of, served_by, side_after, unanswered, with_side}
use Rattle.device_io.specs.ControllerLaws.{AreInOrder, AreUntil, Event, IsDueFrom, IsDueUntil, Pauses, TriesAgain, TriesOn, Trying, after_event, controller_after, trying_after, with_try}
use Rattle.device_io.specs.ControllerLaws.Event.{Readies, Reads, Judges, Writes, Flushes, Announces, Initialises, LosesIt, Notes, Finishes, Tries}
use Rattle.device_io.specs.ControllerValue.{Controller}
use Rattle.device_io.specs.Patience.{wait_end}
use Rattle.device_io.specs.Served.{Served, after_announcement, after_arrival, after_flush, after_initialisation, after_read, after_write, is_late, judged}

-- times
min-later : (one two most : ℕ) → one ≤ two → min one most ≤ min two most
min-later one two most before = omega (arith, before)

later : (pause past now : ℕ) → past ≤ now → wait_end pause past ≤ wait_end pause now
later pause past now before = min-later (past + pause) (now + pause) (2 ^ 64 - 1) (omega (arith, before))

longer : (one two now : ℕ) → one ≤ two → wait_end one now ≤ wait_end two now
longer one two now fewer = min-later (now + one) (now + two) (2 ^ 64 - 1) (omega (arith, fewer))

retry-is-short : RETRY_TIME ≤ CONNECT_TIME
retry-is-short = omega arith

-- the longest pause of a device with this side
abbrev longest : Side → ℕ
longest (variant.Served served) = RETRY_TIME
longest other = CONNECT_TIME

at-least : (one : Side) → RETRY_TIME ≤ longest one
at-least (variant.Served served) = omega arith
at-least (variant.Nobody missed) = retry-is-short
at-least (variant.Next connecting missed) = retry-is-short

at-most : (one : Side) → longest one ≤ CONNECT_TIME
at-most (variant.Served served) = retry-is-short
at-most (variant.Nobody missed) = omega arith
at-most (variant.Next connecting missed) = omega arith

served-as-long : (change : Served → Served) (one : Side) → longest (on_served change one) ≡ longest one
served-as-long change (variant.Served served) = refl
served-as-long change (variant.Nobody missed) = refl
served-as-long change (variant.Next connecting missed) = refl

answered-as-long : (one : Side) → longest (answered one) ≡ longest one
answered-as-long (variant.Served served) = refl
answered-as-long (variant.Nobody missed) = refl
answered-as-long (variant.Next connecting missed) = refl

lost-longer : (one : Side) → longest one ≤ longest (lost one)
lost-longer (variant.Served served) = retry-is-short
lost-longer (variant.Nobody missed) = omega arith
lost-longer (variant.Next connecting missed) = omega arith

held-as-long : (held : Bool) (one : Side) → longest (if held then abandoned one else one) ≡ longest one
held-as-long true (variant.Served served) = refl
held-as-long true (variant.Nobody missed) = refl
held-as-long true (variant.Next connecting missed) = refl
held-as-long false one = refl

-- the next attempt, and the side
abbrev Until : ℕ → Side → Option ℕ → Type 0
Until now one next = IsDueUntil (wait_end (longest one) now) next

until : (now : ℕ) (one two : Side) (next : Option ℕ) → longest one ≤ longest two → Until now one next → Until now two next
until now one two next fewer due = (due.0, due.1, omega (arith, due.2, longer (longest one) (longest two) now fewer))

until-same : (now : ℕ) (one two : Side) (next : Option ℕ) → longest two ≡ longest one → Until now one next → Until now two next
until-same now one two next same due = until now one two next (omega (arith, same)) due

retries : (past now : ℕ) (one : Side) → past ≤ now → Until now one (Some (wait_end RETRY_TIME past))
retries past now one before =
    (wait_end RETRY_TIME past, refl, omega (arith, later RETRY_TIME past now before, longer RETRY_TIME (longest one) now (at-least one)))

connects-in-time : (past now : ℕ) → past ≤ now → (missed : Option Missed) → Until now (variant.Next (record { is_answered = false }) missed) (Some (wait_end CONNECT_TIME past))
connects-in-time past now before missed = (wait_end CONNECT_TIME past, refl, later CONNECT_TIME past now before)

noticed-until : (connects : Bool) (now : ℕ) (past : ℕ) (one : Side) (next : Option ℕ) → Until now one next
    → Until now one (if connects then Some (unwrap_or next past) else next)
noticed-until true now past one next due = (due.0, ap (λ (next : Option ℕ). Some (unwrap_or next past)) due.1, due.2)
noticed-until false now past one next due = due

abbrev Tried : ℕ → Controller → Type 0
Tried now controller = (controller.is_tried ≡ true) × Until now controller.side controller.next

either : (P : Controller → Type 0) (test : Bool) (one two : Controller) → P one → P two → P (if test then one else two)
either P true one two first second = first
either P false one two first second = second

attempt-until : (attempt : Attempt) (past now : ℕ) (one : Side) → past ≤ now → Until now (side_after attempt past one) (next_after true attempt past)
attempt-until Reaches past now one before = retries past now (side_after Reaches past one) before
attempt-until Begins past now one before = connects-in-time past now before (missed_in one)
attempt-until FindsNobody past now one before = retries past now one before
attempt-until (Misses missed) past now one before = retries past now (side_after (Misses missed) past one) before
attempt-until Loses past now one before = retries past now (side_after Loses past one) before

tried-attempt : (attempt : Attempt) (past now : ℕ) (controller : Controller) → past ≤ now → controller.is_tried ≡ true
    → Tried now (after_attempt attempt past controller)
tried-attempt attempt past now controller before tried =
    (tried, subst (λ (tried : Bool). Until now (side_after attempt past controller.side) (next_after tried attempt past)) (sym tried) (attempt-until attempt past now controller.side before))

tried-notice : (connects held : Bool) (past now : ℕ) (controller : Controller) → Tried now controller
    → Tried now (after_notice connects held past controller)
tried-notice connects held past now controller due = (
  due.0,
  until-same now controller.side (after_notice connects held past controller).side (after_notice connects held past controller).next
      (held-as-long held controller.side) (noticed-until connects now past controller.side controller.next due.1),
)

tried-finish : (past : ℕ) (failure : Option Missed) (now : ℕ) (controller : Controller) → past ≤ now → Tried now controller
    → Tried now (after_finish past failure controller)
tried-finish past failure now controller before due =
    either (Tried now) (is_answered_in controller.side) _ controller (due.0, retries past now (after_entry past failure) before) due

tried-try : (attempt : Attempt) (past now : ℕ) (controller : Controller) → past ≤ now → Tried now controller
    → Tried now (after_try attempt past controller)
tried-try attempt past now controller before due =
    either (Tried now) (is_late (retry_of controller) past) _ controller
    (tried-attempt attempt past now (with_side (unanswered controller.side) controller) before due.0) due

tried-event : (now : ℕ) (controller : Controller) (event : Event) (events : List Event) → AreUntil now (event ∷ events) → Tried now controller
    → Tried now (after_event controller event)
unfolding AreUntil
tried-event now controller (Readies ends) events order due = (
  due.0,
  until-same now controller.side _ controller.next
      (answered-as-long (on_served (after_arrival ends) controller.side) ∙ served-as-long (after_arrival ends) controller.side) due.1,
)
tried-event now controller (Reads room read) events order due =
    (due.0, until-same now controller.side _ controller.next (served-as-long (after_read room read) controller.side) due.1)
tried-event now controller (Judges past) events order due =
    (due.0, until-same now controller.side _ controller.next (served-as-long (judged controller.patience past) controller.side) due.1)
tried-event now controller (Writes octets past sending) events order due =
    (due.0, until-same now controller.side _ controller.next (served-as-long (after_write octets past sending) controller.side) due.1)
tried-event now controller (Flushes past sending) events order due = (
  due.0,
  until-same now controller.side _ controller.next
      (answered-as-long (on_served (after_flush past sending) controller.side) ∙ served-as-long (after_flush past sending) controller.side) due.1,
)
tried-event now controller Announces events order due =
    (due.0, until-same now controller.side _ controller.next (served-as-long after_announcement controller.side) due.1)
tried-event now controller Initialises events order due =
    (due.0, until-same now controller.side _ controller.next (served-as-long after_initialisation controller.side) due.1)
tried-event now controller LosesIt events order due =
    (due.0, until now controller.side (lost controller.side) controller.next (lost-longer controller.side) due.1)
tried-event now controller (Notes connects held past) events order due = tried-notice connects held past now controller due
tried-event now controller (Finishes past failure) events order due = tried-finish past failure now controller order.0 due
tried-event now controller (Tries past attempt) events order due = tried-try attempt past now controller order.0 due

rest-until : (now : ℕ) (event : Event) (events : List Event) → AreUntil now (event ∷ events) → AreUntil now events
unfolding AreUntil
rest-until now (Readies ends) events order = order
rest-until now (Reads room read) events order = order
rest-until now (Judges past) events order = order
rest-until now (Writes octets past sending) events order = order
rest-until now (Flushes past sending) events order = order
rest-until now Announces events order = order
rest-until now Initialises events order = order
rest-until now LosesIt events order = order
rest-until now (Notes connects held past) events order = order.1
rest-until now (Finishes past failure) events order = order.1
rest-until now (Tries past attempt) events order = order.1

tried-events : (now : ℕ) (controller : Controller) (events : List Event) → AreUntil now events → Tried now controller
    → Tried now (fold after_event controller events)
tried-events now controller [] order due = due
tried-events now controller (event ∷ events) order due =
    tried-events now (after_event controller event) events (rest-until now event events order) (tried-event now controller event events order due)

tried-first : (now patience : ℕ) → Tried now (at_first true patience)
tried-first now patience = (refl, (0, refl, omega arith))

-- after a loss
while-served : (one : Side) → is_some (served_by one) ≡ true → longest one ≡ RETRY_TIME
while-served (variant.Served served) is = refl
while-served (variant.Nobody missed) is = cc is
while-served (variant.Next connecting missed) is = cc is

unserved : (one : Side) → is_some (served_by (lost one)) ≡ false
unserved (variant.Served served) = refl
unserved (variant.Nobody missed) = refl
unserved (variant.Next connecting missed) = refl

free : (served held : Bool) (next : Option ℕ) → served ≡ false → held ≡ false → (if served || held then None else next) ≡ next
free true held next is-served is-held = cc is-served
free false true next is-served is-held = cc is-held
free false false next is-served is-held = refl

pub tries_again : TriesAgain
tries_again patience events now order served held =
    let controller : Controller = controller_after true patience events in
    let due : Tried now controller = tried-events now (at_first true patience) events order (tried-first now patience) in (
      due.1.0,
      free (is_some (served_by (lost controller.side))) controller.is_held controller.next (unserved controller.side) held ∙ due.1.1,
      subst (λ (pause : ℕ). due.1.0 ≤ wait_end pause now) (while-served controller.side served) due.1.2,
    )

pub tries_on : TriesOn
tries_on patience events now order served held =
    let controller : Controller = controller_after true patience events in
    let due : Tried now controller = tried-events now (at_first true patience) events order (tried-first now patience) in (
      due.1.0,
      free (is_some (served_by controller.side)) controller.is_held controller.next served held ∙ due.1.1,
      omega (arith, due.1.2, longer (longest controller.side) CONNECT_TIME now (at-most controller.side)),
    )

-- the pause after an attempt
abbrev IsPaused : ℕ → Option ℕ → Option ℕ → Type 0
IsPaused now None next = Unit {0}
IsPaused now (Some time) next = (time ≤ now) × IsDueFrom (wait_end RETRY_TIME time) next

abbrev IsSpaced : ℕ → Option ℕ → Controller → Type 0
IsSpaced now tried_at controller = (controller.is_tried ≡ true) × IsPaused now tried_at controller.next

noticed-paused : (connects : Bool) (now past : ℕ) (tried_at next : Option ℕ) → IsPaused now tried_at next
    → IsPaused now tried_at (if connects then Some (unwrap_or next past) else next)
noticed-paused connects now past None next paused = tt
noticed-paused true now past (Some time) next paused =
    (paused.0, (paused.1.0, ap (λ (next : Option ℕ). Some (unwrap_or next past)) paused.1.1, paused.1.2))
noticed-paused false now past (Some time) next paused = paused

paused-later : (before now : ℕ) (tried_at next : Option ℕ) → before ≤ now → IsPaused before tried_at next → IsPaused now tried_at next
paused-later before now None next order paused = tt
paused-later before now (Some time) next order paused = (omega (arith, order, paused.0), paused.1)

finish-paused : (before now : ℕ) (tried_at next : Option ℕ) → before ≤ now → IsPaused before tried_at next
    → IsPaused now tried_at (Some (wait_end RETRY_TIME now))
finish-paused before now None next order paused = tt
finish-paused before now (Some time) next order paused =
    let early : time ≤ now = omega (arith, order, paused.0) in
    (early, (wait_end RETRY_TIME now, refl, later RETRY_TIME time now early))

attempt-paused : (attempt : Attempt) (now : ℕ) → IsPaused now (Some now) (next_after true attempt now)
attempt-paused Reaches now = (omega arith, (wait_end RETRY_TIME now, refl, omega arith))
attempt-paused Begins now = (omega arith, (wait_end CONNECT_TIME now, refl, longer RETRY_TIME CONNECT_TIME now retry-is-short))
attempt-paused FindsNobody now = (omega arith, (wait_end RETRY_TIME now, refl, omega arith))
attempt-paused (Misses missed) now = (omega arith, (wait_end RETRY_TIME now, refl, omega arith))
attempt-paused Loses now = (omega arith, (wait_end RETRY_TIME now, refl, omega arith))

both-ways : (P : Option ℕ → Controller → Type 0) (test : Bool) (time before : Option ℕ) (one two : Controller) → P time one → P before two
    → P (if test then time else before) (if test then one else two)
both-ways P true time before one two first second = first
both-ways P false time before one two first second = second

spaced-notice : (connects held : Bool) (now before : ℕ) (trying : Trying) → before ≤ now → IsSpaced before trying.tried_at trying.controller
    → IsSpaced now trying.tried_at (after_notice connects held now trying.controller)
spaced-notice connects held now before trying order spaced = (
  spaced.0,
  paused-later before now trying.tried_at (after_notice connects held now trying.controller).next order
      (noticed-paused connects before now trying.tried_at trying.controller.next spaced.1),
)

spaced-finish : (now : ℕ) (failure : Option Missed) (before : ℕ) (trying : Trying) → before ≤ now → IsSpaced before trying.tried_at trying.controller
    → IsSpaced now trying.tried_at (after_finish now failure trying.controller)
spaced-finish now failure before trying order spaced =
    either (IsSpaced now trying.tried_at) (is_answered_in trying.controller.side) _ trying.controller
    (spaced.0, finish-paused before now trying.tried_at trying.controller.next order spaced.1)
    (spaced.0, paused-later before now trying.tried_at trying.controller.next order spaced.1)

spaced-try : (now : ℕ) (attempt : Attempt) (before : ℕ) (trying : Trying) → before ≤ now → IsSpaced before trying.tried_at trying.controller
    → let after : Trying = with_try trying (Tries now attempt) in IsSpaced now after.tried_at after.controller
spaced-try now attempt before trying order spaced =
    both-ways (IsSpaced now) (is_late (retry_of trying.controller) now) (Some now) trying.tried_at _ trying.controller
    (spaced.0, subst (λ (tried : Bool). IsPaused now (Some now) (next_after tried attempt now)) (sym spaced.0) (attempt-paused attempt now))
    (spaced.0, paused-later before now trying.tried_at trying.controller.next order spaced.1)

spaced-events : (before : ℕ) (trying : Trying) (events : List Event) → AreInOrder before events → IsSpaced before trying.tried_at trying.controller
    → let last : Trying = fold with_try trying events in (now : ℕ) × IsSpaced now last.tried_at last.controller
unfolding AreInOrder
spaced-events before trying [] order spaced = (before, spaced)
spaced-events before trying (Readies ends ∷ events) order spaced = spaced-events before (with_try trying (Readies ends)) events order spaced
spaced-events before trying (Reads room read ∷ events) order spaced = spaced-events before (with_try trying (Reads room read)) events order spaced
spaced-events before trying (Judges now ∷ events) order spaced = spaced-events before (with_try trying (Judges now)) events order spaced
spaced-events before trying (Writes octets now sending ∷ events) order spaced =
    spaced-events before (with_try trying (Writes octets now sending)) events order spaced
spaced-events before trying (Flushes now sending ∷ events) order spaced =
    spaced-events before (with_try trying (Flushes now sending)) events order spaced
spaced-events before trying (Announces ∷ events) order spaced = spaced-events before (with_try trying Announces) events order spaced
spaced-events before trying (Initialises ∷ events) order spaced = spaced-events before (with_try trying Initialises) events order spaced
spaced-events before trying (LosesIt ∷ events) order spaced = spaced-events before (with_try trying LosesIt) events order spaced
spaced-events before trying (Notes connects held now ∷ events) order spaced =
    spaced-events now (with_try trying (Notes connects held now)) events order.1
    (spaced-notice connects held now before trying order.0 spaced)
spaced-events before trying (Finishes now failure ∷ events) order spaced =
    spaced-events now (with_try trying (Finishes now failure)) events order.1
    (spaced-finish now failure before trying order.0 spaced)
spaced-events before trying (Tries now attempt ∷ events) order spaced =
    spaced-events now (with_try trying (Tries now attempt)) events order.1
    (spaced-try now attempt before trying order.0 spaced)

paused-at : (now : ℕ) (tried_at next : Option ℕ) (time : ℕ) → tried_at ≡ Some time → IsPaused now tried_at next
    → IsDueFrom (wait_end RETRY_TIME time) next
paused-at now tried_at next time is paused = (subst (λ (tried_at : Option ℕ). IsPaused now tried_at next) is paused).1

pub pauses : Pauses
pauses patience events time order is =
    let start : Trying = record { controller = at_first true patience; tried_at = None } in
    let spaced = spaced-events 0 start events order (refl, tt) in
    paused-at spaced.0 (trying_after patience events).tried_at (trying_after patience events).controller.next time is spaced.1.1
