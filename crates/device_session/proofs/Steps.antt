use Rattle.std.proofs.Common.{◌≡◌, ◌++◌, ℕ, Bool, true, false, List, [], ◌∷◌, Option, None, Result, Ok, Err, inl, inr, refl, sym, ap, ◌∙◌}
use Rattle.std.specs.Prelude.{if◌then◌else◌}
use Rattle.std.proofs.lemmas.List.Sums.{fold-append}
use Rattle.octet_io.specs.Number.{Octets}
use Rattle.gatt_laws.specs.machine.Calls.{Call}
use Rattle.app_lines.specs.declared.names.Named.{Named}
use Rattle.host_api.specs.declared.app.AppFault.{AppFault}
use Rattle.device_session.specs.Seats.{Seats, line_from, next_line_in}
use Rattle.device_session.specs.Asking.{Answers, Asking, Begins, Called, Continues, Delays, Exchange, Replies, Step, after_call, after_delay, after_step, asked_if, asked_next, at_start, call_by, may_begin, may_continue, nothing_asked, refused_by, replied, with_step, IsAnswerKept, IsReached}

by_step : (before after : Asking) (step : Step) → IsReached before → after ≡ after_step before step → IsReached after
unfolding IsReached
by_step before after step (steps, known) now = (
  steps ++ step ∷ [],
  now ∙ ap (λ (asking : Asking). after_step asking step) known
      ∙ sym (ap (λ (exchange : Exchange). exchange.asking) (fold-append with_step at_start steps (step ∷ []))),
)

pub at_first : (after : Asking) → after ≡ nothing_asked → IsReached after
unfolding IsReached
at_first after now = ([], now)

unchanged : (before after : Asking) → IsReached before → after ≡ before → IsReached after
unfolding IsReached
unchanged before after (steps, known) now = (steps, now ∙ known)

-- A line is taken by one step. If it names no connection, it is refused by another one.
refused : (before after : Asking) (call : Result (Option Call) AppFault) → IsReached before → after ≡ refused_by call before → IsReached after
refused before after (Ok call) known now = unchanged before after known now
refused before after (Err fault) known now = by_step before after (Called (Err fault)) known now

module _ (before after : Asking) (seats : Seats) (named : List Named) (time room : ℕ) (known : IsReached before) where
  abbrev next : Asking
  next = asked_next seats before

  abbrev call : Result (Option Call) AppFault
  call = call_by next named time room

  begun : (may : Bool) → may_begin before ≡ may → after ≡ asked_if may seats before named time room → IsReached after
  begun true is now =
      refused next after call
      (by_step before next (Begins (next_line_in seats) (line_from seats before.line)) known
      (ap (λ (may : Bool). if may then next else before) (sym is)))
      now
  begun false is now = unchanged before after known now

  continued : (may : Bool) → may_continue before ≡ may → after ≡ asked_if may seats before named time room → IsReached after
  continued true is now =
      refused next after call
      (by_step before next (Continues (next_line_in seats) (line_from seats before.line)) known
      (ap (λ (may : Bool). if may then next else before) (sym is)))
      now
  continued false is now = unchanged before after known now

pub by_beginning : (before after : Asking) (seats : Seats) (named : List Named) (time room : ℕ) → IsReached before
    → after ≡ asked_if (may_begin before) seats before named time room → IsReached after
by_beginning before after seats named time room known now =
    begun before after seats named time room known (may_begin before) refl now

pub by_continuing : (before after : Asking) (seats : Seats) (named : List Named) (time room : ℕ) → IsReached before
    → after ≡ asked_if (may_continue before) seats before named time room → IsReached after
by_continuing before after seats named time room known now =
    continued before after seats named time room known (may_continue before) refl now

pub by_call : (before after : Asking) (answer : Result (Unit {0}) AppFault) → IsReached before → after ≡ after_call answer before → IsReached after
by_call before after answer known now = by_step before after (Called answer) known now

pub by_delay : (before after : Asking) → IsReached before → after ≡ after_delay before → IsReached after
by_delay before after known now = by_step before after Delays known now

pub by_answer : (before after : Asking) (text : Option Octets) → IsReached before → IsAnswerKept text before after → IsReached after
by_answer before after text known (inl now) = by_step before after (Answers text) known now
by_answer before after text known (inr now) = by_step before after (Answers None) known now

pub by_reply : (before after : Asking) → IsReached before → after ≡ replied before → IsReached after
by_reply before after known now = by_step before after Replies known now
