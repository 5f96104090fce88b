-- Each line gets one answer.
use Rattle.std.proofs.Common.{◌≡◌, ◌+◌, ◌<◌, ℕ, Bool, true, false, List, [], ◌∷◌, ◌++◌, length, not, Option, Some, None, Result, refl, sym, ap, subst, ◌∙◌, arith}
use Rattle.std.specs.Prelude.{◌&&◌, ◌||◌, fold, if◌then◌else◌, is_some}
use Rattle.std.proofs.lemmas.List.Sums.{fold-append}
use Rattle.octet_io.specs.Number.{Octets}
use Rattle.host_api.specs.declared.app.AppFault.{AppFault}
use Rattle.app_lines.specs.declared.inbox.Found.{Found}
use Rattle.app_lines.specs.declared.inbox.Found.TheVariants as found
use Rattle.device_session.specs.declared.asking.Closing.{Closing}
use Rattle.device_session.specs.declared.asking.Closing.TheVariants.{No, LineTooLong, FirstLineWrong}
use Rattle.device_session.specs.declared.asking.Unanswered.{Unanswered}
use Rattle.device_session.specs.declared.asking.Unanswered.TheVariants.{Nothing, Line, TooLong, Later}
use Rattle.device_session.specs.Asking.{AnswersEachLine, Asking, ContinuesLines, EndsWithClosing, Exchange, Step, all_joined, are_few, at_start, called_with, closing_now, count_of, exchange_after, is_unanswered, is_waiting, joined, may_begin, may_continue, stays_open, taken_if, takes_line, with_line_taken, with_step, without_answers, without_closing}
use Rattle.device_session.specs.Asking.Step.{Begins, Continues, Called, Delays, Answers, Replies}
use Rattle.device_session.specs.Incoming.{is_found}

-- the last line closes its connection after its answer, which waits or is still to come
pub record Holds (lines answered : ℕ) (waits : Bool) (answers : Option (Option Octets)) (texts : List (Option Octets)) (closing last : Closing) : Type 0 where
  pub one_each : lines ≡ answered + count_of waits
  pub in_order : answers ≡ all_joined texts
  pub closes : closing ≡ (if waits || is_some answers then last else No)

abbrev Sound : Exchange → Type 0
Sound exchange =
    Holds exchange.lines exchange.answered (is_waiting exchange.asking) exchange.asking.answers exchange.texts exchange.asking.closing exchange.last

both : (one two : Bool) → one && two ≡ true → (one ≡ true) × (two ≡ true)
both true two is = (refl, is)
both false two is = cc is

is-no : (test : Bool) → not test ≡ true → test ≡ false
is-no true is = cc is
is-no false is = refl

is-open : (closing : Closing) → stays_open closing ≡ true → closing ≡ No
is-open No is = refl
is-open LineTooLong is = cc is
is-open FirstLineWrong is = cc is

none-closes : (exchange : Exchange) → Sound exchange → is_waiting exchange.asking ≡ false → is_some exchange.asking.answers ≡ false
    → exchange.asking.closing ≡ No
none-closes exchange sound waits answers =
    sound.closes ∙ ap (λ (waits : Bool). if waits || is_some exchange.asking.answers then exchange.last else No) waits
    ∙ ap (λ (some : Bool). if some then exchange.last else No) answers

begins-open : (exchange : Exchange) → Sound exchange → may_begin exchange.asking ≡ true → exchange.asking.closing ≡ No
begins-open exchange sound may =
    let tests = both (not (is_waiting exchange.asking)) (not (is_some exchange.asking.answers)) may in
    none-closes exchange sound (is-no (is_waiting exchange.asking) tests.0) (is-no (is_some exchange.asking.answers) tests.1)

continues-open : (asking : Asking) → may_continue asking ≡ true → asking.closing ≡ No
continues-open asking may =
    let tests = both (not (is_waiting asking) && stays_open asking.closing) (are_few asking.answers) may in
    is-open asking.closing (both (not (is_waiting asking)) (stays_open asking.closing) tests.0).1

taken : (exchange : Exchange) (found : Found) (first : Bool) (line : Octets) (may : Bool) → (may ≡ true → is_waiting exchange.asking ≡ false)
    → Sound exchange
    → Sound (record (with_line_taken (may && is_found found) (record { found = found; is_first = first }) line exchange) { asking = taken_if may (record { found = found; is_first = first }) line exchange.asking })
taken exchange found first line false none sound = record { one_each = sound.one_each; in_order = sound.in_order; closes = sound.closes }
taken exchange found.Nothing first line true none sound = record { one_each = sound.one_each; in_order = sound.in_order; closes = sound.closes }
taken exchange found.Line first line true none sound =
    record {
      one_each = omega (arith, sound.one_each, ap count_of (none refl));
      in_order = sound.in_order;
      closes = refl;
    }
taken exchange found.TooLong first line true none sound =
    record {
      one_each = omega (arith, sound.one_each, ap count_of (none refl));
      in_order = sound.in_order;
      closes = refl;
    }

module _ (exchange : Exchange) (sound : Sound exchange) where
  abbrev With : Bool → Type 0
  With waits =
      Holds exchange.lines exchange.answered waits exchange.asking.answers exchange.texts exchange.asking.closing exchange.last

  still-called : (answer : Result (Unit {0}) AppFault) (unanswered : Unanswered) → is_unanswered unanswered ≡ is_unanswered (called_with answer unanswered)
  still-called answer Nothing = refl
  still-called answer (Line before) = refl
  still-called answer TooLong = refl
  still-called answer Later = refl

  still-put-off : (unanswered : Unanswered) → is_unanswered unanswered ≡ is_unanswered (if is_unanswered unanswered then Later else unanswered)
  still-put-off Nothing = refl
  still-put-off (Line before) = refl
  still-put-off TooLong = refl
  still-put-off Later = refl

  is-joined : (answers : Option (Option Octets)) (text : Option Octets) → is_some (joined answers text) ≡ true
  is-joined (Some answers) text = refl
  is-joined None text = refl

  answers-kept : (text : Option Octets) (waits : Bool) → is_waiting exchange.asking ≡ waits
      → Sound (record (if waits then record exchange { answered = exchange.answered + 1; texts = exchange.texts ++ text ∷ [] } else exchange) { asking = if waits then record exchange.asking { unanswered = Nothing; answers = joined exchange.asking.answers text } else exchange.asking })
  answers-kept text false is = record { one_each = sound.one_each; in_order = sound.in_order; closes = sound.closes }
  answers-kept text true is =
      record {
        one_each = omega (arith, sound.one_each, ap count_of is);
        in_order =
            ap (λ (answers : Option (Option Octets)). joined answers text) sound.in_order ∙ sym (fold-append joined None exchange.texts (text ∷ []));
        closes =
            sound.closes ∙ ap (λ (waits : Bool). if waits || is_some exchange.asking.answers then exchange.last else No) is
            ∙ sym (ap (λ (some : Bool). if some then exchange.last else No) (is-joined exchange.asking.answers text));
      }

  is-none : (answers : Option (Option Octets)) → is_some answers ≡ false → answers ≡ None
  is-none (Some answers) is = cc is
  is-none None is = refl

  closes-later : (waits : Bool) → exchange.asking.closing ≡ (if waits || true then exchange.last else No)
      → (if waits then exchange.asking.closing else No) ≡ (if waits || false then exchange.last else No)
  closes-later true is = is
  closes-later false is = refl

  replies : (some : Bool) → is_some exchange.asking.answers ≡ some
      → Sound (record exchange { texts = []; asking = if some then without_closing (without_answers exchange.asking) else exchange.asking })
  replies true is =
      record {
        one_each = sound.one_each;
        in_order = refl;
        closes =
            closes-later (is_waiting exchange.asking)
            (sound.closes ∙ ap (λ (some : Bool). if is_waiting exchange.asking || some then exchange.last else No) is);
      }
  replies false is =
      record { one_each = sound.one_each; in_order = is-none exchange.asking.answers is; closes = sound.closes }

begins-free : (asking : Asking) → may_begin asking ≡ true → is_waiting asking ≡ false
begins-free asking may = is-no (is_waiting asking) (both (not (is_waiting asking)) (not (is_some asking.answers)) may).0

continues-free : (asking : Asking) → may_continue asking ≡ true → is_waiting asking ≡ false
continues-free asking may =
    let tests = both (not (is_waiting asking) && stays_open asking.closing) (are_few asking.answers) may in
    is-no (is_waiting asking) (both (not (is_waiting asking)) (stays_open asking.closing) tests.0).0

step-keeps : (exchange : Exchange) (step : Step) → Sound exchange → Sound (with_step exchange step)
step-keeps exchange (Begins next line) sound =
    taken exchange next.found next.is_first line (may_begin exchange.asking) (begins-free exchange.asking) sound
step-keeps exchange (Continues next line) sound =
    taken exchange next.found next.is_first line (may_continue exchange.asking) (continues-free exchange.asking) sound
step-keeps exchange (Called answer) sound = subst (With exchange sound) (still-called exchange sound answer exchange.asking.unanswered) sound
step-keeps exchange Delays sound = subst (With exchange sound) (still-put-off exchange sound exchange.asking.unanswered) sound
step-keeps exchange (Answers text) sound = answers-kept exchange sound text (is_waiting exchange.asking) refl
step-keeps exchange Replies sound = replies exchange sound (is_some exchange.asking.answers) refl

all-sound : (exchange : Exchange) (steps : List Step) → Sound exchange → Sound (fold with_step exchange steps)
all-sound exchange [] sound = sound
all-sound exchange (step ∷ steps) sound = all-sound (with_step exchange step) steps (step-keeps exchange step sound)

sound_after : (steps : List Step) → Sound (exchange_after steps)
sound_after steps = all-sound at_start steps (record { one_each = refl; in_order = refl; closes = refl })

pub answers_each_line : AnswersEachLine
answers_each_line steps = let sound = sound_after steps in record { one_each = sound.one_each; in_order = sound.in_order }

-- closing
closes-by : (exchange : Exchange) (step : Step) → Sound exchange → takes_line exchange.asking step ≡ true → exchange.asking.closing ≡ No
closes-by exchange (Begins next line) sound takes =
    begins-open exchange sound (both (may_begin exchange.asking) (is_found next.found) takes).0
closes-by exchange (Continues next line) sound takes =
    continues-open exchange.asking (both (may_continue exchange.asking) (is_found next.found) takes).0
closes-by exchange (Called answer) sound takes = cc takes
closes-by exchange Delays sound takes = cc takes
closes-by exchange (Answers text) sound takes = cc takes
closes-by exchange Replies sound takes = cc takes

closed-by-reply : (exchange : Exchange) → Sound exchange → is_waiting exchange.asking ≡ false → is_some exchange.asking.answers ≡ true
    → closing_now exchange.asking ≡ exchange.last
closed-by-reply exchange sound waits answers =
    ap (λ (waits : Bool). if waits then No else exchange.asking.closing) waits ∙ sound.closes
    ∙ ap (λ (waits : Bool). if waits || is_some exchange.asking.answers then exchange.last else No) waits
    ∙ ap (λ (some : Bool). if some then exchange.last else No) answers

pub ends_with_closing : EndsWithClosing
ends_with_closing steps =
    record {
      none_taken = λ step takes. closes-by (exchange_after steps) step (sound_after steps) takes;
      by_reply = λ waits answers. closed-by-reply (exchange_after steps) (sound_after steps) waits answers;
    }

-- continuing
are-some : (texts : List (Option Octets)) → are_few (all_joined texts) ≡ true → 0 < length texts
are-some [] few = absurd (cc few)
are-some (text ∷ texts) few = omega arith

pub continues_lines : ContinuesLines
continues_lines steps next line takes =
    let exchange : Exchange = exchange_after steps in
    let may = (both (may_continue exchange.asking) (is_found next.found) takes).0 in
    let few = (both (not (is_waiting exchange.asking) && stays_open exchange.asking.closing) (are_few exchange.asking.answers) may).1 in
    are-some exchange.texts (ap are_few (sym (sound_after steps).in_order) ∙ few)
