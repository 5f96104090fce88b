-- Texts, and values that are noted, one after another.
use Rattle.std.proofs.Common.{◌≡◌, ℕ, ◌+◌, ◌<◌, ◌≤◌, List, drop, get_or, length, map, refl, sym, subst}
use Rattle.std.proofs.lemmas.List.{drop_all, drop_more}
use Rattle.octet_io.specs.Number.{Octets}
use Rattle.device_session.specs.declared.heard.Change.{Change}
use Rattle.device_session.specs.declared.pending.Subject.{Subject}
use Rattle.device_session.specs.Application.{IsFlushed}
use Rattle.device_session.specs.Missed.{Missed}
use Rattle.device_session.specs.Pending.{Line}
use Rattle.device_session.specs.Seats.{Seats, after_end}
use Rattle.device_session.specs.Telling.{AreLinesTold, AreNoted, AreOthersTold, AreSent, IsLastSaid, IsNoted, IsPut, IsSaid, part}

pub last_said : (text : Octets) (before said flushed after : Seats) → IsSaid text before said → IsFlushed said flushed
    → after ≡ after_end flushed → IsLastSaid text before after
last_said text before said flushed after says writes ends =
    record { said = said; flushed = flushed; says = says; writes = writes; ends = ends }

pub told_more : (lines : List Line) (place : ℕ) (d : Line) (before next after : Seats) (missed now last : Missed) → place < length lines
    → AreSent (get_or lines place d).text before next → IsNoted (get_or lines place d).subject next missed now
    → AreLinesTold (drop (place + 1) lines) next now after last → AreLinesTold (drop place lines) before missed after last
unfolding AreLinesTold
told_more lines place d before next after missed now last below sent noted rest =
    subst (λ (lines : List Line). AreLinesTold lines before missed after last) (sym (drop_more lines place d below)) (next, now, sent, noted, rest)

pub all_told : (lines : List Line) (place : ℕ) (after : Seats) (last : Missed) → length lines ≤ place
    → AreLinesTold (drop place lines) after last after last
unfolding AreLinesTold
all_told lines place after last past =
    subst (λ (lines : List Line). AreLinesTold lines after last after last) (sym (drop_all place lines past)) (refl, refl)

-- values that are noted, one by one
module _ {A : Type 0} (subject : A → Subject) where
  pub noted_more : (xs : List A) (place : ℕ) (d : A) (seats : Seats) (missed now last : Missed) → place < length xs
      → IsNoted (subject (get_or xs place d)) seats missed now → AreNoted (map subject (drop (place + 1) xs)) seats now last
      → AreNoted (map subject (drop place xs)) seats missed last
  unfolding AreNoted
  noted_more xs place d seats missed now last below noted rest =
      subst (λ (xs : List A). AreNoted (map subject xs) seats missed last) (sym (drop_more xs place d below)) (now, noted, rest)

  pub all_noted : (xs : List A) (place : ℕ) (seats : Seats) (last : Missed) → length xs ≤ place
      → AreNoted (map subject (drop place xs)) seats last last
  unfolding AreNoted
  all_noted xs place seats last past =
      subst (λ (xs : List A). AreNoted (map subject xs) seats last last) (sym (drop_all place xs past)) refl

pub others_more : (text : Octets) (begin : ℕ) (changes : List Change) (place : ℕ) (d : Change) (before sent next after : Seats) (lines now last : List Line)
    → place < length changes → AreSent (part text begin (get_or changes place d).begin) before sent
    → IsPut (get_or changes place d).subject (part text (get_or changes place d).begin (get_or changes place d).end) sent lines next now
    → AreOthersTold text (get_or changes place d).end (drop (place + 1) changes) next now after last
    → AreOthersTold text begin (drop place changes) before lines after last
unfolding AreOthersTold
others_more text begin changes place d before sent next after lines now last below is_sent put rest =
    subst (λ (changes : List Change). AreOthersTold text begin changes before lines after last) (sym (drop_more changes place d below))
    (sent, next, now, is_sent, put, rest)

pub all_others : (text : Octets) (begin : ℕ) (changes : List Change) (place : ℕ) (before after : Seats) (last : List Line) → length changes ≤ place
    → AreSent (part text begin (length text)) before after → AreOthersTold text begin (drop place changes) before last after last
unfolding AreOthersTold
all_others text begin changes place before after last past sent =
    subst (λ (changes : List Change). AreOthersTold text begin changes before last after last) (sym (drop_all place changes past)) (sent, refl)
