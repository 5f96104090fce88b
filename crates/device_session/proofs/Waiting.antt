-- A visitor is heard in time.
use Rattle.std.proofs.Common.{◌≡◌, ◌≢◌, ℕ, ◌+◌, ◌-◌, ◌<◌, ◌≤◌, ◌==◌, ◌++◌, Bool, true, false, List, [], ◌∷◌, if◌then◌else◌, length, refl, arith, subst, sym}
use Rattle.std.specs.Prelude.{All, fold, nat_lt, not}
use Rattle.std.proofs.lemmas.Bool.{ltb-true, ne_eqb}
use Rattle.std.proofs.lemmas.List.Elements.{All-nil, All-cons, All-head, All-tail}
use Rattle.device_session.specs.declared.askers.Asker.{Asker}
use Rattle.device_session.specs.declared.askers.Asker.TheVariants.{Visitor}
use Rattle.device_session.specs.declared.askers.Askers.{Askers}
use Rattle.device_session.specs.declared.askers.TheConstants.{HEARING_TIME, MOST_WAITS}
use Rattle.device_session.specs.Askers.{Choice, HasNoEarlierTurn, IsHeardInTime, after_choice, askers_after, askers_of, at_first, waits_since}

abbrev IsNotVisitor : Asker → Type 0
IsNotVisitor asker = asker ≢ Visitor

abbrev IsVisited : Choice → Type 0
IsVisited choice = choice.visited ≡ true

-- a wait that a visitor began by this time, and that is not over after a turn
record GoesOn (askers : Askers) (choice : Choice) : Type 0 where
  few : askers.waits < MOST_WAITS
  short : choice.now - waits_since askers choice.now < HEARING_TIME
  waits : (after_choice askers choice).waits ≡ askers.waits + 1

-- a visitor that is not heard in a turn has waited one turn more
goes_on : (askers : Askers) (choice : Choice) (few short : Bool) → nat_lt askers.waits MOST_WAITS ≡ few
    → nat_lt (choice.now - waits_since askers choice.now) HEARING_TIME ≡ short
    → choice.visited ≡ true → (after_choice askers choice).asker ≢ Visitor → GoesOn askers choice
goes_on askers choice few short is-few is-short visited other = by choice.busy few short refl is-few is-short
  where
    by : (busy few short : Bool) → choice.busy ≡ busy → nat_lt askers.waits MOST_WAITS ≡ few
        → nat_lt (choice.now - waits_since askers choice.now) HEARING_TIME ≡ short → GoesOn askers choice
    by true true true is-busy is-few is-short = record {
      few = ltb-true askers.waits MOST_WAITS is-few;
      short = ltb-true (choice.now - waits_since askers choice.now) HEARING_TIME is-short;
      waits = rw is-busy rw is-few rw is-short rw visited refl;
    }
    by false few short is-busy is-few is-short = absurd (other (rw visited rw is-busy refl))
    by true false short is-busy is-few is-short = absurd (other (rw visited rw is-busy rw is-few refl))
    by true true false is-busy is-few is-short = absurd (other (rw visited rw is-busy rw is-few rw is-short refl))

is_waiting_since : (askers : Askers) (now : ℕ) → 0 < askers.waits → waits_since askers now ≡ askers.since
is_waiting_since askers now waits = rw (ne_eqb askers.waits 0 (λ none. absurd (grind (arith, waits, none)))) refl

-- the wait after a turn begins at the latest in it
begins : (askers : Askers) (choice : Choice) (start : ℕ) → askers.since ≤ start → choice.now ≤ start → waits_since askers choice.now ≤ start
begins askers choice start since now = by (askers.waits == 0)
  where
    by : (none : Bool) → (if none then choice.now else askers.since) ≤ start
    by true = now
    by false = since

abbrev IsBefore : ℕ → Choice → Type 0
IsBefore end choice = choice.now < end

record IsLeft (askers : Askers) (start : ℕ) (choices : List Choice) : Type 0 where
  turns : length choices ≤ MOST_WAITS - askers.waits
  time : All (IsBefore (start + HEARING_TIME)) choices

-- the turns that are left of a wait
left : (askers : Askers) (start : ℕ) (choices : List Choice) → 0 < askers.waits → askers.since ≤ start
    → All IsVisited choices → All IsNotVisitor (askers_of askers choices) → IsLeft askers start choices
unfolding askers_of
left askers start [] waits since visited others = record { turns = omega arith; time = All-nil (IsBefore (start + HEARING_TIME)) }
left askers start (choice ∷ choices) waits since visited others =
    let after : Askers = after_choice askers choice in
    let goes : GoesOn askers choice = goes_on askers choice (nat_lt askers.waits MOST_WAITS)
    (nat_lt (choice.now - waits_since askers choice.now) HEARING_TIME) refl refl
    (All-head IsVisited choice choices visited) (All-head IsNotVisitor after.asker (askers_of after choices) others) in
    let begun : waits_since askers choice.now ≤ start = subst (λ since. since ≤ start) (sym (is_waiting_since askers choice.now waits)) since in
    let rest : IsLeft after start choices = left after start choices (omega (arith, goes.waits)) begun
    (All-tail IsVisited choice choices visited) (All-tail IsNotVisitor after.asker (askers_of after choices) others) in
    record {
      turns = omega (arith, goes.few, goes.waits, rest.turns);
      time = All-cons (IsBefore (start + HEARING_TIME)) choice choices (omega (arith, goes.short, begun)) rest.time;
    }

-- the wait of an application's askers begins before any later turn
in_order : (askers : Askers) (last : ℕ) (before : List Choice) (first : Choice) (later : List Choice) → askers.since ≤ last
    → HasNoEarlierTurn last (before ++ first ∷ later) → (fold after_choice askers before).since ≤ first.now
unfolding HasNoEarlierTurn
in_order askers last [] first later since (earlier, others) = omega (arith, since, earlier)
in_order askers last (choice ∷ before) first later since (earlier, others) =
    in_order (after_choice askers choice) choice.now before first later
    (begins askers choice choice.now (omega (arith, since, earlier)) (omega arith)) others

pub is_heard_in_time : IsHeardInTime
unfolding askers_of
is_heard_in_time before first later order visited others =
    let askers : Askers = askers_after before in
    let after : Askers = after_choice askers first in
    let goes : GoesOn askers first = goes_on askers first (nat_lt askers.waits MOST_WAITS)
    (nat_lt (first.now - waits_since askers first.now) HEARING_TIME) refl refl
    (All-head IsVisited first later visited) (All-head IsNotVisitor after.asker (askers_of after later) others) in
    let rest : IsLeft after first.now later = left after first.now later (omega (arith, goes.waits))
    (begins askers first first.now (in_order at_first 0 before first later (omega arith) order) (omega arith))
    (All-tail IsVisited first later visited) (All-tail IsNotVisitor after.asker (askers_of after later) others) in
    record {
      turns = omega (arith, goes.few, goes.waits, rest.turns);
      time = rest.time;
    }
