-- The tallies of refusals.
use Rattle.std.proofs.Common.{◌≡◌, ◌⊎◌, inl, inr, ℕ, ◌+◌, ◌-◌, ◌<◌, ◌≤◌, Bool, true, false, cond, List, [], ◌∷◌, ◌++◌, filter, length, not, Option, Some, None, refl, sym, ap, subst, ◌∙◌, arith}
use Rattle.std.specs.Prelude.{◌&&◌, ◌||◌, ◌==◌, ◌^◌, All, fold, is_some, min, nat_lt}
use Rattle.std.specs.List.{list_any, sum_by}
use Rattle.std.proofs.Math.Nat.{min-eq_left}
use Rattle.std.proofs.lemmas.Bool.{eqb-true, eq-eqb, ltb-true, ltb-false, lt-ltb}
use Rattle.std.proofs.lemmas.List.{length-append}
use Rattle.std.proofs.lemmas.List.Elements.{All-head, All-tail}
use Rattle.std.proofs.lemmas.List.Folds.{list_any-append}
use Rattle.std.proofs.lemmas.List.Sums.{fold-append, sum_by-cons}
use Rattle.app_lines.specs.Names.{handle_of}
use Rattle.app_lines.specs.declared.names.Named.{Named}
use Rattle.device_session.specs.declared.refusals.Refusal.{Refusal}
use Rattle.device_session.specs.declared.refusals.Tally.{Tally}
use Rattle.device_session.specs.declared.refusals.TheConstants.{MOST_TALLIES}
use Rattle.device_session.specs.Refusals.{CountsEach, HasSpaceFor, HasSpaceForOne, LogsFirstOnce, RefusalEvent, after_refusal, counts_kind, current_tallies, goes_on_by, has_tally, is_current, is_first_refusal, is_same_kind, is_same_operation, is_same_refusal, is_tally_of, kind_of_refusal, may_have_tally, one_more, refusals_after, sum_to, tallies_after, tallies_of, with_one_more, without_kind}
use Rattle.device_session.specs.Refusals.RefusalEvent.{Refuses, Remains}

both : (one two : Bool) → (one && two) ≡ true → (one ≡ true) × (two ≡ true)
both true true is = (refl, refl)
both true false is = cc is
both false two is = cc is

or-right : (one : Bool) → (one || true) ≡ true
or-right true = refl
or-right false = refl

-- kinds
same-operation : (one other : Bool) → is_same_operation one other ≡ true → one ≡ other
same-operation true true is = refl
same-operation true false is = cc is
same-operation false true is = cc is
same-operation false false is = refl

own-operation : (one : Bool) → is_same_operation one one ≡ true
own-operation true = refl
own-operation false = refl

same-refusal : (one other : Refusal) → is_same_refusal one other ≡ true → one ≡ other
same-refusal one other is =
    let tests = both (is_same_operation one.is_write other.is_write && one.attribute == other.attribute) (one.code == other.code) is in
    let first = both (is_same_operation one.is_write other.is_write) (one.attribute == other.attribute) tests.0 in
    let operations = same-operation one.is_write other.is_write first.0 in
    let attributes = eqb-true one.attribute other.attribute first.1 in
    let codes = eqb-true one.code other.code tests.1 in
    λ i. record { is_write = operations i; attribute = attributes i; code = codes i }

own-refusal : (one : Refusal) → is_same_refusal one one ≡ true
own-refusal one =
    ap (λ test. test && one.attribute == one.attribute && one.code == one.code) (own-operation one.is_write)
    ∙ ap (λ test. test && one.code == one.code) (eq-eqb one.attribute one.attribute refl) ∙ eq-eqb one.code one.code refl

same-kind : (one other : Option Refusal) → is_same_kind one other ≡ true → one ≡ other
same-kind (Some one) (Some other) is = ap Some (same-refusal one other is)
same-kind (Some one) None is = cc is
same-kind None (Some other) is = cc is
same-kind None None is = refl

is-of : (connection : ℕ) (kind : Option Refusal) (tally : Tally) → counts_kind connection kind tally ≡ true
    → (tally.connection ≡ connection) × (tally.refusal ≡ kind)
is-of connection kind tally is =
    let tests = both (tally.connection == connection) (is_same_kind tally.refusal kind) is in
    (eqb-true tally.connection connection tests.0, same-kind tally.refusal kind tests.1)

-- filters
filter-short : (test : Tally → Bool) (tallies : List Tally) → length (filter test tallies) ≤ length tallies
filter-short test [] = omega arith
filter-short test (tally ∷ tallies) = by (test tally) (filter-short test tallies)
  where
    by : (kept : Bool) → length (filter test tallies) ≤ length tallies
        → length (cond kept (tally ∷ filter test tallies) (filter test tallies)) ≤ length (tally ∷ tallies)
    by true short = omega (arith, short)
    by false short = omega (arith, short)

few-more : (connection : ℕ) (kind : Option Refusal) (tallies : List Tally) → length tallies ≤ MOST_TALLIES
    → length (with_one_more connection kind tallies) ≤ MOST_TALLIES
few-more connection kind tallies few = by (nat_lt (length rest) MOST_TALLIES) refl
  where
    rest : List Tally
    rest = without_kind connection kind tallies

    by : (fits : Bool) → nat_lt (length rest) MOST_TALLIES ≡ fits
        → length (cond fits (rest ++ one_more connection kind tallies ∷ []) rest) ≤ MOST_TALLIES
    by true fits = omega (arith, ltb-true (length rest) MOST_TALLIES fits, length-append rest (one_more connection kind tallies ∷ []))
    by false fits = omega (arith, few, filter-short (λ (tally : Tally). not (counts_kind connection kind tally)) tallies)

few-after : (event : RefusalEvent) (tallies : List Tally) → length tallies ≤ MOST_TALLIES → length (tallies_after tallies event) ≤ MOST_TALLIES
few-after (Refuses connection refusal) tallies few = few-more connection (kind_of_refusal connection refusal tallies) tallies few
few-after (Remains named) tallies few = omega (arith, few, filter-short (is_current named) tallies)

few-of : (events : List RefusalEvent) (tallies : List Tally) → length tallies ≤ MOST_TALLIES → length (fold tallies_after tallies events) ≤ MOST_TALLIES
few-of [] tallies few = few
few-of (event ∷ events) tallies few = few-of events (tallies_after tallies event) (few-after event tallies few)

-- a tally stays until its connection ends
module _ (connection : ℕ) (kind : Option Refusal) where
  abbrev mine : Tally → Bool
  mine tally = counts_kind connection kind tally

  module _ (other : ℕ) (another : Option Refusal) where
    abbrev removed : Tally → Bool
    removed tally = counts_kind other another tally

    abbrev rest-of : List Tally → List Tally
    rest-of tallies = without_kind other another tallies

    abbrev is-one : Bool
    is-one = (other == connection) && is_same_kind another kind

    one-of : (tally : Tally) → mine tally ≡ true → removed tally ≡ true → is-one ≡ true
    one-of tally is off =
        let of = is-of other another tally off in
        subst (λ (it : Option Refusal). ((other == connection) && is_same_kind it kind) ≡ true) of.1
        (subst (λ it. ((it == connection) && is_same_kind tally.refusal kind) ≡ true) of.0 is)

    abbrev Stays : List Tally → List Tally → Type 0
    Stays rest tallies = (list_any mine rest ≡ true) ⊎ ((is-one ≡ true) × (length rest < length tallies))

    stays : (tallies : List Tally) → list_any mine tallies ≡ true → Stays (rest-of tallies) tallies
    stays [] is = cc is
    stays (tally ∷ tallies) is = by (mine tally) (removed tally) refl refl (λ any. stays tallies any) is
      where
        later : (off : Bool) → mine tally ≡ false → Stays (rest-of tallies) tallies
            → Stays (cond (not off) (tally ∷ rest-of tallies) (rest-of tallies)) (tally ∷ tallies)
        later true not-mine (inl has) = inl has
        later true not-mine (inr (one, less)) = inr (one, omega (arith, less))
        later false not-mine (inl has) = inl (ap (λ test. test || list_any mine (rest-of tallies)) not-mine ∙ has)
        later false not-mine (inr (one, less)) = inr (one, omega (arith, less))

        by : (is off : Bool) → mine tally ≡ is → removed tally ≡ off
            → (list_any mine tallies ≡ true → Stays (rest-of tallies) tallies) → (is || list_any mine tallies) ≡ true
            → Stays (cond (not off) (tally ∷ rest-of tallies) (rest-of tallies)) (tally ∷ tallies)
        by true false is-mine is-off rest any = inl (ap (λ test. test || list_any mine (rest-of tallies)) is-mine)
        by true true is-mine is-off rest any =
            inr (one-of tally is-mine is-off, omega (arith, filter-short (λ (tally : Tally). not (counts_kind other another tally)) tallies))
        by false off is-mine is-off rest any = later off is-mine (rest any)

    has-still : (tallies : List Tally) → length tallies ≤ MOST_TALLIES → has_tally connection kind tallies ≡ true
        → has_tally connection kind (with_one_more other another tallies) ≡ true
    has-still tallies few has = by (nat_lt (length (rest-of tallies)) MOST_TALLIES) refl (stays tallies has)
      where
        new : Tally
        new = one_more other another tallies

        by : (fits : Bool) → nat_lt (length (rest-of tallies)) MOST_TALLIES ≡ fits → Stays (rest-of tallies) tallies
            → list_any mine (cond fits (rest-of tallies ++ new ∷ []) (rest-of tallies)) ≡ true
        by true fits (inl any) = list_any-append mine (rest-of tallies) (new ∷ []) ∙ ap (λ test. test || list_any mine (new ∷ [])) any
        by true fits (inr (one, less)) =
            list_any-append mine (rest-of tallies) (new ∷ []) ∙ ap (λ test. list_any mine (rest-of tallies) || (test || false)) one
            ∙ or-right (list_any mine (rest-of tallies))
        by false fits (inl any) = any
        by false fits (inr (one, less)) =
            absurd (omega (arith, few, less, ltb-false (length (rest-of tallies)) MOST_TALLIES fits))

  has-current : (named : List Named) → is_some (handle_of connection named) ≡ true → (tallies : List Tally)
      → list_any mine tallies ≡ true → list_any mine (current_tallies named tallies) ≡ true
  has-current named there [] any = any
  has-current named there (tally ∷ tallies) any = by (mine tally) (is_current named tally) refl refl (λ any. has-current named there tallies any) any
    where
      by : (is current : Bool) → mine tally ≡ is → is_current named tally ≡ current
          → (list_any mine tallies ≡ true → list_any mine (current_tallies named tallies) ≡ true) → (is || list_any mine tallies) ≡ true
          → list_any mine (cond current (tally ∷ current_tallies named tallies) (current_tallies named tallies)) ≡ true
      by true true is-mine is-current rest any = ap (λ test. test || list_any mine (current_tallies named tallies)) is-mine
      by true false is-mine is-current rest any =
          absurd (cc (sym is-current ∙ ap (λ it. is_some (handle_of it named)) (is-of connection kind tally is-mine).0 ∙ there))
      by false true is-mine is-current rest any =
          ap (λ test. test || list_any mine (current_tallies named tallies)) is-mine ∙ rest any
      by false false is-mine is-current rest any = rest any

  record IsKnown (tallies : List Tally) : Type 0 where
    few : length tallies ≤ MOST_TALLIES
    has : has_tally connection kind tallies ≡ true

  known-after : (event : RefusalEvent) (tallies : List Tally) → goes_on_by connection event ≡ true → IsKnown tallies → IsKnown (tallies_after tallies event)
  known-after (Refuses other refusal) tallies on known = record {
    few = few-after (Refuses other refusal) tallies known.few;
    has = has-still other (kind_of_refusal other refusal tallies) tallies known.few known.has;
  }
  known-after (Remains named) tallies on known = record {
    few = few-after (Remains named) tallies known.few;
    has = has-current named on tallies known.has;
  }

  abbrev GoesOn : RefusalEvent → Type 0
  GoesOn event = goes_on_by connection event ≡ true

  known-of : (events : List RefusalEvent) (tallies : List Tally) → All GoesOn events → IsKnown tallies → IsKnown (fold tallies_after tallies events)
  known-of [] tallies on known = known
  known-of (event ∷ events) tallies on known =
      known-of events (tallies_after tallies event) (All-tail GoesOn event events on) (known-after event tallies (All-head GoesOn event events on) known)

  has-new : (tallies : List Tally) → length tallies < MOST_TALLIES → counts_kind connection kind (one_more connection kind tallies) ≡ true
      → has_tally connection kind (with_one_more connection kind tallies) ≡ true
  has-new tallies few is = by (nat_lt (length rest) MOST_TALLIES) (lt-ltb (length rest) MOST_TALLIES (omega (arith, few, filter-short (λ (tally : Tally). not (counts_kind connection kind tally)) tallies)))
    where
      rest : List Tally
      rest = without_kind connection kind tallies

      by : (fits : Bool) → fits ≡ true → list_any mine (cond fits (rest ++ one_more connection kind tallies ∷ []) rest) ≡ true
      by true fits =
          list_any-append mine rest (one_more connection kind tallies ∷ []) ∙ ap (λ test. list_any mine rest || (test || false)) is
          ∙ or-right (list_any mine rest)
      by false fits = cc fits

pub logs_first_once : LogsFirstOnce
logs_first_once before connection refusal later first on =
    let tallies : List Tally = tallies_of before in
    let tests = both (not (has_tally connection (Some refusal) tallies)) (may_have_tally connection tallies) first in
    let few : length tallies < MOST_TALLIES = ltb-true (length tallies) MOST_TALLIES (both _ (nat_lt (length tallies) MOST_TALLIES) tests.1).1 in
    let kind : kind_of_refusal connection refusal tallies ≡ Some refusal =
    ap (λ test. cond (has_tally connection (Some refusal) tallies || test) (Some refusal) None) tests.1
    ∙ ap (λ test. cond test (Some refusal) None) (or-right (has_tally connection (Some refusal) tallies)) in
    let is : counts_kind connection (Some refusal) (one_more connection (Some refusal) tallies) ≡ true =
    ap (λ test. test && is_same_refusal refusal refusal) (eq-eqb connection connection refl) ∙ own-refusal refusal in
    let has : has_tally connection (Some refusal) (after_refusal connection refusal tallies) ≡ true =
    ap (λ kind. has_tally connection (Some refusal) (with_one_more connection kind tallies)) kind
    ∙ has-new connection (Some refusal) tallies few is in
    let known : IsKnown connection (Some refusal) (after_refusal connection refusal tallies) = record {
      few = few-more connection (kind_of_refusal connection refusal tallies) tallies (omega (arith, few));
      has = has;
    } in
    let last : IsKnown connection (Some refusal) (fold tallies_after (after_refusal connection refusal tallies) later) =
    known-of connection (Some refusal) later (after_refusal connection refusal tallies) on known in
    ap (is_first_refusal connection refusal) (fold-append tallies_after [] before (Refuses connection refusal ∷ later))
    ∙ ap (λ test. not test && may_have_tally connection (fold tallies_after (after_refusal connection refusal tallies) later)) last.has

-- no connection is there
pub none_current : (tallies : List Tally) → current_tallies [] tallies ≡ []
none_current [] = refl
none_current (tally ∷ tallies) = none_current tallies

-- numbers
abbrev count-of : Tally → ℕ
count-of tally = tally.count

abbrev total : List Tally → ℕ
total tallies = sum_by count-of tallies

total-part : (test : Tally → Bool) (tallies : List Tally) → total (filter test tallies) ≤ total tallies
total-part test [] = omega arith
total-part test (tally ∷ tallies) = omega (arith, by (test tally) (total-part test tallies), sum_by-cons count-of tally tallies)
  where
    by : (kept : Bool) → total (filter test tallies) ≤ total tallies → total (cond kept (tally ∷ filter test tallies) (filter test tallies)) ≤ tally.count + total tallies
    by true part = omega (arith, part, sum_by-cons count-of tally (filter test tallies))
    by false part = omega (arith, part)

module _ (connection : ℕ) where
  sum-head : (tally : Tally) (tallies : List Tally) (is : Bool) → (tally.connection == connection) ≡ is
      → sum_to connection (tally ∷ tallies) ≡ cond is (tally.count + sum_to connection tallies) (sum_to connection tallies)
  sum-head tally tallies is same = ap (λ test. total (cond test (tally ∷ filter (is_tally_of connection) tallies) (filter (is_tally_of connection) tallies))) same ∙ by is
    where
      by : (is : Bool) → total (cond is (tally ∷ filter (is_tally_of connection) tallies) (filter (is_tally_of connection) tallies))
          ≡ cond is (tally.count + sum_to connection tallies) (sum_to connection tallies)
      by true = sum_by-cons count-of tally (filter (is_tally_of connection) tallies)
      by false = refl

  sum-last : (tallies : List Tally) (tally : Tally) → sum_to connection (tallies ++ tally ∷ []) ≡ sum_to connection tallies + cond (tally.connection == connection) tally.count 0
  sum-last [] tally = sum-head tally [] (tally.connection == connection) refl ∙ by (tally.connection == connection)
    where
      by : (is : Bool) → cond is (tally.count + 0) 0 ≡ 0 + cond is tally.count 0
      by true = omega arith
      by false = refl
  sum-last (first ∷ tallies) tally =
      sum-head first (tallies ++ tally ∷ []) (first.connection == connection) refl ∙ by (first.connection == connection) (sum-last tallies tally)
      ∙ ap (λ it. it + cond (tally.connection == connection) tally.count 0) (sym (sum-head first tallies (first.connection == connection) refl))
    where
      by : (is : Bool) → sum_to connection (tallies ++ tally ∷ []) ≡ sum_to connection tallies + cond (tally.connection == connection) tally.count 0
          → cond is (first.count + sum_to connection (tallies ++ tally ∷ [])) (sum_to connection (tallies ++ tally ∷ []))
          ≡ cond is (first.count + sum_to connection tallies) (sum_to connection tallies) + cond (tally.connection == connection) tally.count 0
      by true rest = omega (arith, rest)
      by false rest = rest

  module _ (other : ℕ) (kind : Option Refusal) where
    abbrev matching : List Tally → ℕ
    matching tallies = total (filter (counts_kind other kind) tallies)

    abbrev others : List Tally → List Tally
    others tallies = without_kind other kind tallies

    -- the numbers of the tallies of a kind, and of all others
    split : (tallies : List Tally) → sum_to connection tallies ≡ sum_to connection (others tallies) + cond (other == connection) (matching tallies) 0
    split [] = by (other == connection)
      where
        by : (is : Bool) → 0 ≡ 0 + cond is 0 0
        by true = refl
        by false = refl
    split (tally ∷ tallies) =
        sum-head tally tallies (tally.connection == connection) refl
        ∙ by (counts_kind other kind tally) (tally.connection == connection) (other == connection) refl refl refl (split tallies)
      where
        by : (is mine one : Bool) → counts_kind other kind tally ≡ is → (tally.connection == connection) ≡ mine → (other == connection) ≡ one
            → sum_to connection tallies ≡ sum_to connection (others tallies) + cond one (matching tallies) 0
            → cond mine (tally.count + sum_to connection tallies) (sum_to connection tallies)
            ≡ sum_to connection (cond (not is) (tally ∷ others tallies) (others tallies))
            + cond one (total (cond is (tally ∷ filter (counts_kind other kind) tallies) (filter (counts_kind other kind) tallies))) 0
        by false true one is-kind is-mine is-one rest = omega (arith, rest, sum-head tally (others tallies) true is-mine)
        by false false one is-kind is-mine is-one rest = omega (arith, rest, sum-head tally (others tallies) false is-mine)
        by true true true is-kind is-mine is-one rest = omega (arith, rest, sum_by-cons count-of tally (filter (counts_kind other kind) tallies))
        by true false false is-kind is-mine is-one rest = rest
        by true true false is-kind is-mine is-one rest =
            absurd (cc (sym is-mine ∙ ap (λ it. it == connection) (is-of other kind tally is-kind).0 ∙ is-one))
        by true false true is-kind is-mine is-one rest =
            absurd (cc (sym is-mine ∙ ap (λ it. it == connection) (is-of other kind tally is-kind).0 ∙ is-one))

  current-sum : (named : List Named) (tallies : List Tally)
      → sum_to connection (current_tallies named tallies) ≡ cond (is_some (handle_of connection named)) (sum_to connection tallies) 0
  current-sum named [] = by (is_some (handle_of connection named))
    where
      by : (is : Bool) → ◌≡◌ {A = ℕ} 0 (cond is 0 0)
      by true = refl
      by false = refl
  current-sum named (tally ∷ tallies) =
      by (is_current named tally) (tally.connection == connection) (is_some (handle_of connection named)) refl refl refl (current-sum named tallies)
      ∙ ap (λ it. cond (is_some (handle_of connection named)) it 0) (sym (sum-head tally tallies (tally.connection == connection) refl))
    where
      by : (current mine there : Bool) → is_current named tally ≡ current → (tally.connection == connection) ≡ mine
          → is_some (handle_of connection named) ≡ there
          → sum_to connection (current_tallies named tallies) ≡ cond there (sum_to connection tallies) 0
          → sum_to connection (cond current (tally ∷ current_tallies named tallies) (current_tallies named tallies))
          ≡ cond there (cond mine (tally.count + sum_to connection tallies) (sum_to connection tallies)) 0
      by true true true is-current is-mine is-there rest = sum-head tally (current_tallies named tallies) true is-mine ∙ ap (λ it. tally.count + it) rest
      by true false there is-current is-mine is-there rest = sum-head tally (current_tallies named tallies) false is-mine ∙ rest
      by false true false is-current is-mine is-there rest = rest
      by false false there is-current is-mine is-there rest = rest
      by true true false is-current is-mine is-there rest =
          absurd (cc (sym is-current ∙ ap (λ it. is_some (handle_of it named)) (eqb-true tally.connection connection is-mine) ∙ is-there))
      by false true true is-current is-mine is-there rest =
          absurd (cc (sym is-current ∙ ap (λ it. is_some (handle_of it named)) (eqb-true tally.connection connection is-mine) ∙ is-there))

-- sums that stay below their end
abbrev plus-up-to : ℕ → ℕ → Option Refusal → ℕ → Tally → ℕ
plus-up-to most connection kind count tally = cond (counts_kind connection kind tally) (min (count + tally.count) most) count

module _ (most : ℕ) (connection : ℕ) (kind : Option Refusal) where
  whole-sum : (tallies : List Tally) (start : ℕ) → start + total tallies ≤ most
      → fold (plus-up-to most connection kind) start tallies
      ≡ start + total (filter (counts_kind connection kind) tallies)
  whole-sum [] start fits = omega arith
  whole-sum (tally ∷ tallies) start fits =
      by (counts_kind connection kind tally) (λ later fits. whole-sum tallies later fits)
    where
      by : (is : Bool)
          → ((later : ℕ) → later + total tallies ≤ most
          → fold (plus-up-to most connection kind) later tallies ≡ later + total (filter (counts_kind connection kind) tallies))
          → fold (plus-up-to most connection kind)
          (cond is (min (start + tally.count) most) start) tallies
          ≡ start + total (cond is (tally ∷ filter (counts_kind connection kind) tallies) (filter (counts_kind connection kind) tallies))
      by true rest =
          ap (λ it. fold (plus-up-to most connection kind) it tallies)
          (min-eq_left (omega (arith, fits, sum_by-cons count-of tally tallies)))
          ∙ rest (start + tally.count) (omega (arith, fits, sum_by-cons count-of tally tallies))
          ∙ omega (arith, sum_by-cons count-of tally (filter (counts_kind connection kind) tallies))
      by false rest = rest start (omega (arith, fits, sum_by-cons count-of tally tallies))

one-more : (connection other : ℕ) (kind : Option Refusal) (tallies : List Tally) → HasSpaceForOne tallies
    → sum_to connection (with_one_more other kind tallies) ≡ cond (other == connection) (sum_to connection tallies + 1) (sum_to connection tallies)
one-more connection other kind tallies (few, small) =
    by (nat_lt (length rest) MOST_TALLIES) (lt-ltb (length rest) MOST_TALLIES (omega (arith, few, filter-short (λ (tally : Tally). not (counts_kind other kind tally)) tallies)))
    ∙ last (other == connection) (split connection other kind tallies)
  where
    rest : List Tally
    rest = without_kind other kind tallies

    new : Tally
    new = one_more other kind tallies

    part : ℕ
    part = total (filter (counts_kind other kind) tallies)

    count : new.count ≡ part + 1
    count =
        ap (λ it. min (it + 1) (2 ^ 64 - 1)) (whole-sum (2 ^ 64 - 1) other kind tallies 0 (omega (arith, small)))
        ∙ min-eq_left (omega (arith, small, total-part (counts_kind other kind) tallies)) ∙ omega arith

    by : (fits : Bool) → fits ≡ true
        → sum_to connection (cond fits (rest ++ new ∷ []) rest) ≡ sum_to connection rest + cond (other == connection) (part + 1) 0
    by true fits = sum-last connection rest new ∙ ap (λ it. sum_to connection rest + cond (other == connection) it 0) count
    by false fits = cc fits

    last : (is : Bool) → sum_to connection tallies ≡ sum_to connection rest + cond is part 0
        → sum_to connection rest + cond is (part + 1) 0 ≡ cond is (sum_to connection tallies + 1) (sum_to connection tallies)
    last true parts = omega (arith, parts)
    last false parts = sym parts

counts-event : (connection : ℕ) (event : RefusalEvent) (tallies : List Tally) → HasSpaceForOne tallies
    → sum_to connection (tallies_after tallies event) ≡ refusals_after connection (sum_to connection tallies) event
counts-event connection (Refuses other refusal) tallies space = one-more connection other (kind_of_refusal other refusal tallies) tallies space
counts-event connection (Remains named) tallies space = current-sum connection named tallies

counts-all : (connection : ℕ) (events : List RefusalEvent) (tallies : List Tally) → HasSpaceFor tallies events
    → sum_to connection (fold tallies_after tallies events) ≡ fold (refusals_after connection) (sum_to connection tallies) events
unfolding HasSpaceFor
counts-all connection [] tallies space = refl
counts-all connection (event ∷ events) tallies (space, later) =
    counts-all connection events (tallies_after tallies event) later
    ∙ ap (λ it. fold (refusals_after connection) it events) (counts-event connection event tallies space)

pub counts_each : CountsEach
counts_each events connection space = counts-all connection events [] space
