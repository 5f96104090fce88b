-- A time tells of somebody who did not confirm from the deadline of indications on.
use Rattle.std.proofs.Common.{◌≡◌, ℕ, ◌<◌, Bool, true, false, List, [], ◌∷◌, Option, Some, None, refl, sym, ap, subst, ◌∙◌, arith}
use Rattle.std.specs.Prelude.{◌^◌, ◌==◌, ◌||◌, All, min, nat_le, nat_lt, fold, filter_map, if◌then◌else◌}
use Rattle.std.specs.List.{list_any, reduce, flat_map, cons_option}
use Rattle.std.specs.Option.{option_and_then, option_map_or}
use Rattle.std.proofs.lemmas.Bool.{eqb-true, eq-eqb, or_left, or_right}
use Rattle.std.proofs.lemmas.List.Elements.{All-nil, All-cons, All-append}
use Rattle.std.proofs.lemmas.List.Folds.{list_any-append}
use Rattle.gatt_laws.proofs.notices.Skips.{finds_what_is_told, noticed_where_quiet}
use Rattle.gatt_laws.specs.machine.Controller.{Slots}
use Rattle.gatt_laws.specs.laws.Deadline.{slot_indication_deadline, is_late_told, is_reached, TellsFromTheDeadlineOn}
use Rattle.gatt_laws.specs.laws.Deadline.{IsNoticeOfLate, NoticesOnlyWhoIsLate, is_late_notice_of, NoticesEachWhoIsLate}
use Rattle.gatt_laws.specs.laws.Settled.{has_slot}
use Rattle.gatt_laws.specs.machine.Event.{Ordinal, Tick}
use Rattle.gatt_laws.specs.machine.Notice.{Notice, TimedOut, event_told, late_told, slot_told}
use Rattle.gatt_laws.specs.machine.State.{State}
use Rattle.gatt_subs.specs.declared.pending.Unconfirmed.{Unconfirmed}
use Rattle.gatt_subs.specs.Deadline.{late_at, late_from}
use Rattle.gatt_subs.specs.Indications.{is_late, times_out}

module _ (time : ℕ) where
  abbrev pub has-come : ℕ → Bool
  has-come least = nat_le least time

  or-none : (one : Bool) → one ≡ (one || false)
  or-none true = refl
  or-none false = refl

  or-assoc : (one other third : Bool) → ((one || other) || third) ≡ (one || (other || third))
  or-assoc true other third = refl
  or-assoc false other third = refl

  pub least-come : (one other : ℕ) → has-come (min one other) ≡ (has-come one || has-come other)
  least-come one other = grind arith

  fold-come : (first : ℕ) (times : List ℕ) → has-come (fold min first times) ≡ (has-come first || list_any has-come times)
  fold-come first [] = or-none (has-come first)
  fold-come first (next ∷ times) =
      fold-come (min first next) times
      ∙ ap (λ (one : Bool). one || list_any has-come times) (least-come first next)
      ∙ or-assoc (has-come first) (has-come next) (list_any has-come times)

  -- the least of some times has come if one of them has
  pub reached : (times : List ℕ) → list_any has-come times ≡ is_reached (reduce min times) time
  reached [] = refl
  reached (first ∷ times) = sym (fold-come first times)

  abbrev told : ℕ → Bool → List Notice
  told handle late = if late then TimedOut handle ∷ [] else []

  either : (handle at : ℕ) (rest : List ℕ) (late within : Bool) → nat_le at time ≡ late → nat_lt at (2 ^ 64) ≡ within → time < 2 ^ 64
      → (list_any is_late_told (told handle late) || list_any has-come rest)
      ≡ list_any has-come (cons_option (if within then Some at else None) rest)
  either handle at rest true true late within few = ap (λ (one : Bool). one || list_any has-come rest) (sym late)
  either handle at rest false true late within few = ap (λ (one : Bool). one || list_any has-come rest) (sym late)
  either handle at rest true false late within few = absurd (grind (arith, late, within, few))
  either handle at rest false false late within few = refl

  one-told : (handle : ℕ) (unconfirmed : Option Unconfirmed) (rest : List ℕ) → time < 2 ^ 64
      → (list_any is_late_told (told handle (option_map_or (is_late time) unconfirmed false)) || list_any has-come rest)
      ≡ list_any has-come (cons_option (option_and_then late_from unconfirmed) rest)
  one-told handle None rest few = refl
  one-told handle (Some unconfirmed) rest few =
      let at = late_at unconfirmed in
      either handle at rest (nat_le at time) (nat_lt at (2 ^ 64)) refl refl few

  slots-told : (state : State) (slots : Slots) → time < 2 ^ 64
      → list_any is_late_told (flat_map (slot_told state time) slots) ≡ list_any has-come (filter_map (slot_indication_deadline state) slots)
  slots-told state [] few = refl
  slots-told state (None ∷ slots) few = slots-told state slots few
  slots-told state (Some ordinal ∷ slots) few =
      let connection = state.connections ordinal in
      list_any-append is_late_told (late_told time connection) (flat_map (slot_told state time) slots)
      ∙ ap (λ (later : Bool). list_any is_late_told (late_told time connection) || later) (slots-told state slots few)
      ∙ one-told connection.handle connection.pending.unconfirmed (filter_map (slot_indication_deadline state) slots) few

pub tells_from_the_deadline_on : TellsFromTheDeadlineOn
unfolding event_told
tells_from_the_deadline_on state time few =
    finds_what_is_told is_late_told (λ handle attribute. refl) state (Tick time)
    ∙ slots-told time state state.slots few ∙ reached time (filter_map (slot_indication_deadline state) state.slots)

-- A notice of a Tick is of a connection that is late.

module _ (state : State) (time : ℕ) where
  abbrev AreLate : List Notice → Type 0
  AreLate notices = All (IsNoticeOfLate state time) notices

  late-if : (ordinal : Ordinal) (late : Bool) → has_slot ordinal state.slots ≡ true
      → times_out (state.connections ordinal).pending time ≡ late
      → AreLate (if late then TimedOut (state.connections ordinal).handle ∷ [] else [])
  late-if ordinal true has is =
      All-cons (IsNoticeOfLate state time) (TimedOut (state.connections ordinal).handle) []
      (record { ordinal = ordinal; has = has; named = refl; late = is })
      (All-nil (IsNoticeOfLate state time))
  late-if ordinal false has is = All-nil (IsNoticeOfLate state time)

  slots-late : (slots : Slots)
      → ((ordinal : Ordinal) → has_slot ordinal slots ≡ true → has_slot ordinal state.slots ≡ true)
      → AreLate (flat_map (slot_told state time) slots)
  slots-late [] has = All-nil (IsNoticeOfLate state time)
  slots-late (None ∷ slots) has = slots-late slots has
  slots-late (Some ordinal ∷ slots) has =
      All-append (IsNoticeOfLate state time) (late_told time (state.connections ordinal))
      (flat_map (slot_told state time) slots)
      (late-if ordinal (times_out (state.connections ordinal).pending time)
      (has ordinal (or_left (ordinal == ordinal) (has_slot ordinal slots) (eq-eqb ordinal ordinal refl))) refl)
      (slots-late slots (λ other later. has other (or_right (ordinal == other) (has_slot other slots) later)))

pub notices_only_who_is_late : NoticesOnlyWhoIsLate
unfolding event_told
notices_only_who_is_late state time =
    subst (All (IsNoticeOfLate state time)) (sym (noticed_where_quiet state (Tick time) refl))
    (slots-late state time state.slots (λ ordinal has. has))

-- And each connection that is late is one of them.

module _ (state : State) (time : ℕ) (ordinal : Ordinal)
    (late : times_out (state.connections ordinal).pending time ≡ true) where
  abbrev its : Notice → Bool
  its = is_late_notice_of (state.connections ordinal).handle

  own-late : (one : Ordinal) → (one == ordinal) ≡ true → list_any its (late_told time (state.connections one)) ≡ true
  own-late one same =
      ap (λ (of : Ordinal). list_any its (late_told time (state.connections of))) (eqb-true one ordinal same)
      ∙ ap (λ (is : Bool). list_any its (if is then TimedOut (state.connections ordinal).handle ∷ [] else [])) late
      ∙ ap (λ (is : Bool). is || false)
      (eq-eqb (state.connections ordinal).handle (state.connections ordinal).handle refl)

  one-late : (slots : Slots) → has_slot ordinal slots ≡ true → list_any its (flat_map (slot_told state time) slots) ≡ true
  one-late [] has = cc has
  one-late (None ∷ slots) has = one-late slots has
  one-late (Some one ∷ slots) has =
      list_any-append its (late_told time (state.connections one)) (flat_map (slot_told state time) slots)
      ∙ first-or-later (one == ordinal) refl has (one-late slots)
    where
      first-or-later : (same : Bool) → (one == ordinal) ≡ same → (same || has_slot ordinal slots) ≡ true
          → (has_slot ordinal slots ≡ true → list_any its (flat_map (slot_told state time) slots) ≡ true)
          → (list_any its (late_told time (state.connections one))
          || list_any its (flat_map (slot_told state time) slots)) ≡ true
      first-or-later true same there later = or_left _ _ (own-late one same)
      first-or-later false differs there later = or_right _ _ (later there)

pub notices_each_who_is_late : NoticesEachWhoIsLate
unfolding event_told
notices_each_who_is_late state time ordinal has late =
    finds_what_is_told (is_late_notice_of (state.connections ordinal).handle) (λ handle attribute. refl) state (Tick time)
    ∙ one-late state time ordinal late state.slots has
