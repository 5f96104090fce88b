-- Which connections have changes that are not saved.
use Rattle.std.proofs.Common.{◌≡◌, ◌≢◌, ℕ, Bool, true, false, List, [], ◌∷◌, ◌++◌, Some, refl, sym, ap, subst, ◌∙◌, ◌⊎◌, inl, inr}
use Rattle.std.specs.Prelude.{cond, not, ◌==◌, ◌||◌, All, fold, ◌↔◌}
use Rattle.std.proofs.lemmas.Bool.{eq-eqb, eqb-true, false≢true, or_left, or_right}
use Rattle.std.proofs.lemmas.List.Elements.{All-cons, All-head, All-nil, All-tail}
use Rattle.std.proofs.lemmas.List.Folds.{list_any-append}
use Rattle.std.proofs.lemmas.List.Sums.{fold-append}
use Rattle.device_loop.specs.Unsaved.{HasChanged, changed_by, has_connection, unsaved_after, unsaved_by, with_connection, without_connection}
use Rattle.gatt_laws.specs.machine.Notice.{Notice, Connected, Disconnected, Secured, Unsecured, Written, Configured, Confirmed, TimedOut, Ending, Skipped}

-- one of two
either-true : (one other : Bool) → (one || other) ≡ true → (one ≡ true) ⊎ (other ≡ true)
either-true true other is = inl refl
either-true false other is = inr is

-- with one more
has-added : (connections : List ℕ) (added handle : ℕ) (there : Bool) → has_connection connections added ≡ there
    → has_connection (cond there connections (connections ++ added ∷ [])) handle ≡ true → (added ≡ handle) ⊎ (has_connection connections handle ≡ true)
has-added connections added handle true there has = inr has
has-added connections added handle false there has =
    elim (either-true (has_connection connections handle) (has_connection (added ∷ []) handle)
    (sym (list_any-append (λ connection. connection == handle) connections (added ∷ [])) ∙ has)) [
      | inl before ↦ inr before
      | inr last ↦
          elim (either-true (added == handle) false last) [
            | inl same ↦ inl (eqb-true added handle same)
            | inr none ↦ absurd (false≢true none)
          ]
    ]

added-there : (connections : List ℕ) (handle : ℕ) (there : Bool) → has_connection connections handle ≡ there
    → has_connection (cond there connections (connections ++ handle ∷ [])) handle ≡ true
added-there connections handle true there = there
added-there connections handle false there =
    list_any-append (λ connection. connection == handle) connections (handle ∷ [])
    ∙ or_right (has_connection connections handle) (has_connection (handle ∷ []) handle) (or_left (handle == handle) false (eq-eqb handle handle refl))

stays-with : (connections : List ℕ) (added handle : ℕ) (there : Bool) → has_connection connections handle ≡ true
    → has_connection (cond there connections (connections ++ added ∷ [])) handle ≡ true
stays-with connections added handle true has = has
stays-with connections added handle false has =
    list_any-append (λ connection. connection == handle) connections (added ∷ []) ∙ or_left (has_connection connections handle)
    (has_connection (added ∷ []) handle) has

-- with one less
cons-without : (connection gone handle : ℕ) (others : List ℕ) (same : Bool) → connection == gone ≡ same
    → (has_connection others handle ≡ true → (has_connection (without_connection others gone) handle ≡ true) ⊎ (gone ≡ handle))
    → has_connection (connection ∷ others) handle ≡ true
    → (has_connection (cond (not same) (connection ∷ without_connection others gone) (without_connection others gone)) handle ≡ true) ⊎ (gone ≡ handle)
cons-without connection gone handle others true is stays has =
    elim (either-true (connection == handle) (has_connection others handle) has) [
      | inl first ↦ inr (sym (eqb-true connection gone is) ∙ eqb-true connection handle first)
      | inr later ↦ stays later
    ]
cons-without connection gone handle others false is stays has =
    elim (either-true (connection == handle) (has_connection others handle) has) [
      | inl first ↦ inl (or_left (connection == handle) _ first)
      | inr later ↦
          elim (stays later) [
            | inl left ↦ inl (or_right (connection == handle) _ left)
            | inr same ↦ inr same
          ]
    ]

stays-without : (connections : List ℕ) (gone handle : ℕ) → has_connection connections handle ≡ true
    → (has_connection (without_connection connections gone) handle ≡ true) ⊎ (gone ≡ handle)
stays-without [] gone handle has = absurd (false≢true has)
stays-without (connection ∷ others) gone handle has =
    cons-without connection gone handle others (connection == gone) refl (stays-without others gone handle) has

pub record IsOther (connections : List ℕ) (gone handle : ℕ) : Type 0 where
  pub before : has_connection connections handle ≡ true
  pub differs : gone ≢ handle

cons-left : (connection gone handle : ℕ) (others : List ℕ) (same : Bool) → connection == gone ≡ same
    → (has_connection (without_connection others gone) handle ≡ true → IsOther others gone handle)
    → has_connection (cond (not same) (connection ∷ without_connection others gone) (without_connection others gone)) handle ≡ true
    → IsOther (connection ∷ others) gone handle
cons-left connection gone handle others true is left has =
    let later = left has in
    record { before = or_right (connection == handle) _ later.before; differs = later.differs }
cons-left connection gone handle others false is left has =
    elim (either-true (connection == handle) (has_connection (without_connection others gone) handle) has) [
      | inl first ↦
          record {
            before = or_left (connection == handle) _ first;
            differs = λ same. false≢true (sym is ∙ eq-eqb connection gone (eqb-true connection handle first ∙ sym same));
          }
      | inr later ↦
          let others_left = left later in
          record { before = or_right (connection == handle) _ others_left.before; differs = others_left.differs }
    ]

left-without : (connections : List ℕ) (gone handle : ℕ) → has_connection (without_connection connections gone) handle ≡ true → IsOther connections gone handle
left-without [] gone handle has = absurd (false≢true has)
left-without (connection ∷ others) gone handle has =
    cons-left connection gone handle others (connection == gone) refl (left-without others gone handle) has

-- by one notice
abbrev Since : List ℕ → Notice → ℕ → Type 0
Since connections notice handle = (changed_by notice ≡ Some handle) ⊎ ((has_connection connections handle ≡ true) × (notice ≢ Disconnected handle))

by-change : (connections : List ℕ) (notice : Notice) (added handle : ℕ) → changed_by notice ≡ Some added → notice ≢ Disconnected handle
    → has_connection (with_connection connections added) handle ≡ true → Since connections notice handle
by-change connections notice added handle changes other has =
    elim (has-added connections added handle (has_connection connections added) refl has) [
      | inl same ↦ inl (changes ∙ ap Some same)
      | inr before ↦ inr (before, other)
    ]

one-notice : (connections : List ℕ) (notice : Notice) (handle : ℕ) → has_connection (unsaved_after connections notice) handle ≡ true
    → Since connections notice handle
one-notice connections (Connected own peer) handle has = inr (has, λ is. cc is)
one-notice connections (Disconnected own) handle has =
    let left = left-without connections own handle has in
    inr (left.before, λ is. left.differs (cc is))
one-notice connections (Secured own facts) handle has = inr (has, λ is. cc is)
one-notice connections (Unsecured own) handle has = inr (has, λ is. cc is)
one-notice connections (Written own attribute) handle has = by-change connections (Written own attribute) own handle refl (λ is. cc is) has
one-notice connections (Configured own attribute bits) handle has = by-change connections (Configured own attribute bits) own handle refl (λ is. cc is) has
one-notice connections (Confirmed own attribute) handle has = by-change connections (Confirmed own attribute) own handle refl (λ is. cc is) has
one-notice connections (TimedOut own) handle has = inr (has, λ is. cc is)
one-notice connections (Ending own reason) handle has = inr (has, λ is. cc is)
one-notice connections (Skipped own attribute) handle has = inr (has, λ is. cc is)

change-there : (connections : List ℕ) (notice : Notice) (handle : ℕ) → changed_by notice ≡ Some handle
    → has_connection (unsaved_after connections notice) handle ≡ true
change-there connections (Connected own peer) handle is = absurd (cc is)
change-there connections (Disconnected own) handle is = absurd (cc is)
change-there connections (Secured own facts) handle is = absurd (cc is)
change-there connections (Unsecured own) handle is = absurd (cc is)
change-there connections (Written own attribute) handle is =
    let same : own ≡ handle = cc is in
    subst (λ own. has_connection (with_connection connections own) handle ≡ true) (sym same)
    (added-there connections handle (has_connection connections handle) refl)
change-there connections (Configured own attribute bits) handle is =
    let same : own ≡ handle = cc is in
    subst (λ own. has_connection (with_connection connections own) handle ≡ true) (sym same)
    (added-there connections handle (has_connection connections handle) refl)
change-there connections (Confirmed own attribute) handle is =
    let same : own ≡ handle = cc is in
    subst (λ own. has_connection (with_connection connections own) handle ≡ true) (sym same)
    (added-there connections handle (has_connection connections handle) refl)
change-there connections (TimedOut own) handle is = absurd (cc is)
change-there connections (Ending own reason) handle is = absurd (cc is)
change-there connections (Skipped own attribute) handle is = absurd (cc is)

stays-there : (connections : List ℕ) (notice : Notice) (handle : ℕ) → has_connection connections handle ≡ true → notice ≢ Disconnected handle
    → has_connection (unsaved_after connections notice) handle ≡ true
stays-there connections (Connected own peer) handle has other = has
stays-there connections (Disconnected own) handle has other =
    elim (stays-without connections own handle has) [
      | inl left ↦ left
      | inr same ↦ absurd (other (ap Disconnected same))
    ]
stays-there connections (Secured own facts) handle has other = has
stays-there connections (Unsecured own) handle has other = has
stays-there connections (Written own attribute) handle has other = stays-with connections own handle (has_connection connections own) has
stays-there connections (Configured own attribute bits) handle has other = stays-with connections own handle (has_connection connections own) has
stays-there connections (Confirmed own attribute) handle has other = stays-with connections own handle (has_connection connections own) has
stays-there connections (TimedOut own) handle has other = has
stays-there connections (Ending own reason) handle has other = has
stays-there connections (Skipped own attribute) handle has other = has

-- and by notices
abbrev Stays : ℕ → List Notice → Type 0
Stays handle notices = All (λ notice. notice ≢ Disconnected handle) notices

found : (connections : List ℕ) (notices : List Notice) (handle : ℕ) → has_connection (fold unsaved_after connections notices) handle ≡ true
    → HasChanged notices handle ⊎ ((has_connection connections handle ≡ true) × Stays handle notices)
found connections [] handle has = inr (has, All-nil (λ notice. notice ≢ Disconnected handle))
found connections (notice ∷ notices) handle has =
    elim (found (unsaved_after connections notice) notices handle has) [
      | inl changed ↦ inl (record {
        earlier = notice ∷ changed.earlier;
        change = changed.change;
        later = changed.later;
        parts = λ i. notice ∷ changed.parts i;
        changes = changed.changes;
        stays = changed.stays;
      })
      | inr there ↦
          elim (one-notice connections notice handle there.0) [
            | inl changes ↦ inl (record { earlier = []; change = notice; later = notices; parts = refl; changes = changes; stays = there.1 })
            | inr before ↦ inr (before.0, All-cons (λ notice. notice ≢ Disconnected handle) notice notices before.1 there.1)
          ]
    ]

stays-so : (connections : List ℕ) (notices : List Notice) (handle : ℕ) → has_connection connections handle ≡ true → Stays handle notices
    → has_connection (fold unsaved_after connections notices) handle ≡ true
stays-so connections [] handle has stays = has
stays-so connections (notice ∷ notices) handle has stays =
    stays-so (unsaved_after connections notice) notices handle
    (stays-there connections notice handle has (All-head (λ notice. notice ≢ Disconnected handle) notice notices stays))
    (All-tail (λ notice. notice ≢ Disconnected handle) notice notices stays)

pub holds_who_has_changed : (notices : List Notice) (handle : ℕ) → (has_connection (unsaved_by notices) handle ≡ true) ↔ HasChanged notices handle
holds_who_has_changed notices handle = (
  λ has.
      elim (found [] notices handle has) [
        | inl changed ↦ changed
        | inr there ↦ absurd (false≢true there.0)
      ],
  λ changed.
      subst (λ (notices : List Notice). has_connection (unsaved_by notices) handle ≡ true) (sym changed.parts)
      (subst (λ (connections : List ℕ). has_connection connections handle ≡ true)
      (sym (fold-append unsaved_after [] changed.earlier (changed.change ∷ changed.later)))
      (stays-so (unsaved_after (unsaved_by changed.earlier) changed.change) changed.later handle
      (change-there (unsaved_by changed.earlier) changed.change handle changed.changes) changed.stays)),
)
