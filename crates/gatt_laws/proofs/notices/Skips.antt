-- The notices of skipped values, which follow the other notices of an event.
use Rattle.std.proofs.Common.{◌≡◌, ℕ, Bool, true, false, List, [], ◌∷◌, ◌++◌, map, Some, None, refl, sym, ap, ◌∙◌}
use Rattle.std.proofs.Common.{append-nil}
use Rattle.std.specs.Prelude.{◌||◌, ◌==◌, All, fold, if◌then◌else◌}
use Rattle.std.specs.List.{list_any, flat_map}
use Rattle.std.proofs.lemmas.List.Elements.{All-nil, All-cons, All-append}
use Rattle.std.proofs.lemmas.List.Folds.{list_any-append}
use Rattle.std.proofs.lemmas.List.Sums.{fold-append}
use Rattle.att_numbers.specs.Types.{Handle, Row}
use Rattle.gatt_laws.proofs.notices.Present.{present_both}
use Rattle.gatt_laws.specs.laws.Present.{Present, present_in}
use Rattle.gatt_laws.specs.machine.Controller.{Slots}
use Rattle.gatt_laws.specs.machine.ConnectionState.{ConnectionState, is_live}
use Rattle.gatt_laws.specs.machine.Effect.{Effect, effect_on_connection, effect_of, live_effect}
use Rattle.gatt_laws.specs.machine.Event.{Ordinal, Own, Connected, Disconnected, Encrypted, Refreshed, Asks}
use Rattle.gatt_laws.specs.machine.Event.{Event, Of, Update, Replaced}
use Rattle.gatt_laws.specs.machine.Notice.{Notice, Skipped, event_told, values_skipped, slot_skips_told, skips_told, noticed}
use Rattle.gatt_laws.specs.machine.SharedState.{SharedState}
use Rattle.gatt_laws.specs.machine.State.{State, Change, change_of, after_effect}
use Rattle.octet_io.proofs.Choices.{or_with_false}

-- A test that each Skipped fails finds none of them.
module _ (test : Notice → Bool) (fails : (handle : ℕ) (attribute : Handle) → test (Skipped handle attribute) ≡ false) where
  values-fail : (handle : ℕ) (attributes : List Handle) → list_any test (map (Skipped handle) attributes) ≡ false
  values-fail handle [] = refl
  values-fail handle (attribute ∷ rest) =
      (λ i. fails handle attribute i || list_any test (map (Skipped handle) rest)) ∙ values-fail handle rest

  slots-fail : (change : Change) (slots : Slots) → list_any test (flat_map (slot_skips_told change) slots) ≡ false
  slots-fail change [] = refl
  slots-fail change (None ∷ slots) = slots-fail change slots
  slots-fail change (Some ordinal ∷ slots) =
      let handle : ℕ = (change.state.connections ordinal).handle in
      let values : List Handle = values_skipped change ordinal in
      list_any-append test (map (Skipped handle) values) (flat_map (slot_skips_told change) slots)
      ∙ (λ i. values-fail handle values i || list_any test (flat_map (slot_skips_told change) slots))
      ∙ slots-fail change slots

  pub finds_no_skip : (change : Change) → list_any test (skips_told change) ≡ false
  finds_no_skip change = slots-fail change change.state.slots

  -- So it finds the same with them and without them.
  pub finds_what_is_told : (state : State) (event : Event)
      → list_any test (noticed state event) ≡ list_any test (event_told state event)
  unfolding noticed
  finds_what_is_told state event =
      list_any-append test (event_told state event) (skips_told (change_of state event))
      ∙ ap (λ (skips : Bool). list_any test (event_told state event) || skips) (finds_no_skip (change_of state event))
      ∙ or_with_false (list_any test (event_told state event))

  pub none_of_the_event : (state : State) (event : Event) → list_any test (noticed state event) ≡ false
      → list_any test (event_told state event) ≡ false
  none_of_the_event state event none = sym (finds_what_is_told state event) ∙ none

  pub none_with_skips : (state : State) (event : Event) → list_any test (event_told state event) ≡ false
      → list_any test (noticed state event) ≡ false
  none_with_skips state event none = finds_what_is_told state event ∙ none

-- A property of each Skipped and of each other notice of an event is one of all notices.
module _ (P : Notice → Type 0) (holds : (handle : ℕ) (attribute : Handle) → P (Skipped handle attribute)) where
  values-hold : (handle : ℕ) (attributes : List Handle) → All P (map (Skipped handle) attributes)
  values-hold handle [] = All-nil P
  values-hold handle (attribute ∷ rest) =
      All-cons P (Skipped handle attribute) (map (Skipped handle) rest) (holds handle attribute) (values-hold handle rest)

  slots-hold : (change : Change) (slots : Slots) → All P (flat_map (slot_skips_told change) slots)
  slots-hold change [] = All-nil P
  slots-hold change (None ∷ slots) = slots-hold change slots
  slots-hold change (Some ordinal ∷ slots) =
      All-append P (slot_skips_told change (Some ordinal)) (flat_map (slot_skips_told change) slots)
      (values-hold (change.state.connections ordinal).handle (values_skipped change ordinal)) (slots-hold change slots)

  pub holds_with_skips : (state : State) (event : Event) → All P (event_told state event) → All P (noticed state event)
  unfolding noticed
  holds_with_skips state event told =
      let change : Change = change_of state event in
      All-append P (event_told state event) (skips_told change) told (slots-hold change change.state.slots)

-- A listener that learns nothing from a Skipped knows the same with them and without them.
module _ {A : Type 0} (after : A → Notice → A)
    (keeps : (known : A) (handle : ℕ) (attribute : Handle) → after known (Skipped handle attribute) ≡ known) where
  values-keep : (known : A) (handle : ℕ) (attributes : List Handle) → fold after known (map (Skipped handle) attributes) ≡ known
  values-keep known handle [] = refl
  values-keep known handle (attribute ∷ rest) =
      ap (λ (of : A). fold after of (map (Skipped handle) rest)) (keeps known handle attribute)
      ∙ values-keep known handle rest

  slots-keep : (change : Change) (known : A) (slots : Slots) → fold after known (flat_map (slot_skips_told change) slots) ≡ known
  slots-keep change known [] = refl
  slots-keep change known (None ∷ slots) = slots-keep change known slots
  slots-keep change known (Some ordinal ∷ slots) =
      let handle : ℕ = (change.state.connections ordinal).handle in
      let values : List Handle = values_skipped change ordinal in
      fold-append after known (map (Skipped handle) values) (flat_map (slot_skips_told change) slots)
      ∙ ap (λ (of : A). fold after of (flat_map (slot_skips_told change) slots)) (values-keep known handle values)
      ∙ slots-keep change known slots

  pub knows_what_is_told : (state : State) (event : Event) (known : A)
      → fold after known (noticed state event) ≡ fold after known (event_told state event)
  unfolding noticed
  knows_what_is_told state event known =
      let change : Change = change_of state event in
      fold-append after known (event_told state event) (skips_told change)
      ∙ slots-keep change (fold after known (event_told state event)) change.state.slots

-- Nobody connects or disconnects by a Skipped.
values-present : (present : Present) (handle : ℕ) (attributes : List Handle)
    → present_in present (map (Skipped handle) attributes) ≡ present
values-present present handle [] = refl
values-present present handle (attribute ∷ rest) = values-present present handle rest

slots-present : (change : Change) (present : Present) (slots : Slots)
    → present_in present (flat_map (slot_skips_told change) slots) ≡ present
slots-present change present [] = refl
slots-present change present (None ∷ slots) = slots-present change present slots
slots-present change present (Some ordinal ∷ slots) =
    let handle : ℕ = (change.state.connections ordinal).handle in
    let values : List Handle = values_skipped change ordinal in
    present_both present (map (Skipped handle) values) (flat_map (slot_skips_told change) slots)
    ∙ ap (λ (of : Present). present_in of (flat_map (slot_skips_told change) slots)) (values-present present handle values)
    ∙ slots-present change present slots

pub present_by_what_is_told : (state : State) (event : Event) (present : Present)
    → present_in present (noticed state event) ≡ present_in present (event_told state event)
unfolding noticed
present_by_what_is_told state event present =
    let change : Change = change_of state event in
    present_both present (event_told state event) (skips_told change)
    ∙ slots-present change (present_in present (event_told state event)) change.state.slots

-- An event that notifies nothing skips nothing.

abbrev pub NotifiesNothing : Change → Type 0
NotifiesNothing change = (ordinal : Ordinal) → change.to_notify ordinal ≡ []

slots-skip-none : (change : Change) (slots : Slots) → NotifiesNothing change → flat_map (slot_skips_told change) slots ≡ []
slots-skip-none change [] none = refl
slots-skip-none change (None ∷ slots) none = slots-skip-none change slots none
slots-skip-none change (Some ordinal ∷ slots) none =
    ap (λ (handles : List Handle). slot_skips_told (record change { to_notify = λ of. handles }) (Some ordinal)
    ++ flat_map (slot_skips_told change) slots) (none ordinal)
    ∙ slots-skip-none change slots none

pub skips_nothing : (change : Change) → NotifiesNothing change → skips_told change ≡ []
skips_nothing change none = slots-skip-none change change.state.slots none

pub tells_only_of_the_event : (state : State) (event : Event) → NotifiesNothing (change_of state event)
    → noticed state event ≡ event_told state event
unfolding noticed
tells_only_of_the_event state event none =
    ap (λ (skips : List Notice). event_told state event ++ skips) (skips_nothing (change_of state event) none)
    ∙ append-nil (event_told state event)

either-none : (one other : List Handle) (same : Bool) → one ≡ [] → other ≡ [] → (if same then one else other) ≡ []
either-none one other true first second = first
either-none one other false first second = second

pub effect_notifies_nothing : (state : State) (at : Ordinal) (own : Own) (effect : Effect)
    → effect.to_notify_here ≡ [] → effect.to_notify ≡ [] → NotifiesNothing (after_effect state at own effect)
effect_notifies_nothing state at own effect here others ordinal =
    either-none effect.to_notify_here effect.to_notify (ordinal == at) here others

-- Only requests, changes of keys, updates and replacements notify values.
abbrev pub may_notify : Event → Bool
may_notify (Of ordinal (Asks pdu)) = true
may_notify (Of ordinal (Encrypted status enabled)) = true
may_notify (Of ordinal (Refreshed status)) = true
may_notify (Update handle value) = true
may_notify (Replaced table) = true
may_notify event = false

record IsQuiet (effect : Effect) : Type 0 where
  here : effect.to_notify_here ≡ []
  others : effect.to_notify ≡ []

either-quiet : (one other : Effect) (test : Bool) → IsQuiet one → IsQuiet other → IsQuiet (if test then one else other)
either-quiet one other true is so = is
either-quiet one other false is so = so

module _ (shared : SharedState) (bond : Row) (owed : Bool) (connection : ConnectionState) where
  live-quiet : (own : Own) → IsQuiet (live_effect shared bond owed connection own)
      → IsQuiet (if is_live connection.mark then live_effect shared bond owed connection own
      else effect_on_connection shared bond owed connection)
  live-quiet own is =
      either-quiet (live_effect shared bond owed connection own) (effect_on_connection shared bond owed connection)
      (is_live connection.mark) is (record { here = refl; others = refl })

  own-quiet : (ordinal : Ordinal) (own : Own) → may_notify (Of ordinal own) ≡ false
      → IsQuiet (effect_of shared bond owed connection own)
  unfolding live_effect
  own-quiet ordinal (Connected handle peer) quiet = record { here = refl; others = refl }
  own-quiet ordinal Disconnected quiet = record { here = refl; others = refl }
  own-quiet ordinal (Asks pdu) quiet = cc quiet
  own-quiet ordinal (Encrypted status enabled) quiet = cc quiet
  own-quiet ordinal (Refreshed status) quiet = cc quiet
  own-quiet ordinal own quiet = live-quiet own (record { here = refl; others = refl })

pub notifies_nothing : (state : State) (event : Event) → may_notify event ≡ false → NotifiesNothing (change_of state event)
unfolding change_of
notifies_nothing state (Of ordinal own) quiet =
    let connection : ConnectionState = state.connections ordinal in
    let bond : Row = state.bonds connection.peer in
    let owed : Bool = state.owed connection.peer in
    let is = own-quiet state.shared bond owed connection ordinal own quiet in
    effect_notifies_nothing state ordinal own (effect_of state.shared bond owed connection own) is.here is.others
notifies_nothing state (Update handle value) quiet = cc quiet
notifies_nothing state (Replaced table) quiet = cc quiet
notifies_nothing state event quiet = λ ordinal. refl

pub noticed_where_quiet : (state : State) (event : Event) → may_notify event ≡ false → noticed state event ≡ event_told state event
noticed_where_quiet state event quiet = tells_only_of_the_event state event (notifies_nothing state event quiet)

pub noticed_with_skips : (state : State) (event : Event) → noticed state event ≡ event_told state event ++ skips_told (change_of state event)
unfolding noticed
noticed_with_skips state event = refl
