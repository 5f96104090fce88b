-- No value that an event notifies is lost without a notice; when one is skipped is this profile's
-- own.
use Rattle.std.specs.Prelude.{◌≡◌, ℕ, ◌+◌, ◌≤◌, ◌==◌, ◌||◌, ◌&&◌, not, Bool, true, false}
use Rattle.std.specs.Prelude.{All, List, ◌∷◌, ◌++◌, filter, length}
use Rattle.std.specs.List.{list_any}
use Rattle.att_numbers.specs.Types.{Handle, Values}
use Rattle.att_attributes.specs.declared.attr.Attr.{Attr}
use Rattle.gatt_laws.specs.laws.MayBeHeard.{handles_told}
use Rattle.gatt_laws.specs.laws.Settled.{has_slot}
use Rattle.gatt_laws.specs.machine.Event.{Ordinal, Event}
use Rattle.gatt_laws.specs.machine.Heard.{Heard, heard_in_turn, hearer_of, skipped_in_turn}
use Rattle.gatt_laws.specs.machine.Notice.{Notice, Skipped, noticed}
use Rattle.gatt_laws.specs.machine.State.{State, Change, change_of, step}
use Rattle.gatt_subs.specs.declared.pending.TheConstants.{MAX_BACKLOG}
use Rattle.gatt_subs.specs.Hearing.{may_hear_at, wants_indications}
use Rattle.gatt_subs.specs.Told.{Hearer}

abbrev pub is_among : Handle → List Handle → Bool
is_among handle handles = list_any (λ other. other == handle) handles

-- If a connection serves, has not timed out and may be sent a notified value, then the value is
-- sent, waits to be indicated, or is skipped. A handle that waits counts only if indications are
-- requested: it may wait from before the client requested notifications instead.
abbrev pub is_accounted_for : List Attr → Values → Hearer → ℕ → List Handle → Handle → Bool
is_accounted_for attributes values hearer now handles handle =
    let heard = heard_in_turn attributes values hearer now handles in
    is_among handle (handles_told heard.responses)
    || (wants_indications hearer.row handle && is_among handle heard.pending.waiting)
    || is_among handle (skipped_in_turn attributes values hearer handles)

abbrev pub AccountsForEachValue : Type 0
AccountsForEachValue = (attributes : List Attr) (values : Values) (hearer : Hearer) (now : ℕ)
    (handles : List Handle) (handle : Handle) → hearer.live ≡ true
    → hearer.pending.timed_out ≡ false → is_among handle handles ≡ true
    → may_hear_at attributes hearer.row hearer.standing handle ≡ true
    → is_accounted_for attributes values hearer now handles handle ≡ true

abbrev pub hearer_at : Change → Ordinal → Hearer
hearer_at change ordinal =
    let connection = change.state.connections ordinal in
    hearer_of change.state.shared (change.state.bonds connection.peer) connection

abbrev pub heard_at : Change → Ordinal → Heard
heard_at change ordinal =
    let shared = change.state.shared in
    heard_in_turn shared.table.attributes shared.table.values (hearer_at change ordinal) shared.time
    (change.to_notify ordinal)

pub record IsToHear (change : Change) (ordinal : Ordinal) (attribute : Handle) : Type 0 where
  pub has : has_slot ordinal change.state.slots ≡ true
  pub live : (hearer_at change ordinal).live ≡ true
  pub on_time : (hearer_at change ordinal).pending.timed_out ≡ false
  pub notified : is_among attribute (change.to_notify ordinal) ≡ true
  pub may : may_hear_at change.state.shared.table.attributes (hearer_at change ordinal).row
      (hearer_at change ordinal).standing attribute ≡ true

abbrev pub is_skip_of : ℕ → Handle → Notice → Bool
is_skip_of handle attribute (Skipped other skipped) = other == handle && skipped == attribute
is_skip_of handle attribute notice = false

-- Each value of `IsToHear` is sent, waits to be indicated, or causes a notice that it is skipped.
abbrev pub NoticesEachSkipped : Type 0
NoticesEachSkipped = (state : State) (event : Event) (ordinal : Ordinal) (attribute : Handle) →
    let change = change_of state event in
    IsToHear change ordinal attribute
    → (is_among attribute (handles_told (heard_at change ordinal).responses)
    || (wants_indications (hearer_at change ordinal).row attribute
    && is_among attribute ((step state event).connections ordinal).pending.waiting)
    || list_any (is_skip_of (change.state.connections ordinal).handle attribute)
    (noticed state event)) ≡ true

-- The connection may be notified of the value and requested no indications of it.
abbrev pub wants_notification : List Attr → Hearer → Handle → Bool
wants_notification attributes hearer handle =
    may_hear_at attributes hearer.row hearer.standing handle
    && not (wants_indications hearer.row handle)

-- The PDUs that are queued, with one for each of the values of which the client is to be notified.
abbrev pub backlog_with : List Attr → Hearer → List Handle → ℕ
backlog_with attributes hearer handles =
    hearer.backlog + length (filter (wants_notification attributes hearer) handles)

-- A notice of a skipped value names a connection of `IsToHear` that requested no indications of it.
-- With the values before it in the event, MAX_BACKLOG PDUs or more are queued.
pub record IsSkippedFor (change : Change) (handle : ℕ) (attribute : Handle) : Type 0 where
  pub ordinal : Ordinal
  pub named : (change.state.connections ordinal).handle ≡ handle
  pub to_hear : IsToHear change ordinal attribute
  pub by_notification : wants_indications (hearer_at change ordinal).row attribute ≡ false
  pub before : List Handle
  pub rest : List Handle
  pub split : change.to_notify ordinal ≡ before ++ attribute ∷ rest
  pub full : MAX_BACKLOG
      ≤ backlog_with change.state.shared.table.attributes (hearer_at change ordinal) before

abbrev pub IsSkippedIfTold : Change → Notice → Type 0
IsSkippedIfTold change (Skipped handle attribute) = IsSkippedFor change handle attribute
IsSkippedIfTold change notice = Unit

abbrev pub NoticesOnlyWhatIsSkipped : Type 0
NoticesOnlyWhatIsSkipped = (state : State) (event : Event) →
    All (IsSkippedIfTold (change_of state event)) (noticed state event)
