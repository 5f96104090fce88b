-- The times at which indications are late and authorizations end (this profile's own).
use Rattle.std.specs.Prelude.{◌≡◌, ℕ, ◌<◌, ◌≤◌, ◌==◌, ◌^◌, min, nat_le, nat_lt, if◌then◌else◌}
use Rattle.std.specs.Prelude.{All, Bool, true, false, List, [], filter_map, Option, Some, None}
use Rattle.std.specs.List.{list_any, reduce}
use Rattle.std.specs.Option.{option_map_or}
use Rattle.att_attributes.specs.declared.attr.Attr.{Attr}
use Rattle.att_numbers.specs.Types.{Handle, Row}
use Rattle.att_policy.specs.Policy.{is_unmet}
use Rattle.att_policy.specs.declared.guard.Need.{Need}
use Rattle.att_policy.specs.declared.policy.Rule.TheVariants.{Authorization}
use Rattle.att_table.specs.Table.{Contents}
use Rattle.gatt_conn.specs.Answer.{Question, answer_to, handles_by, stored_by}
use Rattle.gatt_laws.specs.laws.Settled.{has_slot}
use Rattle.gatt_laws.specs.machine.ConnectionState.{ConnectionState}
use Rattle.gatt_laws.specs.machine.ConnectionState.{bearer_of, is_live, standing_of}
use Rattle.gatt_laws.specs.machine.Event.{Ordinal, Nothing, Tick}
use Rattle.gatt_laws.specs.machine.Notice.{Notice, TimedOut, noticed}
use Rattle.gatt_laws.specs.machine.SharedState.{SharedState}
use Rattle.gatt_laws.specs.machine.State.{State, out, step}
use Rattle.gatt_subs.specs.Deadline.{deadline_of}
use Rattle.gatt_subs.specs.Hearing.{may_hear_at}
use Rattle.gatt_subs.specs.Indications.{Milliseconds, times_out}

abbrev pub slot_indication_deadline : State → Option Ordinal → Option Milliseconds
slot_indication_deadline state None = None
slot_indication_deadline state (Some ordinal) = deadline_of (state.connections ordinal).pending

abbrev pub indication_deadline : State → Option Milliseconds
indication_deadline state = reduce min (filter_map (slot_indication_deadline state) state.slots)

abbrev pub end_after : Milliseconds → Milliseconds → Option Milliseconds
end_after now until = if nat_lt now until then Some until else None

abbrev pub authorization_end : Milliseconds → ConnectionState → Option Milliseconds
authorization_end now connection =
    if is_live connection.mark then end_after now connection.until else None

abbrev pub earlier_of : Option Milliseconds → Option Milliseconds → Option Milliseconds
earlier_of None other = other
earlier_of (Some one) None = Some one
earlier_of (Some one) (Some other) = Some (min one other)

abbrev pub slot_deadline : Milliseconds → State → Option Ordinal → Option Milliseconds
slot_deadline now state None = None
slot_deadline now state (Some ordinal) =
    let connection = state.connections ordinal in
    earlier_of (deadline_of connection.pending) (authorization_end now connection)

-- The earliest time at which an indication is late or the authorization of a connection that serves
-- ends. A caller needs no Tick before it.
abbrev pub deadline : State → Option Milliseconds
deadline state = reduce min (filter_map (slot_deadline state.shared.time state) state.slots)

-- Exactly the times from the deadline of indications on notify of a late indication.
abbrev pub is_late_told : Notice → Bool
is_late_told (TimedOut handle) = true
is_late_told other = false

abbrev pub is_reached : Option Milliseconds → Milliseconds → Bool
is_reached deadline time = option_map_or (λ (least : ℕ). nat_le least time) deadline false

abbrev pub TellsFromTheDeadlineOn : Type 0
TellsFromTheDeadlineOn = (state : State) (time : Milliseconds) → time < 2 ^ 64 →
    list_any is_late_told (noticed state (Tick time)) ≡ is_reached (indication_deadline state) time

abbrev pub at_time : Milliseconds → SharedState → SharedState
at_time time shared = record shared { time = time }

-- Two shared states allow a connection the same, for any table and row.
pub record IsAllowedTheSame (one other : SharedState) (connection : ConnectionState) : Type 0 where
  pub answers : (table : Contents) (row : Row) (asked : Question) →
      answer_to table row (bearer_of one connection) asked
      ≡ answer_to table row (bearer_of other connection) asked
  pub stores : (table : Contents) (row : Row) (asked : Question) →
      stored_by table row (bearer_of one connection) asked
      ≡ stored_by table row (bearer_of other connection) asked
  pub writes : (table : Contents) (row : Row) (asked : Question) →
      handles_by table row (bearer_of one connection) asked
      ≡ handles_by table row (bearer_of other connection) asked
  pub hears : (attributes : List Attr) (row : Row) (handle : Handle) →
      may_hear_at attributes row (standing_of one connection) handle
      ≡ may_hear_at attributes row (standing_of other connection) handle

-- A Tick before the deadline causes no notice and the same packets as `Nothing`; it allows each
-- connection that has a slot and serves the same as before.
pub record IsQuietAt (state : State) (time : Milliseconds) : Type 0 where
  pub notices : noticed state (Tick time) ≡ []
  pub packets : out state (Tick time) ≡ out state Nothing
  pub same : (ordinal : Ordinal) → has_slot ordinal state.slots ≡ true
      → is_live (state.connections ordinal).mark ≡ true
      → IsAllowedTheSame (at_time time state.shared) state.shared (state.connections ordinal)

abbrev pub IsQuietBeforeTheDeadline : Type 0
IsQuietBeforeTheDeadline = (state : State) (time : Milliseconds) → state.shared.time ≤ time
    → time < 2 ^ 64 → is_reached (deadline state) time ≡ false → IsQuietAt state time

-- A Tick at the end of an authorization or later ends it: the connection fails each need of one.
abbrev pub EndsAuthorizations : Type 0
EndsAuthorizations = (state : State) (time : Milliseconds) (ordinal : Ordinal) (need : Need) →
    let new = step state (Tick time) in
    (state.connections ordinal).until ≤ time → need.authorized ≡ true
    → is_unmet need (standing_of new.shared (new.connections ordinal)) Authorization ≡ true

pub record IsLateInASlot (state : State) (time : Milliseconds) (handle : ℕ) : Type 0 where
  pub ordinal : Ordinal
  pub has : has_slot ordinal state.slots ≡ true
  pub named : (state.connections ordinal).handle ≡ handle
  pub late : times_out (state.connections ordinal).pending time ≡ true

abbrev pub IsNoticeOfLate : State → Milliseconds → Notice → Type 0
IsNoticeOfLate state time (TimedOut handle) = IsLateInASlot state time handle
IsNoticeOfLate state time notice = ⊥

-- A Tick notifies only of connections in a slot whose indication is late.
abbrev pub NoticesOnlyWhoIsLate : Type 0
NoticesOnlyWhoIsLate = (state : State) (time : Milliseconds) →
    All (IsNoticeOfLate state time) (noticed state (Tick time))

-- A Tick notifies of each of these connections.
abbrev pub is_late_notice_of : ℕ → Notice → Bool
is_late_notice_of handle (TimedOut other) = other == handle
is_late_notice_of handle other = false

abbrev pub NoticesEachWhoIsLate : Type 0
NoticesEachWhoIsLate = (state : State) (time : Milliseconds) (ordinal : Ordinal) →
    has_slot ordinal state.slots ≡ true → times_out (state.connections ordinal).pending time ≡ true
    → list_any (is_late_notice_of (state.connections ordinal).handle) (noticed state (Tick time))
    ≡ true
