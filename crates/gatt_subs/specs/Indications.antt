-- The indications of one connection: the waiting ones and the unconfirmed one (Core 5.0, Vol 3 Part
-- F, 3.3.2 and 3.4.7.2). One place for each value, the backlog limit and the effect of a timeout
-- are this profile's own.
use Rattle.std.specs.Prelude.{◌≡◌, ℕ, ◌+◌, ◌<◌, ◌≤◌, Bool, true, false, ◌==◌, ◌&&◌, not, nat_lt, nat_le, is_some, if◌then◌else◌, List, [], ◌∷◌, ◌++◌, Option, Some, None}
use Rattle.std.specs.List.{list_any}
use Rattle.std.specs.Option.{option_and_then, option_map, option_map_or}
use Rattle.att_numbers.specs.Types.{Handle, Row}
use Rattle.att_numbers.specs.declared.limit.TheConstants.{MAX_ATTRIBUTES}
use Rattle.att_policy.specs.declared.standing.Standing.{Standing}
use Rattle.att_attributes.specs.declared.attr.Attr.{Attr}
use Rattle.gatt_subs.specs.declared.pending.TheConstants.{MAX_BACKLOG, CONFIRMATION_TIMEOUT}
use Rattle.gatt_subs.specs.declared.pending.Unconfirmed.{Unconfirmed}
use Rattle.gatt_subs.specs.Hearing.{may_hear_at, wants_indications, is_indicated}

-- The number of PDUs that are queued for a connection and not all given to the controller yet.
abbrev pub Backlog : Type 0
Backlog = ℕ

abbrev pub Milliseconds : Type 0
Milliseconds = ℕ

-- The waiting handles, the unconfirmed indication, and whether one timed out.
pub record Indications : Type 0 where
  pub waiting : List Handle
  pub unconfirmed : Option Unconfirmed
  pub timed_out : Bool

abbrev pub no_indications : Indications
no_indications = record { waiting = []; unconfirmed = None; timed_out = false }

abbrev pub is_waiting : List Handle → Handle → Bool
is_waiting waiting handle = list_any (λ other. other == handle) waiting

-- Each waiting handle is an attribute's and waits once.
abbrev pub HaveOnePlace : List Handle → Type 0
HaveOnePlace [] = Unit
HaveOnePlace (handle ∷ waiting) =
    (is_waiting waiting handle ≡ false) × (0 < handle) × (handle ≤ MAX_ATTRIBUTES)
    × HaveOnePlace waiting

-- A handle is added last unless it waits already.
abbrev pub with_handle : List Handle → Handle → List Handle
with_handle waiting handle = if is_waiting waiting handle then waiting else waiting ++ handle ∷ []

-- A connection after a timeout is not notified.
abbrev pub hears : Indications → List Attr → Row → Standing → Handle → Bool
hears pending attributes row standing handle =
    not pending.timed_out && may_hear_at attributes row standing handle

-- A value waits if the client may be notified of it, requested indications, and none timed out.
-- (P-SUB-4)
abbrev pub after_notify : Indications → List Attr → Row → Standing → Handle → Indications
after_notify pending attributes row standing handle =
    if hears pending attributes row standing handle && wants_indications row handle
    then record pending { waiting = with_handle pending.waiting handle } else pending

-- A value of which the client may be notified is notified if the client did not request indications
-- and the backlog is below the limit. (P-SUB-4)
abbrev pub is_notified : Indications → List Attr → Row → Standing → Handle → Backlog → Bool
is_notified pending attributes row standing handle backlog =
    hears pending attributes row standing handle && not (wants_indications row handle)
    && nat_lt backlog MAX_BACKLOG

-- An indication may be sent if none is unconfirmed and the backlog is below the limit.
-- (P-SUB-5, P-SUB-6)
abbrev pub may_indicate : Indications → Backlog → Bool
may_indicate pending backlog =
    not (is_some pending.unconfirmed) && not pending.timed_out && nat_lt backlog MAX_BACKLOG

-- The waiting handles from the first that must be indicated; those before it may no longer be, and
-- are dropped. (P-SUB-5)
abbrev pub from_due : (Handle → Bool) → List Handle → List Handle
from_due is_due [] = []
from_due is_due (handle ∷ rest) = if is_due handle then handle ∷ rest else from_due is_due rest

abbrev pub first_handle : List Handle → Option Handle
first_handle [] = None
first_handle (handle ∷ rest) = Some handle

abbrev pub rest_of : List Handle → List Handle
rest_of [] = []
rest_of (handle ∷ rest) = rest

-- The value that is indicated at the end of an event.
abbrev pub indicated_handle : Indications → List Attr → Row → Standing → Backlog → Option Handle
indicated_handle pending attributes row standing backlog =
    if may_indicate pending backlog
    then first_handle (from_due (is_indicated attributes row standing) pending.waiting) else None

abbrev pub unconfirmed_since : Milliseconds → Handle → Unconfirmed
unconfirmed_since now handle = record { handle = handle; since = now; outdated = false }

abbrev pub after_indicate : Indications → List Attr → Row → Standing → Backlog → Milliseconds
    → Indications
after_indicate pending attributes row standing backlog now =
    if may_indicate pending backlog
    then (let due = from_due (is_indicated attributes row standing) pending.waiting in
    record pending {
      waiting = rest_of due;
      unconfirmed = option_map (unconfirmed_since now) (first_handle due);
    })
    else pending

-- (P-SUB-6)
abbrev pub after_confirmation : Indications → Indications
after_confirmation pending = record pending { unconfirmed = None }

-- A confirmation of an indication from before a replacement confirms no value.
abbrev pub handle_if_current : Unconfirmed → Option Handle
handle_if_current unconfirmed = if unconfirmed.outdated then None else Some unconfirmed.handle

abbrev pub confirmed_handle : Indications → Option Handle
confirmed_handle pending = option_and_then handle_if_current pending.unconfirmed

-- After 30 seconds without confirmation, no notification or indication is sent (Core 5.0, Vol 3
-- Part F, 3.3.3). (P-SUB-7)
abbrev pub is_late : Milliseconds → Unconfirmed → Bool
is_late now unconfirmed = nat_le (unconfirmed.since + CONFIRMATION_TIMEOUT) now

abbrev pub times_out : Indications → Milliseconds → Bool
times_out pending now = option_map_or (is_late now) pending.unconfirmed false

-- (P-SUB-7)
abbrev pub after_tick : Indications → Milliseconds → Indications
after_tick pending now =
    if times_out pending now
    then record { waiting = []; unconfirmed = None; timed_out = true } else pending

-- After a replacement nothing waits, and the unconfirmed indication is outdated.
abbrev pub with_mark : Unconfirmed → Unconfirmed
with_mark unconfirmed = record unconfirmed { outdated = true }

abbrev pub after_replacement : Indications → Indications
after_replacement pending =
    record pending { waiting = []; unconfirmed = option_map with_mark pending.unconfirmed }

-- If the connection ends, nothing waits or is unconfirmed.
abbrev pub after_end : Indications → Indications
after_end pending = record pending { waiting = []; unconfirmed = None }

-- A confirmation now would show that the client knows the current value.
abbrev pub is_told : Indications → Handle → Bool
is_told pending handle =
    option_map_or
    (λ (unconfirmed : Unconfirmed). (unconfirmed.handle == handle) && not unconfirmed.outdated)
    pending.unconfirmed false
    && not (is_waiting pending.waiting handle)
