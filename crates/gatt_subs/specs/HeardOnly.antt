-- A connection is sent only values that it may be notified of.
use Rattle.std.specs.Prelude.{◌≡◌, true, false, List, [], Some, None}
use Rattle.att_numbers.specs.Types.{Handle, Row}
use Rattle.att_policy.specs.declared.standing.Standing.{Standing}
use Rattle.att_attributes.specs.declared.attr.Attr.{Attr}
use Rattle.gatt_subs.specs.Hearing.{may_hear_at, wants_indications}
use Rattle.gatt_subs.specs.Indications.{Indications, Backlog, Milliseconds, after_notify, is_notified, after_indicate, indicated_handle}

-- A value that the connection may not be notified of changes nothing.
pub record NotifiesNothing (pending : Indications) (attributes : List Attr) (row : Row)
    (standing : Standing) (handle : Handle) : Type 0 where
  pub unchanged : after_notify pending attributes row standing handle ≡ pending
  pub silent : (backlog : Backlog) → is_notified pending attributes row standing handle backlog
      ≡ false

abbrev pub NotifiesOnlyWhatIsHeard : Type 0
NotifiesOnlyWhatIsHeard =
    (pending : Indications) (attributes : List Attr) (row : Row) (standing : Standing)
    (handle : Handle)
    → may_hear_at attributes row standing handle ≡ false
    → NotifiesNothing pending attributes row standing handle

-- The client may be notified of an indicated value and requested indications.
pub record IsHeard (attributes : List Attr) (row : Row) (standing : Standing)
    (handle : Handle) : Type 0 where
  pub may : may_hear_at attributes row standing handle ≡ true
  pub wanted : wants_indications row handle ≡ true

abbrev pub IndicatesOnlyWhatIsHeard : Type 0
IndicatesOnlyWhatIsHeard =
    (pending : Indications) (attributes : List Attr) (row : Row) (standing : Standing)
    (backlog : Backlog) (handle : Handle)
    → indicated_handle pending attributes row standing backlog ≡ Some handle
    → IsHeard attributes row standing handle

-- If nothing waits, nothing is indicated.
pub record IndicatesNothing (pending : Indications) (attributes : List Attr) (row : Row)
    (standing : Standing) (backlog : Backlog) : Type 0 where
  pub unchanged : (now : Milliseconds) → after_indicate pending attributes row standing backlog now
      ≡ pending
  pub silent : indicated_handle pending attributes row standing backlog ≡ None

abbrev pub IndicatesOnlyWhatWaits : Type 0
IndicatesOnlyWhatWaits =
    (pending : Indications) (attributes : List Attr) (row : Row) (standing : Standing)
    (backlog : Backlog)
    → pending.waiting ≡ [] → IndicatesNothing pending attributes row standing backlog
