-- The calls of an application, which are accepted, and their meaning (this profile's own).
use Rattle.std.specs.Prelude.{ℕ, ◌==◌, nat_lt, nat_le, Bool, false, not, if◌then◌else◌, length, Option, Some, None, Result, Ok, Err}
use Rattle.att_numbers.specs.Types.{Handle}
use Rattle.att_attributes.specs.declared.attr.Attr.{Attr}
use Rattle.att_attributes.specs.Attributes.{attribute_at, is_value}
use Rattle.att_table.specs.Changer.{changer_of}
use Rattle.att_table.specs.Table.{Contents}
use Rattle.gatt_laws.specs.machine.Context.{Context, context_of}
use Rattle.gatt_laws.specs.machine.Event.{Happening, Event, Of, Authorized, Ended, Update, Tick, Replaced}
use Rattle.gatt_laws.specs.machine.State.{State}
use Rattle.octet_io.specs.Number.{Octets}

pub data Call : Type 0 where
  UpdateCall : (handle : Handle) (value : Octets) → Call
  AuthorizeCall : (handle : ℕ) (until : ℕ) → Call
  DisconnectCall : (handle : ℕ) → Call
  TickCall : (time : ℕ) → Call

-- The reasons to refuse a call or a table: `Stopped` first, then the others in this order.
pub data Refused : Type 0 where
  NoSuchHandle : Refused
  NotAValue : Refused
  BadLength : Refused
  NoSuchConnection : Refused
  TimeWentBack : Refused
  Stopped : Refused
  NoServiceChanged : Refused

-- A fixed value keeps its length; any other has a largest one.
abbrev pub has_length : Attr → ℕ → Bool
has_length attr count = if attr.fixed then count == attr.largest else nat_le count attr.largest

abbrev pub update_event : {C : Type 0} → Handle → Octets → Option Attr
    → Result (Happening C) Refused
update_event handle value None = Err NoSuchHandle
update_event handle value (Some attr) =
    if not (is_value attr.role) then Err NotAValue
    else if not (has_length attr (length value)) then Err BadLength
    else Ok (Update handle value)

abbrev pub authorize_event : {C : Type 0} → ℕ → Option C → Result (Happening C) Refused
authorize_event until None = Err NoSuchConnection
authorize_event until (Some connection) = Ok (Of connection (Authorized until))

abbrev pub disconnect_event : {C : Type 0} → Option C → Result (Happening C) Refused
disconnect_event None = Err NoSuchConnection
disconnect_event (Some connection) = Ok (Of connection Ended)

-- (P-ALL-7)
abbrev pub call_meaning : {C : Type 0} → Context C → Call → Result (Happening C) Refused
call_meaning context (UpdateCall handle value) =
    update_event handle value (attribute_at context.attributes handle)
call_meaning context (AuthorizeCall handle until) = authorize_event until (context.serving handle)
call_meaning context (DisconnectCall handle) = disconnect_event (context.serving handle)
call_meaning context (TickCall time) =
    if nat_lt time context.time then Err TimeWentBack else Ok (Tick time)

-- A table may replace another if both have a changer, at the same handle. (P-ALL-7)
abbrev pub same_changer : Option Handle → Option Handle → Bool
same_changer (Some old) (Some new) = old == new
same_changer _ _ = false

abbrev pub replacement_meaning : {C : Type 0} → Context C → Contents → Result (Happening C) Refused
replacement_meaning context table =
    if same_changer context.changer (changer_of table) then Ok (Replaced table)
    else Err NoServiceChanged

abbrev pub call_event : State → Call → Result Event Refused
call_event state call = call_meaning (context_of state) call

abbrev pub replacement_event : State → Contents → Result Event Refused
replacement_event state table = replacement_meaning (context_of state) table
