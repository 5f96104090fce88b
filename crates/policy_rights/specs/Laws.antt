-- The rights of a standing and the state machine (this profile's own).
use Rattle.std.specs.Prelude.{◌≡◌, ℕ, ◌≤◌, ◌==◌, ◌&&◌, ◌||◌, Bool, true, not, nat_lt, List, Some}
use Rattle.std.specs.Int.RustNames.{bit_and}
use Rattle.std.specs.List.{list_any}
use Rattle.att_numbers.specs.Types.{Handle, Row}
use Rattle.att_policy.specs.declared.standing.KeyFacts.{KeyFacts}
use Rattle.att_policy.specs.declared.standing.Standing.{Standing}
use Rattle.att_attributes.specs.declared.attr.Attr.{Attr}
use Rattle.gatt_subs.specs.Hearing.{bits_for, may_hear_at}
use Rattle.policy_rights.specs.declared.rights.Right.{Right}
use Rattle.att_policy.specs.declared.guard.TheConstants.{INDICATION}
use Rattle.policy_rights.specs.declared.rights.TheConstants.{NOTIFICATION}
use Rattle.policy_rights.specs.Columns.{same_column}
use Rattle.policy_rights.specs.Held.{may_with}
use Rattle.policy_rights.specs.Kinds.{every_kind}
use Rattle.policy_rights.specs.Rights.{may_of}

-- The row asks for what this bit means.
abbrev pub asks_for : Row → Handle → ℕ → Bool
asks_for row handle bit = not (bit_and (bits_for row handle) bit == 0)

-- The server sends a value to a connection exactly if its row asks for notifications or for
-- indications, and the connection has the right to be sent these. It does not matter when the
-- client subscribed, or by which key.
abbrev pub SendsByRights : Type 0
SendsByRights =
    (attributes : List Attr) (row : Row) (standing : Standing) (handle : Handle)
    → bits_for row handle ≤ 3
    → may_hear_at attributes row standing handle
    ≡ (asks_for row handle NOTIFICATION && may_of attributes standing handle Right.Notify)
    || (asks_for row handle INDICATION && may_of attributes standing handle Right.Indicate)

-- The application authorizes the connection now.
abbrev pub is_authorized_now : Standing → Bool
is_authorized_now standing = nat_lt standing.now standing.until

-- The rights of a connection are those of its key, and of whether it is authorized now.
abbrev pub DependsOnKeyAndTime : Type 0
DependsOnKeyAndTime =
    (attributes : List Attr) (standing : Standing) (handle : Handle) (right : Right)
    → may_of attributes standing handle right
    ≡ may_with attributes standing.key (is_authorized_now standing) handle right

-- A key of 7 to 16 octets is of one of the kinds.
abbrev pub HasEveryKind : Type 0
HasEveryKind =
    (key : KeyFacts) → 7 ≤ key.size → key.size ≤ 16
    → list_any (same_column (Some key)) every_kind ≡ true
