-- The uses of an attribute that the server grants a connection.
use Rattle.std.specs.Prelude.{ℕ, ◌+◌, ◌==◌, ◌&&◌, Bool, false, is_none, is_some, if◌then◌else◌, not, [], ◌∷◌, List, Option, Result, Ok, Err}
use Rattle.att_numbers.specs.Types.{Handle, Row}
use Rattle.att_policy.specs.Refusal.{Refusal}
use Rattle.att_policy.specs.Policy.{first_broken_of, may_hear_of}
use Rattle.att_policy.specs.declared.guard.Guard.{Guard}
use Rattle.att_policy.specs.declared.policy.Access.TheVariants.{Read, Write, Command}
use Rattle.att_policy.specs.declared.standing.KeyFacts.{KeyFacts}
use Rattle.att_policy.specs.declared.standing.Standing.{Standing}
use Rattle.att_attributes.specs.declared.attr.Attr.{Attr}
use Rattle.att_attributes.specs.Attributes.{configuration_bits_at, guard_at, is_configuration_at, is_value}
use Rattle.att_writes.specs.Applied.{Stored, after_entries}
use Rattle.att_writes.specs.Entry.{whole_value}
use Rattle.gatt_subs.specs.Hearing.{bits_for, may_hear_at}
use Rattle.policy_rights.specs.Needs.{is_notified_or_indicated}
use Rattle.policy_rights.specs.declared.rights.Right.{Right}
use Rattle.att_policy.specs.declared.guard.TheConstants.{INDICATION}
use Rattle.policy_rights.specs.declared.rights.TheConstants.{NOTIFICATION}

-- The standing with such a key or none, authorized or not.
abbrev pub standing_with_key : Option KeyFacts → Bool → Standing
standing_with_key key is_authorized =
    record { key = key; key_known = is_some key; until = if is_authorized then 1 else 0; now = 0 }

-- The row of a client that has asked for a value, by these bits (Core 5.0, Vol 3 Part G, 3.3.3.3).
abbrev pub row_for : Handle → ℕ → Row
row_for handle bits = (handle + 1, bits) ∷ []

-- A client that has subscribed by this bit is sent the value, whenever it subscribed.
abbrev pub is_sent_of : List Attr → Standing → Handle → ℕ → Bool
is_sent_of attributes standing handle bit =
    may_hear_at attributes (row_for handle bit) standing handle

-- A client without subscriptions writes these bits to the configuration of a value.
abbrev pub subscribed : List Attr → Standing → Handle → ℕ → Result Stored Refusal
subscribed attributes standing handle bits =
    after_entries Write attributes standing (record { values = []; row = [] })
    (whole_value (handle + 1) (bits ∷ 0 ∷ []) ∷ [])

-- The row that the server leaves asks for the value.
abbrev pub is_subscribed_by : Handle → Result Stored Refusal → Bool
is_subscribed_by handle (Err refusal) = false
is_subscribed_by handle (Ok stored) = not (bits_for stored.row handle == 0)

-- The server accepts that a client asks for all that the value has: its notifications, its
-- indications or both.
unfoldable pub subscribes_of : List Attr → Standing → Handle → Bool
subscribes_of attributes standing handle =
    is_subscribed_by handle
    (subscribed attributes standing handle (configuration_bits_at attributes (handle + 1)))

-- The same as tests of a value and of the configuration after it.
abbrev pub is_sent : Attr → Standing → ℕ → Bool
is_sent attr standing bit = is_value attr.role && may_hear_of attr.guard bit standing

abbrev pub subscribes_at : List Attr → Standing → Guard → Handle → Bool
subscribes_at attributes standing guard handle =
    is_configuration_at attributes handle
    && (is_none (first_broken_of Write (guard_at attributes handle) standing)
    && is_notified_or_indicated guard.properties)

-- An access is a right exactly if it breaks no rule. To be sent a value is one exactly if the
-- server sends it to a client that has asked for it, and a subscription if the server accepts it.
abbrev pub may_of : List Attr → Standing → Handle → Right → Bool
may_of attributes standing handle Right.Read =
    is_none (first_broken_of Read (guard_at attributes handle) standing)
may_of attributes standing handle Right.Write =
    is_none (first_broken_of Write (guard_at attributes handle) standing)
may_of attributes standing handle Right.Command =
    is_none (first_broken_of Command (guard_at attributes handle) standing)
may_of attributes standing handle Right.Notify =
    is_sent_of attributes standing handle NOTIFICATION
may_of attributes standing handle Right.Indicate =
    is_sent_of attributes standing handle INDICATION
may_of attributes standing handle Right.Subscribe = subscribes_of attributes standing handle
