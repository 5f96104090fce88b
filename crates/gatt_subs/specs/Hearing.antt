-- The values that a connection is notified of (Core 5.0, Vol 3 Part G, 3.3.3.3).
use Rattle.std.specs.Prelude.{◌+◌, ℕ, Bool, true, false, ◌==◌, ◌&&◌, not, List}
use Rattle.std.specs.Int.RustNames.{bit_and}
use Rattle.std.specs.Option.{option_map_or}
use Rattle.att_numbers.specs.Types.{Handle, Row}
use Rattle.att_policy.specs.declared.standing.Standing.{Standing}
use Rattle.att_policy.specs.declared.guard.TheConstants.{INDICATION}
use Rattle.att_policy.specs.Policy.{may_hear_of}
use Rattle.att_attributes.specs.declared.attr.Attr.{Attr}
use Rattle.att_attributes.specs.Attributes.{attribute_at, is_value}
use Rattle.att_table.specs.ConfigRow.{bits_at}
use Rattle.gatt_subs.specs.declared.hearing.Telling.{Telling}
use Rattle.gatt_subs.specs.declared.hearing.Telling.TheVariants.{Notification, Indication}

-- The configuration of a value is one handle after it.
abbrev pub bits_for : Row → Handle → ℕ
bits_for row handle = bits_at row (handle + 1)

abbrev pub wants_indications : Row → Handle → Bool
wants_indications row handle = not (bit_and (bits_for row handle) INDICATION == 0)

-- Only characteristic values are notified.
abbrev pub may_hear_at : List Attr → Row → Standing → Handle → Bool
may_hear_at attributes row standing handle =
    option_map_or
    (λ (attr : Attr). is_value attr.role && may_hear_of attr.guard (bits_for row handle) standing)
    (attribute_at attributes handle) false

abbrev pub is_indication : Telling → Bool
is_indication Notification = false
is_indication Indication = true

-- The connection may be notified of the value and requested indications.
abbrev pub is_indicated : List Attr → Row → Standing → Handle → Bool
is_indicated attributes row standing handle =
    may_hear_at attributes row standing handle && wants_indications row handle
