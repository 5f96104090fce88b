-- The need of a right in a table (this profile's own).
use Rattle.std.specs.Prelude.{◌≡◌, ◌+◌, ◌&&◌, ◌==◌, Bool, true, false, List, Option, Some, None}
use Rattle.std.specs.Bool.{beq}
use Rattle.att_numbers.specs.Types.{Handle}
use Rattle.att_policy.specs.Need.{needs_encryption_of, needs_authentication_of, key_size_of}
use Rattle.att_policy.specs.Policy.{has_property}
use Rattle.att_policy.specs.declared.guard.Guard.{Guard}
use Rattle.att_policy.specs.declared.guard.Need.{Need}
use Rattle.att_policy.specs.declared.guard.TheConstants.Properties.{READ, WRITE, WRITE_WITHOUT_RESPONSE, NOTIFY, INDICATE}
use Rattle.att_policy.specs.declared.standing.Standing.{Standing}
use Rattle.att_attributes.specs.declared.attr.Attr.{Attr}
use Rattle.att_attributes.specs.Attributes.{attribute_at, guard_at, is_configuration_at, is_value}
use Rattle.policy_rights.specs.Needs.{is_notified_or_indicated}
use Rattle.policy_rights.specs.Rights.{may_of}
use Rattle.policy_rights.specs.declared.rights.Right.{Right}
use Rattle.policy_expectations.specs.Meant.{is_meant}

abbrev pub needed_if : Bool → Need → Option Need
needed_if true need = Some need
needed_if false need = None

abbrev pub written_need : Option Guard → Option Need
written_need None = None
written_need (Some guard) = needed_if (has_property guard.properties WRITE) guard.write

-- The need for writing the configuration after a value, if there is one.
abbrev pub need_of_configuration : Bool → Option Guard → Option Need
need_of_configuration true guard = written_need guard
need_of_configuration false guard = None

abbrev pub need_of_right : List Attr → Handle → Right → Option Attr → Option Need
need_of_right attributes next right None = None
need_of_right attributes next Right.Read (Some attr) =
    needed_if (has_property attr.guard.properties READ) attr.guard.read
need_of_right attributes next Right.Write (Some attr) =
    needed_if (has_property attr.guard.properties WRITE) attr.guard.write
need_of_right attributes next Right.Command (Some attr) =
    needed_if (has_property attr.guard.properties WRITE_WITHOUT_RESPONSE) attr.guard.write
need_of_right attributes next Right.Notify (Some attr) =
    needed_if (is_value attr.role && has_property attr.guard.properties NOTIFY) attr.guard.read
need_of_right attributes next Right.Indicate (Some attr) =
    needed_if (is_value attr.role && has_property attr.guard.properties INDICATE) attr.guard.read
need_of_right attributes next Right.Subscribe (Some attr) =
    need_of_configuration
    (is_configuration_at attributes next && is_notified_or_indicated attr.guard.properties)
    (guard_at attributes next)

-- The need that a connection has to meet for a right; without one nobody has the right.
abbrev pub need_for : List Attr → Handle → Right → Option Need
need_for attributes handle right =
    need_of_right attributes (handle + 1) right (attribute_at attributes handle)

-- Each connection has a right exactly if it meets the need.
abbrev pub IsNeedFor : Type 0
IsNeedFor =
    (attributes : List Attr) (standing : Standing) (handle : Handle) (right : Right)
    → may_of attributes standing handle right
    ≡ is_meant (need_for attributes handle right) standing

-- Needs with equal parts, the implied ones too.
abbrev pub same_need : Need → Need → Bool
same_need one other =
    beq (needs_encryption_of one) (needs_encryption_of other)
    && (beq (needs_authentication_of one) (needs_authentication_of other)
    && ((key_size_of one == key_size_of other)
    && (beq one.secure other.secure && beq one.authorized other.authorized)))

abbrev pub is_same_need : Option Need → Option Need → Bool
is_same_need None None = true
is_same_need None (Some other) = false
is_same_need (Some one) None = false
is_same_need (Some one) (Some other) = same_need one other
