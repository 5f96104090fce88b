-- The server's answer to a use of an attribute, with the reason of a refusal (this profile's own).
use Rattle.std.specs.Prelude.{ℕ, ◌+◌, ◌==◌, ◌&&◌, Bool, true, false, not, if◌then◌else◌, List, Option, Some, None, Result, Ok, Err}
use Rattle.std.specs.Int.RustNames.{bit_and}
use Rattle.std.specs.Option.{option_map_or}
use Rattle.att_numbers.specs.Types.{Code, Handle}
use Rattle.att_numbers.specs.declared.error_code.TheConstants.{INVALID_HANDLE}
use Rattle.att_policy.specs.Policy.{configuration_bits_of, first_broken_of, first_unmet_rule_of}
use Rattle.att_policy.specs.Refusal.{Refusal}
use Rattle.att_policy.specs.declared.policy.Access.TheVariants.{Read, Write, Command}
use Rattle.att_policy.specs.declared.policy.Rule.{Rule}
use Rattle.att_policy.specs.declared.policy.Rule.TheVariants.{HandleExists, Property}
use Rattle.att_policy.specs.declared.standing.Standing.{Standing}
use Rattle.att_attributes.specs.declared.attr.Attr.{Attr}
use Rattle.att_attributes.specs.Attributes.{attribute_at, configuration_bits_at, guard_at, is_configuration_at, is_value}
use Rattle.att_writes.specs.Applied.{Stored}
use Rattle.policy_rights.specs.declared.rights.Right.{Right}
use Rattle.att_policy.specs.declared.guard.TheConstants.{INDICATION}
use Rattle.policy_rights.specs.declared.rights.TheConstants.{NOTIFICATION}
use Rattle.policy_rights.specs.Needs.{is_notified_or_indicated}
use Rattle.policy_rights.specs.Rights.{subscribed}
use Rattle.policy_words.specs.declared.may.verdict.Verdict.{Verdict}
use Rattle.policy_words.specs.declared.may.verdict.Verdict.TheVariants.{Yes, Refused, NoConfiguration, NoSubscription, Silent}

abbrev pub is_yes : Verdict → Bool
is_yes Yes = true
is_yes _ = false

-- An access is refused by the first rule that it breaks.
abbrev pub access_verdict : Option (Rule × Code) → Verdict
access_verdict None = Yes
access_verdict (Some broken) = Refused broken.0 broken.1

abbrev pub missing : Verdict
missing = Refused HandleExists INVALID_HANDLE

-- A subscribed value is sent if the connection meets the requirements for reading.
abbrev pub sent_verdict : Option Rule → Verdict
sent_verdict None = Yes
sent_verdict (Some rule) = Silent rule

abbrev pub has_bit : Attr → ℕ → Bool
has_bit attr bit = not (bit_and bit (configuration_bits_of attr.guard.properties) == 0)

-- Only a value with the property is sent.
abbrev pub sending_answer : Standing → ℕ → Attr → Verdict
sending_answer standing bit attr =
    if is_value attr.role && has_bit attr bit
    then sent_verdict (first_unmet_rule_of attr.guard.read standing)
    else Silent Property

abbrev pub sending_verdict : List Attr → Standing → Handle → ℕ → Verdict
sending_verdict attributes standing handle bit =
    option_map_or (sending_answer standing bit) (attribute_at attributes handle) missing

-- The first rule that a write breaks.
abbrev pub broken_by_write : List Attr → Standing → Handle → Option (Rule × Code)
broken_by_write attributes standing handle =
    first_broken_of Write (guard_at attributes handle) standing

-- The server refuses a configuration by the first rule that the write breaks.
abbrev pub refused_rule : Option (Rule × Code) → Rule
refused_rule None = Property
refused_rule (Some broken) = broken.0

abbrev pub verdict_after : Option (Rule × Code) → Result Stored Refusal → Verdict
verdict_after broken (Err refusal) =
    NoSubscription refusal.handle (refused_rule broken) refusal.code
verdict_after broken (Ok stored) = Yes

abbrev pub without_configuration : Option Attr → Verdict
without_configuration None = missing
without_configuration (Some attr) = NoConfiguration

-- A client subscribes to a value by the write of all bits of the configuration after it.
abbrev pub subscription_verdict : List Attr → Standing → Handle → Verdict
subscription_verdict attributes standing handle =
    if is_configuration_at attributes (handle + 1)
    && not (configuration_bits_at attributes (handle + 1) == 0)
    then verdict_after (broken_by_write attributes standing (handle + 1))
    (subscribed attributes standing handle (configuration_bits_at attributes (handle + 1)))
    else without_configuration (attribute_at attributes handle)

-- The same as tests of an attribute and of the configuration after it.
abbrev pub write_verdict : Handle → Option (Rule × Code) → Verdict
write_verdict handle (Some broken) = NoSubscription handle broken.0 broken.1
write_verdict handle None = Yes

abbrev pub subscription_answer : List Attr → Standing → Attr → Handle → Verdict
subscription_answer attributes standing attr handle =
    if is_notified_or_indicated attr.guard.properties && is_configuration_at attributes handle
    then write_verdict handle (broken_by_write attributes standing handle)
    else NoConfiguration

abbrev pub verdict_of : List Attr → Standing → Handle → Right → Verdict
verdict_of attributes standing handle Right.Read =
    access_verdict (first_broken_of Read (guard_at attributes handle) standing)
verdict_of attributes standing handle Right.Write =
    access_verdict (first_broken_of Write (guard_at attributes handle) standing)
verdict_of attributes standing handle Right.Command =
    access_verdict (first_broken_of Command (guard_at attributes handle) standing)
verdict_of attributes standing handle Right.Notify =
    sending_verdict attributes standing handle NOTIFICATION
verdict_of attributes standing handle Right.Indicate =
    sending_verdict attributes standing handle INDICATION
verdict_of attributes standing handle Right.Subscribe =
    subscription_verdict attributes standing handle
