-- The server's answer to a subscription, by the tests of the code.
use Rattle.std.proofs.Common.{◌≡◌, ℕ, ◌+◌, ◌-◌, Bool, true, false, ◌==◌, ◌&&◌, List, [], ◌∷◌, Option, Some, None, Ok, if◌then◌else◌, length, refl, ap, ◌∙◌}
use Rattle.std.specs.Prelude.{not}
use Rattle.std.specs.Int.RustNames.{bit_and}
use Rattle.std.specs.Option.{option_map_or}
use Rattle.att_numbers.specs.Types.{Code}
use Rattle.att_numbers.specs.declared.error_code.TheConstants.{OUT_OF_RANGE}
use Rattle.att_policy.specs.declared.policy.Rule.{Rule}
use Rattle.att_policy.specs.declared.standing.Standing.{Standing}
use Rattle.att_policy.specs.declared.guard.TheConstants.Properties.{NOTIFY, INDICATE}
use Rattle.att_policy.specs.Policy.{configuration_bits_of, has_property}
use Rattle.att_attributes.specs.declared.attr.Attr.{Attr}
use Rattle.att_attributes.specs.Attributes.{attribute_at, configuration_bits_at, is_configuration_at}
use Rattle.att_table.specs.Table.{value_at}
use Rattle.att_writes.specs.Applied.{Stored, after_entries, unless_entry_refused}
use Rattle.att_writes.specs.Entry.{Entry, whole_value}
use Rattle.att_writes.specs.Fault.{unless_broken, value_fault}
use Rattle.policy_rights.specs.Needs.{is_notified_or_indicated}
use Rattle.policy_rights.proofs.Subscribing.{allowed_of, before, some_allowed}
use Rattle.policy_words.specs.declared.may.verdict.Verdict.{Verdict}
use Rattle.policy_words.specs.declared.may.verdict.Verdict.TheVariants.{NoConfiguration}
use Rattle.policy_words.specs.may.Verdict.{broken_by_write, missing, subscription_answer, subscription_verdict, verdict_after, without_configuration, write_verdict}

-- the answer to the write, by the test of the configuration, the first broken rule and the test of the bits
by_tests : (entry : Entry) (with_bits without : Stored) (is_configuration some allowed : Bool) → allowed ≡ true
    → (broken : Option (Rule × Code)) (fault : Option Code) (otherwise : Verdict)
    → (if is_configuration && some
    then verdict_after broken
    (unless_entry_refused entry
    (unless_broken broken (if is_configuration then (if allowed && true then None else Some OUT_OF_RANGE) else fault))
    (Ok (if is_configuration then with_bits else without)))
    else otherwise)
    ≡ (if is_configuration && some then write_verdict entry.handle broken else otherwise)
by_tests entry with_bits without false some allowed is broken fault otherwise = refl
by_tests entry with_bits without true false allowed is broken fault otherwise = refl
by_tests entry with_bits without true true allowed is (Some rule) fault otherwise = refl
by_tests entry with_bits without true true true is None fault otherwise = refl
by_tests entry with_bits without true true false is None fault otherwise = cc is

tested : (attributes : List Attr) (standing : Standing) (handle : ℕ) → subscription_verdict attributes standing handle
    ≡ (if is_configuration_at attributes (handle + 1) && not (configuration_bits_at attributes (handle + 1) == 0)
    then write_verdict (handle + 1) (broken_by_write attributes standing (handle + 1))
    else without_configuration (attribute_at attributes handle))
unfolding after_entries
tested attributes standing handle =
    let bits : ℕ = configuration_bits_at attributes (handle + 1) in
    by_tests (whole_value (handle + 1) (bits ∷ 0 ∷ [])) _ _ (is_configuration_at attributes (handle + 1)) (not (bits == 0))
    (bit_and bits bits == bits) (allowed_of (attribute_at attributes ((handle + 1) - 1)))
    (broken_by_write attributes standing (handle + 1))
    (value_fault attributes (length (value_at [] (handle + 1))) (whole_value (handle + 1) (bits ∷ 0 ∷ [])))
    (without_configuration (attribute_at attributes handle))

none_there : (is_configuration : Bool) (verdict : Verdict) → (if is_configuration && false then verdict else missing) ≡ missing
none_there true verdict = refl
none_there false verdict = refl

either_way : (one other : Bool) (verdict : Verdict)
    → (if one && other then verdict else NoConfiguration) ≡ (if other && one then verdict else NoConfiguration)
either_way true true verdict = refl
either_way true false verdict = refl
either_way false true verdict = refl
either_way false false verdict = refl

by_attribute : (attributes : List Attr) (standing : Standing) (handle : ℕ) (found : Option Attr)
    → (if is_configuration_at attributes (handle + 1)
    && not (option_map_or (λ (attr : Attr). configuration_bits_of attr.guard.properties) found 0 == 0)
    then write_verdict (handle + 1) (broken_by_write attributes standing (handle + 1))
    else without_configuration found)
    ≡ option_map_or (λ (attr : Attr). subscription_answer attributes standing attr (handle + 1)) found missing
by_attribute attributes standing handle None =
    none_there (is_configuration_at attributes (handle + 1)) (write_verdict (handle + 1) (broken_by_write attributes standing (handle + 1)))
by_attribute attributes standing handle (Some attr) =
    ap (λ (some : Bool). if is_configuration_at attributes (handle + 1) && some
    then write_verdict (handle + 1) (broken_by_write attributes standing (handle + 1)) else NoConfiguration)
    (some_allowed (has_property attr.guard.properties NOTIFY) (has_property attr.guard.properties INDICATE))
    ∙ either_way (is_configuration_at attributes (handle + 1)) (is_notified_or_indicated attr.guard.properties)
    (write_verdict (handle + 1) (broken_by_write attributes standing (handle + 1)))

-- the configuration is after an attribute
pub subscription : (attributes : List Attr) (standing : Standing) (handle : ℕ) → subscription_verdict attributes standing handle
    ≡ option_map_or (λ (attr : Attr). subscription_answer attributes standing attr (handle + 1)) (attribute_at attributes handle) missing
subscription attributes standing handle =
    tested attributes standing handle
    ∙ ap (λ (at : ℕ).
    if is_configuration_at attributes (handle + 1)
    && not (option_map_or (λ (attr : Attr). configuration_bits_of attr.guard.properties) (attribute_at attributes at) 0 == 0)
    then write_verdict (handle + 1) (broken_by_write attributes standing (handle + 1))
    else without_configuration (attribute_at attributes handle)) (before handle)
    ∙ by_attribute attributes standing handle (attribute_at attributes handle)
