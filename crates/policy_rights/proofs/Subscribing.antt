-- What the server sends and accepts, by the tests of the code.
use Rattle.std.proofs.Common.{◌≡◌, ℕ, ◌+◌, ◌-◌, Bool, true, false, ◌==◌, ◌&&◌, List, [], ◌∷◌, Option, Some, None, Ok, if◌then◌else◌, length, refl, arith, ap, ◌∙◌}
use Rattle.std.specs.Prelude.{◌||◌, is_none, not}
use Rattle.std.specs.Int.RustNames.{bit_and}
use Rattle.std.specs.Option.{option_map_or}
use Rattle.std.proofs.lemmas.Bool.Decides.{nat_tests}
use Rattle.att_numbers.specs.Types.{Code, Values}
use Rattle.att_numbers.specs.declared.error_code.TheConstants.{OUT_OF_RANGE}
use Rattle.att_policy.specs.declared.policy.Access.TheVariants.{Write}
use Rattle.att_policy.specs.declared.policy.Rule.{Rule}
use Rattle.att_policy.specs.declared.standing.Standing.{Standing}
use Rattle.att_policy.specs.declared.guard.TheConstants.Properties.{NOTIFY, INDICATE}
use Rattle.att_policy.specs.Policy.{configuration_bits_of, first_broken_of, has_property, may_hear_of}
use Rattle.att_attributes.specs.declared.attr.Attr.{Attr}
use Rattle.att_attributes.specs.Attributes.{attribute_at, configuration_bits_at, guard_at, is_configuration_at, is_value}
use Rattle.att_table.specs.Table.{value_at}
use Rattle.att_writes.specs.Applied.{after_entries, unless_entry_refused}
use Rattle.att_writes.specs.Entry.{Entry, whole_value}
use Rattle.att_writes.specs.Fault.{unless_broken, value_fault}
use Rattle.gatt_subs.specs.Hearing.{bits_for}
use Rattle.policy_rights.specs.Needs.{is_notified_or_indicated}
use Rattle.policy_rights.specs.Rights.{is_sent, is_sent_of, is_subscribed_by, row_for, subscribes_at, subscribes_of}

pub same_bits : (handle bits : ℕ) → bits_for (row_for handle bits) handle ≡ bits
same_bits handle bits = grind (arith, nat_tests)

by_found : (standing : Standing) (bits wanted : ℕ) (found : Option Attr) → wanted ≡ bits
    → option_map_or (λ (attr : Attr). is_value attr.role && may_hear_of attr.guard wanted standing) found false
    ≡ option_map_or (λ (attr : Attr). is_sent attr standing bits) found false
by_found standing bits wanted None is = refl
by_found standing bits wanted (Some attr) is = ap (λ (it : ℕ). is_value attr.role && may_hear_of attr.guard it standing) is

-- the bits of the row are those asked for
pub sent : (attributes : List Attr) (standing : Standing) (handle bits : ℕ)
    → is_sent_of attributes standing handle bits
    ≡ option_map_or (λ (attr : Attr). is_sent attr standing bits) (attribute_at attributes handle) false
sent attributes standing handle bits =
    by_found standing bits (bits_for (row_for handle bits) handle) (attribute_at attributes handle) (same_bits handle bits)

-- the bits of the properties are allowed, and some if there is a property
all_allowed : (notify indicate : Bool)
    → (bit_and ((if notify then 1 else 0) + (if indicate then 2 else 0)) ((if notify then 1 else 0) + (if indicate then 2 else 0))
    == (if notify then 1 else 0) + (if indicate then 2 else 0)) ≡ true
all_allowed true true = refl
all_allowed true false = refl
all_allowed false true = refl
all_allowed false false = refl

pub some_allowed : (notify indicate : Bool) → not ((if notify then 1 else 0) + (if indicate then 2 else 0) == 0) ≡ (notify || indicate)
some_allowed true true = refl
some_allowed true false = refl
some_allowed false true = refl
some_allowed false false = refl

-- the answer to the write, by the test of the configuration, the first broken rule and the test of the bits
by_tests : (handle bits : ℕ) (entry : Entry) (values : Values) (is_configuration : Bool)
    (broken : Option (Rule × Code)) (fault : Option Code) (allowed : Bool) → allowed ≡ true
    → is_subscribed_by handle
    (unless_entry_refused entry
    (unless_broken broken (if is_configuration then (if allowed && true then None else Some OUT_OF_RANGE) else fault))
    (Ok (if is_configuration then record { values = []; row = row_for handle bits } else record { values = values; row = [] })))
    ≡ is_configuration && (is_none broken && not (bits_for (row_for handle bits) handle == 0))
by_tests handle bits entry values true (Some rule) fault allowed is = refl
by_tests handle bits entry values true None fault true is = refl
by_tests handle bits entry values true None fault false is = cc is
by_tests handle bits entry values false (Some rule) fault allowed is = refl
by_tests handle bits entry values false None (Some code) allowed is = refl
by_tests handle bits entry values false None None allowed is = refl

pub allowed_of : (found : Option Attr)
    → (bit_and (option_map_or (λ (attr : Attr). configuration_bits_of attr.guard.properties) found 0)
    (option_map_or (λ (attr : Attr). configuration_bits_of attr.guard.properties) found 0)
    == option_map_or (λ (attr : Attr). configuration_bits_of attr.guard.properties) found 0) ≡ true
allowed_of None = refl
allowed_of (Some attr) = all_allowed (has_property attr.guard.properties NOTIFY) (has_property attr.guard.properties INDICATE)

pub tested : (attributes : List Attr) (standing : Standing) (handle : ℕ)
    → subscribes_of attributes standing handle
    ≡ is_configuration_at attributes (handle + 1)
    && (is_none (first_broken_of Write (guard_at attributes (handle + 1)) standing)
    && not (configuration_bits_at attributes (handle + 1) == 0))
unfolding subscribes_of after_entries
tested attributes standing handle =
    let bits : ℕ = configuration_bits_at attributes (handle + 1) in
    by_tests handle bits (whole_value (handle + 1) (bits ∷ 0 ∷ [])) _ (is_configuration_at attributes (handle + 1))
    (first_broken_of Write (guard_at attributes (handle + 1)) standing)
    (value_fault attributes (length (value_at [] (handle + 1))) (whole_value (handle + 1) (bits ∷ 0 ∷ [])))
    (bit_and bits bits == bits) (allowed_of (attribute_at attributes ((handle + 1) - 1)))
    ∙ ap (λ (it : ℕ). is_configuration_at attributes (handle + 1)
    && (is_none (first_broken_of Write (guard_at attributes (handle + 1)) standing) && not (it == 0))) (same_bits handle bits)

pub before : (handle : ℕ) → (handle + 1) - 1 ≡ handle
before handle = omega arith

no_more : (one other : Bool) → one && (other && false) ≡ false
no_more true true = refl
no_more true false = refl
no_more false other = refl

by_attribute : (one other : Bool) (attributes : List Attr) (standing : Standing) (handle : ℕ) (found : Option Attr)
    → one && (other && not (option_map_or (λ (attr : Attr). configuration_bits_of attr.guard.properties) found 0 == 0))
    ≡ option_map_or (λ (attr : Attr). one && (other && is_notified_or_indicated attr.guard.properties)) found false
by_attribute one other attributes standing handle None = no_more one other
by_attribute one other attributes standing handle (Some attr) =
    ap (λ (it : Bool). one && (other && it))
    (some_allowed (has_property attr.guard.properties NOTIFY) (has_property attr.guard.properties INDICATE))

-- the configuration is after a value
pub subscribes : (attributes : List Attr) (standing : Standing) (handle : ℕ)
    → subscribes_of attributes standing handle
    ≡ option_map_or (λ (attr : Attr). subscribes_at attributes standing attr.guard (handle + 1)) (attribute_at attributes handle) false
subscribes attributes standing handle =
    let one : Bool = is_configuration_at attributes (handle + 1) in
    let other : Bool = is_none (first_broken_of Write (guard_at attributes (handle + 1)) standing) in
    tested attributes standing handle
    ∙ ap (λ (at : ℕ). one && (other && not (option_map_or (λ (attr : Attr). configuration_bits_of attr.guard.properties) (attribute_at attributes at) 0 == 0)))
    (before handle)
    ∙ by_attribute one other attributes standing handle (attribute_at attributes handle)
