-- Whom the server sends a value, and on what rights depend.
use Rattle.std.proofs.Common.{◌≡◌, ℕ, zero, suc, ◌+◌, ◌≤◌, Bool, true, false, ◌==◌, ◌&&◌, ◌||◌, List, Option, Some, None, if◌then◌else◌, refl, sym, ap, arith, ◌∙◌}
use Rattle.std.specs.Prelude.{is_none, nat_le, nat_lt, not}
use Rattle.std.specs.Int.RustNames.{bit_and}
use Rattle.std.specs.List.{find}
use Rattle.std.specs.Option.{option_map, option_map_or}
use Rattle.std.proofs.lemmas.Bool.Decides.{nat_tests}
use Rattle.att_policy.specs.declared.guard.Guard.{Guard}
use Rattle.att_policy.specs.declared.guard.Need.{Need}
use Rattle.att_policy.specs.declared.policy.Access.{Access}
use Rattle.att_policy.specs.declared.policy.Access.TheVariants.{Read, Write, Command}
use Rattle.att_policy.specs.declared.policy.Rule.{Rule}
use Rattle.att_policy.specs.declared.policy.Rule.TheVariants.{HandleExists, Property, Encryption, Authentication, KeySize, SecureConnections, Authorization}
use Rattle.att_policy.specs.declared.standing.Standing.{Standing}
use Rattle.att_policy.specs.declared.guard.TheConstants.Properties.{NOTIFY, INDICATE}
use Rattle.att_policy.specs.Policy.{code_of, configuration_bits_of, first_broken_of, first_broken_rule_of, first_unmet_rule_of, has_property, is_broken, is_unmet, may_hear_of, need_of, rules_in_order, rules_of_need}
use Rattle.att_attributes.specs.declared.attr.Attr.{Attr}
use Rattle.att_attributes.specs.Attributes.{attribute_at, configuration_bits_at, guard_at, is_configuration_at, is_value}
use Rattle.gatt_subs.specs.Hearing.{bits_for}
use Rattle.policy_rights.specs.declared.rights.Right.{Right}
use Rattle.att_policy.specs.declared.guard.TheConstants.{INDICATION}
use Rattle.policy_rights.specs.declared.rights.TheConstants.{NOTIFICATION}
use Rattle.policy_rights.specs.Laws.{DependsOnKeyAndTime, SendsByRights, asks_for, is_authorized_now}
use Rattle.policy_rights.specs.Rights.{is_sent, is_sent_of, standing_with_key, subscribes_of}
use Rattle.policy_rights.proofs.Subscribing.{sent, tested}

-- each way that a row of at most both bits can ask
by_bits : (bits : ℕ) → bits ≤ 3 → (notify indicate met : Bool)
    → not (bit_and bits ((if notify then 1 else 0) + (if indicate then 2 else 0)) == 0) && met
    ≡ (not (bit_and bits 1 == 0) && (not (bit_and 1 ((if notify then 1 else 0) + (if indicate then 2 else 0)) == 0) && met))
    || (not (bit_and bits 2 == 0) && (not (bit_and 2 ((if notify then 1 else 0) + (if indicate then 2 else 0)) == 0) && met))
by_bits zero most true true true = refl
by_bits zero most true true false = refl
by_bits zero most true false true = refl
by_bits zero most true false false = refl
by_bits zero most false true true = refl
by_bits zero most false true false = refl
by_bits zero most false false true = refl
by_bits zero most false false false = refl
by_bits (suc zero) most true true true = refl
by_bits (suc zero) most true true false = refl
by_bits (suc zero) most true false true = refl
by_bits (suc zero) most true false false = refl
by_bits (suc zero) most false true true = refl
by_bits (suc zero) most false true false = refl
by_bits (suc zero) most false false true = refl
by_bits (suc zero) most false false false = refl
by_bits (suc (suc zero)) most true true true = refl
by_bits (suc (suc zero)) most true true false = refl
by_bits (suc (suc zero)) most true false true = refl
by_bits (suc (suc zero)) most true false false = refl
by_bits (suc (suc zero)) most false true true = refl
by_bits (suc (suc zero)) most false true false = refl
by_bits (suc (suc zero)) most false false true = refl
by_bits (suc (suc zero)) most false false false = refl
by_bits (suc (suc (suc zero))) most true true true = refl
by_bits (suc (suc (suc zero))) most true true false = refl
by_bits (suc (suc (suc zero))) most true false true = refl
by_bits (suc (suc (suc zero))) most true false false = refl
by_bits (suc (suc (suc zero))) most false true true = refl
by_bits (suc (suc (suc zero))) most false true false = refl
by_bits (suc (suc (suc zero))) most false false true = refl
by_bits (suc (suc (suc zero))) most false false false = refl
by_bits (suc (suc (suc (suc more)))) most notify indicate met = absurd (omega (arith, most))

both_false : (one other : Bool) → false ≡ (one && false) || (other && false)
both_false true true = refl
both_false true false = refl
both_false false true = refl
both_false false false = refl

by_value : (attr : Attr) (standing : Standing) (bits : ℕ) → bits ≤ 3 → (is_a_value : Bool)
    → is_a_value && may_hear_of attr.guard bits standing
    ≡ (not (bit_and bits NOTIFICATION == 0) && (is_a_value && may_hear_of attr.guard NOTIFICATION standing))
    || (not (bit_and bits INDICATION == 0) && (is_a_value && may_hear_of attr.guard INDICATION standing))
by_value attr standing bits few true =
    by_bits bits few (has_property attr.guard.properties NOTIFY) (has_property attr.guard.properties INDICATE)
    (is_none (first_unmet_rule_of attr.guard.read standing))
by_value attr standing bits few false = both_false (not (bit_and bits NOTIFICATION == 0)) (not (bit_and bits INDICATION == 0))

by_attribute : (standing : Standing) (bits : ℕ) → bits ≤ 3 → (found : Option Attr)
    → option_map_or (λ (attr : Attr). is_value attr.role && may_hear_of attr.guard bits standing) found false
    ≡ (not (bit_and bits NOTIFICATION == 0) && option_map_or (λ (attr : Attr). is_sent attr standing NOTIFICATION) found false)
    || (not (bit_and bits INDICATION == 0) && option_map_or (λ (attr : Attr). is_sent attr standing INDICATION) found false)
by_attribute standing bits few None = both_false (not (bit_and bits NOTIFICATION == 0)) (not (bit_and bits INDICATION == 0))
by_attribute standing bits few (Some attr) = by_value attr standing bits few (is_value attr.role)

pub sends_by_rights : SendsByRights
sends_by_rights attributes row standing handle few =
    by_attribute standing (bits_for row handle) few (attribute_at attributes handle)
    ∙ ap (λ (it : Bool). (asks_for row handle NOTIFICATION && it) || (asks_for row handle INDICATION && option_map_or (λ (attr : Attr). is_sent attr standing INDICATION) (attribute_at attributes handle) false))
    (sym (sent attributes standing handle NOTIFICATION))
    ∙ ap (λ (it : Bool). (asks_for row handle NOTIFICATION && is_sent_of attributes standing handle NOTIFICATION) || (asks_for row handle INDICATION && it))
    (sym (sent attributes standing handle INDICATION))

-- a rule looks at the key and at whether the authorization has ended
late : (until now : ℕ) (test : Bool) → nat_lt now until ≡ test → nat_le until now ≡ nat_le (if test then 1 else 0) 0
late until now true is = grind (arith, nat_tests, is)
late until now false is = grind (arith, nat_tests, is)

same_rule : (need : Need) (standing : Standing) (rule : Rule)
    → is_unmet need standing rule ≡ is_unmet need (standing_with_key standing.key (is_authorized_now standing)) rule
same_rule need standing HandleExists = refl
same_rule need standing Property = refl
same_rule need standing Encryption = refl
same_rule need standing Authentication = refl
same_rule need standing KeySize = refl
same_rule need standing SecureConnections = refl
same_rule need standing Authorization =
    ap (λ (it : Bool). need.authorized && it) (late standing.until standing.now (nat_lt standing.now standing.until) refl)

same_access_rule : (access : Access) (guard : Option Guard) (standing : Standing) (rule : Rule)
    → is_broken access guard standing rule
    ≡ is_broken access guard (standing_with_key standing.key (is_authorized_now standing)) rule
same_access_rule access None standing HandleExists = refl
same_access_rule access None standing Property = refl
same_access_rule access None standing Encryption = refl
same_access_rule access None standing Authentication = refl
same_access_rule access None standing KeySize = refl
same_access_rule access None standing SecureConnections = refl
same_access_rule access None standing Authorization = refl
same_access_rule access (Some guard) standing HandleExists = refl
same_access_rule access (Some guard) standing Property = refl
same_access_rule access (Some guard) standing Encryption = refl
same_access_rule access (Some guard) standing Authentication = refl
same_access_rule access (Some guard) standing KeySize = refl
same_access_rule access (Some guard) standing SecureConnections = refl
same_access_rule access (Some guard) standing Authorization =
    ap (λ (it : Bool). (need_of access guard).authorized && it)
    (late standing.until standing.now (nat_lt standing.now standing.until) refl)

none_mapped : {X Y : Type 0} (f : X → Y) (found : Option X) → is_none (option_map f found) ≡ is_none found
none_mapped f None = refl
none_mapped f (Some x) = refl

same_access : (access : Access) (guard : Option Guard) (standing : Standing)
    → is_none (first_broken_of access guard standing)
    ≡ is_none (first_broken_of access guard (standing_with_key standing.key (is_authorized_now standing)))
same_access access guard standing =
    let other : Standing = standing_with_key standing.key (is_authorized_now standing) in
    none_mapped (λ (rule : Rule). (rule, code_of access standing rule)) (first_broken_rule_of access guard standing)
    ∙ (λ i. is_none (find (λ (rule : Rule). same_access_rule access guard standing rule i) rules_in_order))
    ∙ sym (none_mapped (λ (rule : Rule). (rule, code_of access other rule)) (first_broken_rule_of access guard other))

same_sending : (attributes : List Attr) (standing : Standing) (handle bit : ℕ)
    → is_sent_of attributes standing handle bit
    ≡ is_sent_of attributes (standing_with_key standing.key (is_authorized_now standing)) handle bit
same_sending attributes standing handle bit =
    sent attributes standing handle bit
    ∙ (λ i. option_map_or (λ (attr : Attr). is_value attr.role
    && (not (bit_and bit (configuration_bits_of attr.guard.properties) == 0)
    && is_none (find (λ (rule : Rule). same_rule attr.guard.read standing rule i) rules_of_need))) (attribute_at attributes handle) false)
    ∙ sym (sent attributes (standing_with_key standing.key (is_authorized_now standing)) handle bit)

same_subscribing : (attributes : List Attr) (standing : Standing) (handle : ℕ)
    → subscribes_of attributes standing handle
    ≡ subscribes_of attributes (standing_with_key standing.key (is_authorized_now standing)) handle
same_subscribing attributes standing handle =
    tested attributes standing handle
    ∙ ap (λ (it : Bool). is_configuration_at attributes (handle + 1) && (it && not (configuration_bits_at attributes (handle + 1) == 0)))
    (same_access Write (guard_at attributes (handle + 1)) standing)
    ∙ sym (tested attributes (standing_with_key standing.key (is_authorized_now standing)) handle)

pub depends_on_key_and_time : DependsOnKeyAndTime
depends_on_key_and_time attributes standing handle Right.Read = same_access Read (guard_at attributes handle) standing
depends_on_key_and_time attributes standing handle Right.Write = same_access Write (guard_at attributes handle) standing
depends_on_key_and_time attributes standing handle Right.Command = same_access Command (guard_at attributes handle) standing
depends_on_key_and_time attributes standing handle Right.Notify = same_sending attributes standing handle NOTIFICATION
depends_on_key_and_time attributes standing handle Right.Indicate = same_sending attributes standing handle INDICATION
depends_on_key_and_time attributes standing handle Right.Subscribe = same_subscribing attributes standing handle
