-- A right is its need, and equal needs are met by the same connections.
use Rattle.std.proofs.Common.{◌≡◌, ℕ, Bool, true, false, ◌&&◌, List, [], ◌∷◌, Option, Some, None, refl, ap, arith, ◌∙◌}
use Rattle.std.specs.Prelude.{◌==◌, ◌+◌, cond, is_none, nat_le, nat_lt, not, if◌then◌else◌}
use Rattle.std.specs.Bool.{beq}
use Rattle.std.specs.Int.RustNames.{bit_and}
use Rattle.std.specs.List.{find, list_any}
use Rattle.std.specs.Option.{option_map, option_map_or}
use Rattle.std.proofs.lemmas.Bool.Decides.{nat_tests}
use Rattle.att_numbers.specs.Types.{Handle}
use Rattle.att_policy.specs.declared.guard.Guard.{Guard}
use Rattle.att_policy.specs.declared.guard.Need.{Need}
use Rattle.att_policy.specs.declared.guard.TheConstants.Properties.{NOTIFY, INDICATE}
use Rattle.att_policy.specs.declared.policy.Access.{Access}
use Rattle.att_policy.specs.declared.policy.Access.TheVariants.{Read, Write, Command}
use Rattle.att_policy.specs.declared.policy.Rule.{Rule}
use Rattle.att_policy.specs.declared.policy.Rule.TheVariants.{HandleExists, Property, Encryption, Authentication, KeySize, SecureConnections, Authorization}
use Rattle.att_policy.specs.declared.standing.KeyFacts.{KeyFacts}
use Rattle.att_policy.specs.declared.standing.Standing.{Standing}
use Rattle.att_policy.specs.Need.{needs_encryption_of, needs_authentication_of, key_size_of}
use Rattle.att_policy.specs.Policy.{code_of, first_broken_of, first_broken_rule_of, first_unmet_rule_of, has_authenticated_key, has_property, has_secure_key, is_unmet, need_of, property_of, rules_of_need, size_of_key}
use Rattle.att_attributes.specs.declared.attr.Attr.{Attr}
use Rattle.att_attributes.specs.Attributes.{attribute_at, guard_at, is_configuration_at, is_value}
use Rattle.policy_rights.specs.declared.rights.Right.{Right}
use Rattle.policy_rights.specs.Held.{may_with}
use Rattle.policy_rights.specs.Needs.{is_notified_or_indicated}
use Rattle.policy_rights.specs.Rights.{is_sent, standing_with_key, subscribes_at}
use Rattle.policy_rights.proofs.Subscribing.{sent, subscribes}
use Rattle.policy_expectations.specs.Differences.{differs, kind_differs, right_differs}
use Rattle.policy_expectations.specs.Meant.{is_meant}
use Rattle.policy_expectations.specs.Needed.{IsNeedFor, need_of_configuration, is_same_need, need_for, need_of_right, needed_if, same_need, written_need}
use Rattle.policy_expectations.proofs.Holding.{first_true, neither_true, of_same, same_of, second_true}

none_mapped : {X Y : Type 0} (f : X → Y) (found : Option X) → is_none (option_map f found) ≡ is_none found
none_mapped f None = refl
none_mapped f (Some x) = refl

-- an access is permitted exactly if its need is met
by_property : (need : Need) (standing : Standing) (has : Bool)
    → is_none (cond (not has) (Some Property) (first_unmet_rule_of need standing)) ≡ is_meant (needed_if has need) standing
by_property need standing true = refl
by_property need standing false = refl

guarded : (access : Access) (guard : Guard) (standing : Standing)
    → is_none (first_broken_of access (Some guard) standing)
    ≡ is_meant (needed_if (has_property guard.properties (property_of access)) (need_of access guard)) standing
guarded access guard standing =
    none_mapped (λ (rule : Rule). (rule, code_of access standing rule)) (first_broken_rule_of access (Some guard) standing)
    ∙ by_property (need_of access guard) standing (has_property guard.properties (property_of access))

read : (attributes : List Attr) (next : ℕ) (standing : Standing) (found : Option Attr)
    → is_none (first_broken_of Read (option_map (λ (attr : Attr). attr.guard) found) standing) ≡ is_meant (need_of_right attributes next Right.Read found) standing
read attributes next standing None = refl
read attributes next standing (Some attr) = guarded Read attr.guard standing

write : (attributes : List Attr) (next : ℕ) (standing : Standing) (found : Option Attr)
    → is_none (first_broken_of Write (option_map (λ (attr : Attr). attr.guard) found) standing) ≡ is_meant (need_of_right attributes next Right.Write found) standing
write attributes next standing None = refl
write attributes next standing (Some attr) = guarded Write attr.guard standing

command : (attributes : List Attr) (next : ℕ) (standing : Standing) (found : Option Attr)
    → is_none (first_broken_of Command (option_map (λ (attr : Attr). attr.guard) found) standing) ≡ is_meant (need_of_right attributes next Right.Command found) standing
command attributes next standing None = refl
command attributes next standing (Some attr) = guarded Command attr.guard standing

-- a bit is allowed exactly by its property
notify_bit : (notify indicate : Bool) → not (bit_and 1 ((if notify then 1 else 0) + (if indicate then 2 else 0)) == 0) ≡ notify
notify_bit true true = refl
notify_bit true false = refl
notify_bit false true = refl
notify_bit false false = refl

indicate_bit : (notify indicate : Bool) → not (bit_and 2 ((if notify then 1 else 0) + (if indicate then 2 else 0)) == 0) ≡ indicate
indicate_bit true true = refl
indicate_bit true false = refl
indicate_bit false true = refl
indicate_bit false false = refl

is_sent_if : (need : Need) (standing : Standing) (is_a_value allowed : Bool)
    → is_a_value && (allowed && is_none (first_unmet_rule_of need standing)) ≡ is_meant (needed_if (is_a_value && allowed) need) standing
is_sent_if need standing true true = refl
is_sent_if need standing true false = refl
is_sent_if need standing false allowed = refl

notified : (attributes : List Attr) (next : ℕ) (standing : Standing) (found : Option Attr)
    → option_map_or (λ (attr : Attr). is_sent attr standing 1) found false ≡ is_meant (need_of_right attributes next Right.Notify found) standing
notified attributes next standing None = refl
notified attributes next standing (Some attr) =
    ap (λ (it : Bool). is_value attr.role && (it && is_none (first_unmet_rule_of attr.guard.read standing)))
    (notify_bit (has_property attr.guard.properties NOTIFY) (has_property attr.guard.properties INDICATE))
    ∙ is_sent_if attr.guard.read standing (is_value attr.role) (has_property attr.guard.properties NOTIFY)

indicated : (attributes : List Attr) (next : ℕ) (standing : Standing) (found : Option Attr)
    → option_map_or (λ (attr : Attr). is_sent attr standing 2) found false ≡ is_meant (need_of_right attributes next Right.Indicate found) standing
indicated attributes next standing None = refl
indicated attributes next standing (Some attr) =
    ap (λ (it : Bool). is_value attr.role && (it && is_none (first_unmet_rule_of attr.guard.read standing)))
    (indicate_bit (has_property attr.guard.properties NOTIFY) (has_property attr.guard.properties INDICATE))
    ∙ is_sent_if attr.guard.read standing (is_value attr.role) (has_property attr.guard.properties INDICATE)

written : (standing : Standing) (guard : Option Guard) → is_none (first_broken_of Write guard standing) ≡ is_meant (written_need guard) standing
written standing None = refl
written standing (Some guard) = guarded Write guard standing

configured : (standing : Standing) (guard : Option Guard) (there announced : Bool)
    → there && (is_none (first_broken_of Write guard standing) && announced) ≡ is_meant (need_of_configuration (there && announced) guard) standing
configured standing guard true true = and_true (is_none (first_broken_of Write guard standing)) ∙ written standing guard
  where
    and_true : (one : Bool) → one && true ≡ one
    and_true true = refl
    and_true false = refl
configured standing guard true false = and_false (is_none (first_broken_of Write guard standing))
  where
    and_false : (one : Bool) → one && false ≡ false
    and_false true = refl
    and_false false = refl
configured standing guard false announced = refl

subscribed_to : (attributes : List Attr) (next : ℕ) (standing : Standing) (found : Option Attr)
    → option_map_or (λ (attr : Attr). subscribes_at attributes standing attr.guard next) found false
    ≡ is_meant (need_of_right attributes next Right.Subscribe found) standing
subscribed_to attributes next standing None = refl
subscribed_to attributes next standing (Some attr) =
    configured standing (guard_at attributes next) (is_configuration_at attributes next) (is_notified_or_indicated attr.guard.properties)

pub is_need_for : IsNeedFor
is_need_for attributes standing handle Right.Read = read attributes (handle + 1) standing (attribute_at attributes handle)
is_need_for attributes standing handle Right.Write = write attributes (handle + 1) standing (attribute_at attributes handle)
is_need_for attributes standing handle Right.Command = command attributes (handle + 1) standing (attribute_at attributes handle)
is_need_for attributes standing handle Right.Notify =
    sent attributes standing handle 1 ∙ notified attributes (handle + 1) standing (attribute_at attributes handle)
is_need_for attributes standing handle Right.Indicate =
    sent attributes standing handle 2 ∙ indicated attributes (handle + 1) standing (attribute_at attributes handle)
is_need_for attributes standing handle Right.Subscribe =
    subscribes attributes standing handle ∙ subscribed_to attributes (handle + 1) standing (attribute_at attributes handle)

-- needs with equal parts
flag_of : (one other : Bool) → beq one other ≡ true → one ≡ other
flag_of one other same = same_of one other (ap not same)

rule_of_parts : (one other : Need) (standing : Standing) → needs_encryption_of one ≡ needs_encryption_of other
    → needs_authentication_of one ≡ needs_authentication_of other → key_size_of one ≡ key_size_of other → one.secure ≡ other.secure
    → one.authorized ≡ other.authorized → (rule : Rule) → is_unmet one standing rule ≡ is_unmet other standing rule
rule_of_parts one other standing encryption authentication size secure authorized HandleExists = refl
rule_of_parts one other standing encryption authentication size secure authorized Property = refl
rule_of_parts one other standing encryption authentication size secure authorized Encryption =
    ap (λ (it : Bool). it && is_none standing.key) encryption
rule_of_parts one other standing encryption authentication size secure authorized Authentication =
    ap (λ (it : Bool). it && not (has_authenticated_key standing)) authentication
rule_of_parts one other standing encryption authentication size secure authorized KeySize =
    ap (λ (it : ℕ). nat_lt (size_of_key standing) it) size
rule_of_parts one other standing encryption authentication size secure authorized SecureConnections =
    ap (λ (it : Bool). it && not (has_secure_key standing)) secure
rule_of_parts one other standing encryption authentication size secure authorized Authorization =
    ap (λ (it : Bool). it && nat_le standing.until standing.now) authorized

same_rules : (one other : Need) (standing : Standing) → same_need one other ≡ true → (rule : Rule) → is_unmet one standing rule ≡ is_unmet other standing rule
same_rules one other standing same =
    let flags : Bool = beq one.secure other.secure && beq one.authorized other.authorized in
    let sizes : Bool = key_size_of one == key_size_of other in
    let second : beq (needs_authentication_of one) (needs_authentication_of other) && (sizes && flags) ≡ true =
    second_true (beq (needs_encryption_of one) (needs_encryption_of other)) (beq (needs_authentication_of one) (needs_authentication_of other) && (sizes && flags)) same in
    let third : sizes && flags ≡ true = second_true (beq (needs_authentication_of one) (needs_authentication_of other)) (sizes && flags) second in
    let fourth : flags ≡ true = second_true sizes flags third in
    rule_of_parts one other standing
    (flag_of (needs_encryption_of one) (needs_encryption_of other)
    (first_true (beq (needs_encryption_of one) (needs_encryption_of other)) (beq (needs_authentication_of one) (needs_authentication_of other) && (sizes && flags)) same))
    (flag_of (needs_authentication_of one) (needs_authentication_of other) (first_true (beq (needs_authentication_of one) (needs_authentication_of other)) (sizes && flags) second))
    (equal_size (key_size_of one) (key_size_of other) (first_true sizes flags third))
    (flag_of one.secure other.secure (first_true (beq one.secure other.secure) (beq one.authorized other.authorized) fourth))
    (flag_of one.authorized other.authorized (second_true (beq one.secure other.secure) (beq one.authorized other.authorized) fourth))
  where
    equal_size : (one other : ℕ) → (one == other) ≡ true → one ≡ other
    equal_size one other same = grind (arith, nat_tests, same)

same_meaning : (one other : Option Need) (standing : Standing) → is_same_need one other ≡ true → is_meant one standing ≡ is_meant other standing
same_meaning None None standing same = refl
same_meaning None (Some other) standing same = absurd (cc same)
same_meaning (Some one) None standing same = absurd (cc same)
same_meaning (Some one) (Some other) standing same =
    λ i. is_none (find (λ (rule : Rule). same_rules one other standing same rule i) rules_of_need)

none_differs : (test : Option KeyFacts → Bool) → ((key : Option KeyFacts) → test key ≡ false) → (kinds : List (Option KeyFacts)) → list_any test kinds ≡ false
none_differs test fails [] = refl
none_differs test fails (key ∷ kinds) = neither_true (test key) (list_any test kinds) (fails key) (none_differs test fails kinds)

link_agrees : (attributes : List Attr) (meant : Option Need) (handle : Handle) (right : Right) → is_same_need (need_for attributes handle right) meant ≡ true
    → (is_authorized : Bool) (key : Option KeyFacts) → differs attributes meant handle right is_authorized key ≡ false
link_agrees attributes meant handle right same is_authorized key =
    of_same (may_with attributes key is_authorized handle right) (is_meant meant (standing_with_key key is_authorized))
    (is_need_for attributes (standing_with_key key is_authorized) handle right
    ∙ same_meaning (need_for attributes handle right) meant (standing_with_key key is_authorized) same)

-- with the need that is meant the right differs for nobody
pub agrees : (attributes : List Attr) (kinds : List (Option KeyFacts)) (meant : Option Need) (handle : Handle) (right : Right)
    → is_same_need (need_for attributes handle right) meant ≡ true → right_differs attributes kinds meant handle right ≡ false
agrees attributes kinds meant handle right same =
    none_differs (kind_differs attributes meant handle right)
    (λ key. neither_true (differs attributes meant handle right false key) (differs attributes meant handle right true key)
    (link_agrees attributes meant handle right same false key) (link_agrees attributes meant handle right same true key))
    kinds
