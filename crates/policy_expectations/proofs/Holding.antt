-- No difference is found exactly if each expectation holds.
use Rattle.std.proofs.Common.{◌≡◌, ◌↔◌, ℕ, Bool, true, false, ◌&&◌, ◌||◌, List, [], ◌∷◌, ◌++◌, Option, Some, None, refl, sym, ap, arith, subst, ◌∙◌}
use Rattle.std.specs.Prelude.{◌==◌, ◌+◌, IfSome, is_none, nat_le, nat_lt, not, if◌then◌else◌}
use Rattle.std.specs.Int.RustNames.{bit_and}
use Rattle.std.specs.Bool.{beq}
use Rattle.std.specs.List.{All, find, flat_map, list_all, list_any}
use Rattle.std.specs.Option.{option_map, option_map_or}
use Rattle.std.proofs.lemmas.Bool.Decides.{nat_tests}
use Rattle.std.proofs.lemmas.List.Elements.{All-cons, All-head, All-nil, All-tail}
use Rattle.att_numbers.specs.Types.{Handle}
use Rattle.att_policy.specs.declared.guard.Guard.{Guard}
use Rattle.att_policy.specs.declared.guard.Need.{Need}
use Rattle.att_policy.specs.declared.policy.Access.{Access}
use Rattle.att_policy.specs.declared.policy.Access.TheVariants.{Read, Write, Command}
use Rattle.att_policy.specs.declared.policy.Rule.{Rule}
use Rattle.att_policy.specs.declared.policy.Rule.TheVariants.{HandleExists, Property, Encryption, Authentication, KeySize, SecureConnections, Authorization}
use Rattle.att_policy.specs.declared.standing.KeyFacts.{KeyFacts}
use Rattle.att_policy.specs.declared.standing.Standing.{Standing}
use Rattle.att_policy.specs.Policy.{code_of, configuration_bits_of, first_broken_of, first_broken_rule_of, first_unmet_rule_of, is_broken, is_unmet, need_of, rules_in_order, rules_of_need}
use Rattle.att_attributes.specs.declared.attr.Attr.{Attr}
use Rattle.att_attributes.specs.Attributes.{attribute_at, configuration_bits_at, guard_at, is_configuration_at, is_value}
use Rattle.att_table.specs.Table.{Contents}
use Rattle.policy_rights.specs.declared.rights.Right.{Right}
use Rattle.policy_rights.specs.Columns.{same_column, same_facts}
use Rattle.policy_rights.specs.Held.{is_used, may_be_sent, may_subscribe, may_use, may_with, may_write}
use Rattle.policy_rights.specs.Kinds.{every_kind, kinds_from}
use Rattle.policy_rights.specs.Laws.{is_authorized_now}
use Rattle.policy_rights.specs.Rights.{is_sent, is_sent_of, standing_with_key, subscribes_of}
use Rattle.policy_rights.proofs.Subscribing.{sent, tested}
use Rattle.policy_rights.proofs.Sizes.{has_every_kind}
use Rattle.policy_rights.proofs.Standings.{depends_on_key_and_time}
use Rattle.policy_expectations.specs.declared.difference.Difference.{Difference}
use Rattle.policy_expectations.specs.declared.expectation.Expectation.{Expectation}
use Rattle.policy_expectations.specs.Differences.{all_named, attribute_differences, differences_of, differs, expectation_differences, expected_differences, is_among_named, is_unnamed, is_used_by_some_kind, kind_differs, named_differences, right_differs, unnamed_differences}
use Rattle.policy_expectations.specs.Holding.{AllHold, HasKeySize, Holds, IsAsMeant, IsNamedIfUsed, IsUsedAsMeant}
use Rattle.policy_expectations.specs.Meant.{is_meant, meant_for}
use Rattle.policy_expectations.specs.Named.{attributes_named_by}

-- lists that are empty
front_empty : {X : Type 0} (front back : List X) → front ++ back ≡ [] → front ≡ []
front_empty [] back empty = refl
front_empty (x ∷ front) back empty = absurd (cc empty)

back_empty : {X : Type 0} (front back : List X) → front ++ back ≡ [] → back ≡ []
back_empty [] back empty = empty
back_empty (x ∷ front) back empty = absurd (cc empty)

both_empty : {X : Type 0} (front back : List X) → front ≡ [] → back ≡ [] → front ++ back ≡ []
both_empty front back first second = ap (λ (it : _). it ++ back) first ∙ second

all_empty : {X Y : Type 0} (list_of : X → List Y) (xs : List X) → flat_map list_of xs ≡ [] → All (λ (x : X). list_of x ≡ []) xs
all_empty {X} list_of [] empty = All-nil (λ (x : X). list_of x ≡ [])
all_empty {X} list_of (x ∷ xs) empty =
    All-cons (λ (x : X). list_of x ≡ []) x xs (front_empty (list_of x) (flat_map list_of xs) empty)
    (all_empty list_of xs (back_empty (list_of x) (flat_map list_of xs) empty))

empty_of_all : {X Y : Type 0} (list_of : X → List Y) (xs : List X) → All (λ (x : X). list_of x ≡ []) xs → flat_map list_of xs ≡ []
empty_of_all {X} list_of [] all = refl
empty_of_all {X} list_of (x ∷ xs) all =
    both_empty (list_of x) (flat_map list_of xs) (All-head (λ (x : X). list_of x ≡ []) x xs all)
    (empty_of_all list_of xs (All-tail (λ (x : X). list_of x ≡ []) x xs all))

-- tests that are true or false
both_true : (one other : Bool) → one ≡ true → other ≡ true → one && other ≡ true
both_true true true first second = refl
both_true true false first second = second
both_true false other first second = first

pub first_true : (one other : Bool) → one && other ≡ true → one ≡ true
first_true true other both = refl
first_true false other both = both

pub second_true : (one other : Bool) → one && other ≡ true → other ≡ true
second_true true other both = both
second_true false true both = refl
second_true false false both = both

first_false : (one other : Bool) → one || other ≡ false → one ≡ false
first_false true other neither = neither
first_false false other neither = refl

second_false : (one other : Bool) → one || other ≡ false → other ≡ false
second_false true true neither = neither
second_false true false neither = refl
second_false false other neither = neither

pub neither_true : (one other : Bool) → one ≡ false → other ≡ false → one || other ≡ false
neither_true true other first second = first
neither_true false other first second = second

and_false : (one : Bool) → one && false ≡ false
and_false true = refl
and_false false = refl

pub same_of : (one other : Bool) → not (beq one other) ≡ false → one ≡ other
same_of true true same = refl
same_of true false same = same
same_of false true same = sym same
same_of false false same = refl

pub of_same : (one other : Bool) → one ≡ other → not (beq one other) ≡ false
of_same true true same = refl
of_same true false same = same
of_same false true same = sym same
of_same false false same = refl

-- a kind that is equal to one of a list
same_fact : (one other : KeyFacts) → same_facts one other ≡ true → one ≡ other
same_fact one other same =
    let sizes : one.size ≡ other.size =
    grind (arith, nat_tests, first_true (one.size == other.size) (beq one.authenticated other.authenticated && beq one.secure other.secure) same) in
    let flags : beq one.authenticated other.authenticated && beq one.secure other.secure ≡ true =
    second_true (one.size == other.size) (beq one.authenticated other.authenticated && beq one.secure other.secure) same in
    let first : one.authenticated ≡ other.authenticated =
    same_of one.authenticated other.authenticated (ap not (first_true (beq one.authenticated other.authenticated) (beq one.secure other.secure) flags)) in
    let second : one.secure ≡ other.secure =
    same_of one.secure other.secure (ap not (second_true (beq one.authenticated other.authenticated) (beq one.secure other.secure) flags)) in
    λ i. record { size = sizes i; authenticated = first i; secure = second i }

same_kind : (one other : Option KeyFacts) → same_column one other ≡ true → one ≡ other
same_kind None None same = refl
same_kind None (Some other) same = absurd (cc same)
same_kind (Some one) None same = absurd (cc same)
same_kind (Some one) (Some other) same = ap Some (same_fact one other same)

found_at : (test : Option KeyFacts → Bool) (key kind : Option KeyFacts) (rest : List (Option KeyFacts)) (same : Bool) → same_column key kind ≡ same
    → same || list_any (same_column key) rest ≡ true → test key ≡ true
    → (list_any (same_column key) rest ≡ true → list_any test rest ≡ true) → test kind || list_any test rest ≡ true
found_at test key kind rest true is found passes more =
    ap (λ (it : Bool). it || list_any test rest) (ap test (sym (same_kind key kind is)) ∙ passes)
found_at test key kind rest false is found passes more =
    ap (λ (it : Bool). test kind || it) (more found) ∙ or_true (test kind)
  where
    or_true : (one : Bool) → one || true ≡ true
    or_true true = refl
    or_true false = refl

found : (test : Option KeyFacts → Bool) (key : Option KeyFacts) (kinds : List (Option KeyFacts)) → list_any (same_column key) kinds ≡ true
    → test key ≡ true → list_any test kinds ≡ true
found test key [] among passes = among
found test key (kind ∷ rest) among passes =
    found_at test key kind rest (same_column key kind) refl among passes (λ more. found test key rest more passes)

unless_found : (test : Option KeyFacts → Bool) (key : Option KeyFacts) (kinds : List (Option KeyFacts)) → list_any (same_column key) kinds ≡ true
    → list_any test kinds ≡ false → (passes : Bool) → test key ≡ passes → passes ≡ false
unless_found test key kinds among none true is = sym (found test key kinds among is) ∙ none
unless_found test key kinds among none false is = refl

fails_at : (test : Option KeyFacts → Bool) (key : Option KeyFacts) (kinds : List (Option KeyFacts)) → list_any (same_column key) kinds ≡ true
    → list_any test kinds ≡ false → test key ≡ false
fails_at test key kinds among none = unless_found test key kinds among none (test key) refl

has_kind : (key : Option KeyFacts) → IfSome key HasKeySize → list_any (same_column key) every_kind ≡ true
unfolding every_kind
has_kind None possible = refl
has_kind (Some key) possible = has_every_kind key possible.least possible.most

-- each kind has a size of 7 to 16 octets
has_size : Option KeyFacts → Bool
has_size None = true
has_size (Some key) = nat_le 7 key.size && nat_le key.size 16

have_sizes : list_all has_size every_kind ≡ true
unfolding every_kind kinds_from has_size
have_sizes = refl

of_size : (key : Option KeyFacts) → has_size key ≡ true → IfSome key HasKeySize
unfolding has_size
of_size None has = tt
of_size (Some key) has =
    record {
      least = grind (arith, nat_tests, first_true (nat_le 7 key.size) (nat_le key.size 16) has);
      most = grind (arith, nat_tests, second_true (nat_le 7 key.size) (nat_le key.size 16) has);
    }

none_of : (test : Option KeyFacts → Bool) (kinds : List (Option KeyFacts)) → list_all has_size kinds ≡ true
    → ((key : Option KeyFacts) → IfSome key HasKeySize → test key ≡ false) → list_any test kinds ≡ false
none_of test [] sizes fails = refl
none_of test (key ∷ rest) sizes fails =
    neither_true (test key) (list_any test rest) (fails key (of_size key (first_true (has_size key) (list_all has_size rest) sizes)))
    (none_of test rest (second_true (has_size key) (list_all has_size rest) sizes) fails)

-- a need looks at the key and at whether the authorization has ended
late : (until now : ℕ) (test : Bool) → nat_lt now until ≡ test → nat_le until now ≡ nat_le (if test then 1 else 0) 0
late until now true is = grind (arith, nat_tests, is)
late until now false is = grind (arith, nat_tests, is)

same_rule : (need : Need) (standing : Standing) (rule : Rule)
    → is_unmet need standing rule ≡ is_unmet need (standing_with_key standing.key (is_authorized_now standing)) rule
same_rule need standing HandleExists = refl
same_rule need standing Property = refl
same_rule need standing Encryption = refl
same_rule need standing Authentication = refl
same_rule need standing KeySize = refl
same_rule need standing SecureConnections = refl
same_rule need standing Authorization =
    ap (λ (it : Bool). need.authorized && it) (late standing.until standing.now (nat_lt standing.now standing.until) refl)

same_meant : (meant : Option Need) (standing : Standing)
    → is_meant meant standing ≡ is_meant meant (standing_with_key standing.key (is_authorized_now standing))
same_meant None standing = refl
same_meant (Some need) standing =
    λ i. is_none (find (λ (rule : Rule). same_rule need standing rule i) rules_of_need)

-- a right that does not differ for any kind is as it is meant for each connection
agrees : (attributes : List Attr) (meant : Option Need) (handle : Handle) (right : Right) (key : Option KeyFacts) (is_authorized : Bool)
    → kind_differs attributes meant handle right key ≡ false → differs attributes meant handle right is_authorized key ≡ false
agrees attributes meant handle right key false same =
    first_false (differs attributes meant handle right false key) (differs attributes meant handle right true key) same
agrees attributes meant handle right key true same =
    second_false (differs attributes meant handle right false key) (differs attributes meant handle right true key) same

as_meant : (attributes : List Attr) (meant : Option Need) (handle : Handle) (right : Right)
    → right_differs attributes every_kind meant handle right ≡ false → IsAsMeant attributes meant handle right
as_meant attributes meant handle right same = λ standing possible.
    depends_on_key_and_time attributes standing handle right
    ∙ same_of (may_with attributes standing.key (is_authorized_now standing) handle right)
    (is_meant meant (standing_with_key standing.key (is_authorized_now standing)))
    (agrees attributes meant handle right standing.key (is_authorized_now standing)
    (fails_at (kind_differs attributes meant handle right) standing.key every_kind (has_kind standing.key possible) same))
    ∙ sym (same_meant meant standing)

no_kind_differs : (attributes : List Attr) (meant : Option Need) (handle : Handle) (right : Right) → IsAsMeant attributes meant handle right
    → (key : Option KeyFacts) → IfSome key HasKeySize → kind_differs attributes meant handle right key ≡ false
no_kind_differs attributes meant handle right same key possible =
    neither_true (differs attributes meant handle right false key) (differs attributes meant handle right true key)
    (of_same (may_with attributes key false handle right) (is_meant meant (standing_with_key key false)) (same (standing_with_key key false) possible))
    (of_same (may_with attributes key true handle right) (is_meant meant (standing_with_key key true)) (same (standing_with_key key true) possible))

not_differs : (attributes : List Attr) (meant : Option Need) (handle : Handle) (right : Right) → IsAsMeant attributes meant handle right
    → right_differs attributes every_kind meant handle right ≡ false
not_differs attributes meant handle right same =
    none_of (kind_differs attributes meant handle right) every_kind have_sizes (no_kind_differs attributes meant handle right same)

-- the rights of one attribute
unless_listed : {X : Type 0} (test : Bool) (x : X) → (if test then x ∷ [] else []) ≡ [] → test ≡ false
unless_listed true x empty = absurd (cc empty)
unless_listed false x empty = refl

not_listed : {X : Type 0} (test : Bool) (x : X) → test ≡ false → (if test then x ∷ [] else []) ≡ []
not_listed true x is = absurd (cc is)
not_listed false x is = refl

right_as_meant : (attributes : List Attr) (expected : Expectation) (attr : Attr) (right : Right)
    → expected_differences attributes every_kind expected attr right ≡ [] → IsAsMeant attributes (meant_for expected right) attr.handle right
right_as_meant attributes expected attr right empty =
    as_meant attributes (meant_for expected right) attr.handle right
    (unless_listed (right_differs attributes every_kind (meant_for expected right) attr.handle right) _ empty)

right_empty : (attributes : List Attr) (expected : Expectation) (attr : Attr) (right : Right)
    → IsAsMeant attributes (meant_for expected right) attr.handle right → expected_differences attributes every_kind expected attr right ≡ []
right_empty attributes expected attr right same =
    not_listed (right_differs attributes every_kind (meant_for expected right) attr.handle right) _
    (not_differs attributes (meant_for expected right) attr.handle right same)

used_as_meant : (attributes : List Attr) (expected : Expectation) (attr : Attr)
    → attribute_differences attributes every_kind expected attr ≡ [] → IsUsedAsMeant attributes expected attr
unfolding attribute_differences
used_as_meant attributes expected attr empty Right.Read =
    right_as_meant attributes expected attr Right.Read (front_empty _ _ (front_empty _ _ (front_empty _ _ (front_empty _ _ (front_empty _ _ empty)))))
used_as_meant attributes expected attr empty Right.Write =
    right_as_meant attributes expected attr Right.Write (back_empty _ _ (front_empty _ _ (front_empty _ _ (front_empty _ _ (front_empty _ _ empty)))))
used_as_meant attributes expected attr empty Right.Command =
    right_as_meant attributes expected attr Right.Command (back_empty _ _ (front_empty _ _ (front_empty _ _ (front_empty _ _ empty))))
used_as_meant attributes expected attr empty Right.Notify =
    right_as_meant attributes expected attr Right.Notify (back_empty _ _ (front_empty _ _ (front_empty _ _ empty)))
used_as_meant attributes expected attr empty Right.Indicate =
    right_as_meant attributes expected attr Right.Indicate (back_empty _ _ (front_empty _ _ empty))
used_as_meant attributes expected attr empty Right.Subscribe =
    right_as_meant attributes expected attr Right.Subscribe (back_empty _ _ empty)

no_difference : (attributes : List Attr) (expected : Expectation) (attr : Attr) → IsUsedAsMeant attributes expected attr
    → attribute_differences attributes every_kind expected attr ≡ []
unfolding attribute_differences
no_difference attributes expected attr used =
    both_empty _ _ (both_empty _ _ (both_empty _ _ (both_empty _ _ (both_empty _ _ (right_empty attributes expected attr Right.Read (used Right.Read))
    (right_empty attributes expected attr Right.Write (used Right.Write)))
    (right_empty attributes expected attr Right.Command (used Right.Command)))
    (right_empty attributes expected attr Right.Notify (used Right.Notify)))
    (right_empty attributes expected attr Right.Indicate (used Right.Indicate)))
    (right_empty attributes expected attr Right.Subscribe (used Right.Subscribe))

-- one expectation
all_more : {X : Type 0} (P Q : X → Type 0) (xs : List X) → All P xs → ((x : X) → P x → Q x) → All Q xs
all_more P Q xs all more = λ k d below. more _ (all k d below)

holds_by : (table : Contents) (expected : Expectation) (named : List Attr) → attributes_named_by table expected ≡ named
    → named_differences table.attributes every_kind expected named ≡ [] → Holds table expected
holds_by table expected [] is empty = absurd (cc empty)
holds_by table expected (attr ∷ rest) is empty =
    record {
      names = λ none. absurd (cc (sym is ∙ none));
      as_meant =
          subst (All (IsUsedAsMeant table.attributes expected)) (sym is)
          (all_more (λ (one : Attr). attribute_differences table.attributes every_kind expected one ≡ []) (IsUsedAsMeant table.attributes expected) (attr ∷ rest)
          (all_empty (attribute_differences table.attributes every_kind expected) (attr ∷ rest) empty)
          (λ one. used_as_meant table.attributes expected one));
    }

empty_by : (table : Contents) (expected : Expectation) (named : List Attr) → attributes_named_by table expected ≡ named
    → Holds table expected → named_differences table.attributes every_kind expected named ≡ []
empty_by table expected [] is holds = absurd (holds.names is)
empty_by table expected (attr ∷ rest) is holds =
    empty_of_all (attribute_differences table.attributes every_kind expected) (attr ∷ rest)
    (all_more (IsUsedAsMeant table.attributes expected) (λ (one : Attr). attribute_differences table.attributes every_kind expected one ≡ []) (attr ∷ rest)
    (subst (All (IsUsedAsMeant table.attributes expected)) is holds.as_meant) (λ one. no_difference table.attributes expected one))

-- an authorization takes no right away
less_strict : (need : Need) (key : Option KeyFacts) (rule : Rule) → is_unmet need (standing_with_key key false) rule ≡ false
    → is_unmet need (standing_with_key key true) rule ≡ false
less_strict need key HandleExists met = met
less_strict need key Property met = met
less_strict need key Encryption met = met
less_strict need key Authentication met = met
less_strict need key KeySize met = met
less_strict need key SecureConnections met = met
less_strict need key Authorization met = and_false need.authorized

less_broken : (access : Access) (guard : Option Guard) (key : Option KeyFacts) (rule : Rule) → is_broken access guard (standing_with_key key false) rule ≡ false
    → is_broken access guard (standing_with_key key true) rule ≡ false
less_broken access None key HandleExists met = met
less_broken access None key Property met = met
less_broken access None key Encryption met = met
less_broken access None key Authentication met = met
less_broken access None key KeySize met = met
less_broken access None key SecureConnections met = met
less_broken access None key Authorization met = met
less_broken access (Some guard) key HandleExists met = met
less_broken access (Some guard) key Property met = met
less_broken access (Some guard) key Encryption met = met
less_broken access (Some guard) key Authentication met = met
less_broken access (Some guard) key KeySize met = met
less_broken access (Some guard) key SecureConnections met = met
less_broken access (Some guard) key Authorization met = and_false (need_of access guard).authorized

none_found_at : (test other : Rule → Bool) (rule : Rule) (rest : List Rule) (broken : Bool) → test rule ≡ broken
    → (test rule ≡ false → other rule ≡ false) → (is_none (find test rest) ≡ true → is_none (find other rest) ≡ true)
    → is_none (find test (rule ∷ rest)) ≡ true → is_none (find other (rule ∷ rest)) ≡ true
none_found_at test other rule rest true is fewer more none =
    absurd (cc (sym (ap (λ (it : Bool). is_none (if it then Some rule else find test rest)) is) ∙ none))
none_found_at test other rule rest false is fewer more none =
    ap (λ (it : Bool). is_none (if it then Some rule else find other rest)) (fewer is)
    ∙ more (sym (ap (λ (it : Bool). is_none (if it then Some rule else find test rest)) is) ∙ none)

none_found : (test other : Rule → Bool) → ((rule : Rule) → test rule ≡ false → other rule ≡ false) → (rules : List Rule)
    → is_none (find test rules) ≡ true → is_none (find other rules) ≡ true
none_found test other fewer [] none = refl
none_found test other fewer (rule ∷ rest) none =
    none_found_at test other rule rest (test rule) refl (fewer rule) (none_found test other fewer rest) none

none_mapped : {X Y : Type 0} (f : X → Y) (found : Option X) → is_none (option_map f found) ≡ is_none found
none_mapped f None = refl
none_mapped f (Some x) = refl

access_kept : (access : Access) (guard : Option Guard) (key : Option KeyFacts)
    → is_none (first_broken_of access guard (standing_with_key key false)) ≡ true
    → is_none (first_broken_of access guard (standing_with_key key true)) ≡ true
access_kept access guard key permitted =
    none_mapped (λ (rule : Rule). (rule, code_of access (standing_with_key key true) rule)) (first_broken_rule_of access guard (standing_with_key key true))
    ∙ none_found (is_broken access guard (standing_with_key key false)) (is_broken access guard (standing_with_key key true))
    (less_broken access guard key) rules_in_order
    (sym (none_mapped (λ (rule : Rule). (rule, code_of access (standing_with_key key false) rule)) (first_broken_rule_of access guard (standing_with_key key false))) ∙ permitted)

heard_still : (bit : ℕ) (key : Option KeyFacts) (found : Option Attr)
    → option_map_or (λ (attr : Attr). is_sent attr (standing_with_key key false) bit) found false ≡ true
    → option_map_or (λ (attr : Attr). is_sent attr (standing_with_key key true) bit) found false ≡ true
heard_still bit key None heard = heard
heard_still bit key (Some attr) heard =
    let allowed : Bool = not (bit_and bit (configuration_bits_of attr.guard.properties) == 0) in
    let before : Bool = is_none (first_unmet_rule_of attr.guard.read (standing_with_key key false)) in
    let after : Bool = is_none (first_unmet_rule_of attr.guard.read (standing_with_key key true)) in
    let hears : allowed && before ≡ true = second_true (is_value attr.role) (allowed && before) heard in
    both_true (is_value attr.role) (allowed && after) (first_true (is_value attr.role) (allowed && before) heard)
    (both_true allowed after (first_true allowed before hears)
    (none_found (is_unmet attr.guard.read (standing_with_key key false)) (is_unmet attr.guard.read (standing_with_key key true))
    (less_strict attr.guard.read key) rules_of_need (second_true allowed before hears)))

sent_still : (attributes : List Attr) (key : Option KeyFacts) (handle bit : ℕ) → is_sent_of attributes (standing_with_key key false) handle bit ≡ true
    → is_sent_of attributes (standing_with_key key true) handle bit ≡ true
sent_still attributes key handle bit heard =
    sent attributes (standing_with_key key true) handle bit
    ∙ heard_still bit key (attribute_at attributes handle) (sym (sent attributes (standing_with_key key false) handle bit) ∙ heard)

subscribes_still : (attributes : List Attr) (key : Option KeyFacts) (handle : ℕ) → subscribes_of attributes (standing_with_key key false) handle ≡ true
    → subscribes_of attributes (standing_with_key key true) handle ≡ true
subscribes_still attributes key handle may =
    let there : Bool = is_configuration_at attributes (handle + 1) in
    let before : Bool = is_none (first_broken_of Write (guard_at attributes (handle + 1)) (standing_with_key key false)) in
    let after : Bool = is_none (first_broken_of Write (guard_at attributes (handle + 1)) (standing_with_key key true)) in
    let asks : Bool = not (configuration_bits_at attributes (handle + 1) == 0) in
    let all : there && (before && asks) ≡ true = sym (tested attributes (standing_with_key key false) handle) ∙ may in
    let rest : before && asks ≡ true = second_true there (before && asks) all in
    tested attributes (standing_with_key key true) handle
    ∙ both_true there (after && asks) (first_true there (before && asks) all)
    (both_true after asks (access_kept Write (guard_at attributes (handle + 1)) key (first_true before asks rest)) (second_true before asks rest))

may_still : (attributes : List Attr) (key : Option KeyFacts) (handle : Handle) (right : Right) → may_with attributes key false handle right ≡ true
    → may_with attributes key true handle right ≡ true
may_still attributes key handle Right.Read may = access_kept Read (guard_at attributes handle) key may
may_still attributes key handle Right.Write may = access_kept Write (guard_at attributes handle) key may
may_still attributes key handle Right.Command may = access_kept Command (guard_at attributes handle) key may
may_still attributes key handle Right.Notify may = sent_still attributes key handle 1 may
may_still attributes key handle Right.Indicate may = sent_still attributes key handle 2 may
may_still attributes key handle Right.Subscribe may = subscribes_still attributes key handle may

may_once_authorized : (attributes : List Attr) (key : Option KeyFacts) (handle : Handle) (right : Right) (is_authorized : Bool)
    → may_with attributes key is_authorized handle right ≡ true → may_with attributes key true handle right ≡ true
may_once_authorized attributes key handle right true may = may
may_once_authorized attributes key handle right false may = may_still attributes key handle right may

-- a right is a use
left_or : (one other : Bool) → one ≡ true → one || other ≡ true
left_or true other is = refl
left_or false other is = absurd (cc is)

right_or : (one other : Bool) → other ≡ true → one || other ≡ true
right_or true other is = refl
right_or false other is = is

write_used : (attributes : List Attr) (key : Option KeyFacts) (handle : Handle) → may_write attributes key true handle ≡ true
    → may_use attributes handle key ≡ true
write_used attributes key handle may =
    right_or (may_with attributes key true handle Right.Read)
    (may_write attributes key true handle || (may_be_sent attributes handle key || may_subscribe attributes handle key))
    (left_or (may_write attributes key true handle) (may_be_sent attributes handle key || may_subscribe attributes handle key) may)

rest_used : (attributes : List Attr) (key : Option KeyFacts) (handle : Handle)
    → may_be_sent attributes handle key || may_subscribe attributes handle key ≡ true → may_use attributes handle key ≡ true
rest_used attributes key handle may =
    right_or (may_with attributes key true handle Right.Read)
    (may_write attributes key true handle || (may_be_sent attributes handle key || may_subscribe attributes handle key))
    (right_or (may_write attributes key true handle) (may_be_sent attributes handle key || may_subscribe attributes handle key) may)

used_by : (attributes : List Attr) (key : Option KeyFacts) (handle : Handle) (right : Right) → may_with attributes key true handle right ≡ true
    → may_use attributes handle key ≡ true
used_by attributes key handle Right.Read may =
    left_or (may_with attributes key true handle Right.Read)
    (may_write attributes key true handle || (may_be_sent attributes handle key || may_subscribe attributes handle key)) may
used_by attributes key handle Right.Write may =
    write_used attributes key handle
    (left_or (may_with attributes key true handle Right.Write) (may_with attributes key true handle Right.Command) may)
used_by attributes key handle Right.Command may =
    write_used attributes key handle
    (right_or (may_with attributes key true handle Right.Write) (may_with attributes key true handle Right.Command) may)
used_by attributes key handle Right.Notify may =
    rest_used attributes key handle
    (left_or (may_be_sent attributes handle key) (may_subscribe attributes handle key)
    (left_or (may_with attributes key true handle Right.Notify) (may_with attributes key true handle Right.Indicate) may))
used_by attributes key handle Right.Indicate may =
    rest_used attributes key handle
    (left_or (may_be_sent attributes handle key) (may_subscribe attributes handle key)
    (right_or (may_with attributes key true handle Right.Notify) (may_with attributes key true handle Right.Indicate) may))
used_by attributes key handle Right.Subscribe may =
    rest_used attributes key handle (right_or (may_be_sent attributes handle key) (may_subscribe attributes handle key) may)

-- a use is a right
not_used : (attributes : List Attr) (key : Option KeyFacts) (handle : Handle)
    → ((right : Right) → may_with attributes key true handle right ≡ false) → may_use attributes handle key ≡ false
not_used attributes key handle none =
    let with : Right → Bool = λ right. may_with attributes key true handle right in
    neither_true (with Right.Read) (may_write attributes key true handle || (may_be_sent attributes handle key || may_subscribe attributes handle key))
    (none Right.Read)
    (neither_true (may_write attributes key true handle) (may_be_sent attributes handle key || may_subscribe attributes handle key)
    (neither_true (with Right.Write) (with Right.Command) (none Right.Write) (none Right.Command))
    (neither_true (may_be_sent attributes handle key) (may_subscribe attributes handle key)
    (neither_true (with Right.Notify) (with Right.Indicate) (none Right.Notify) (none Right.Indicate)) (none Right.Subscribe)))

-- one attribute that is not named
named_if_used : (attributes named : List Attr) (attr : Attr) → is_unnamed attributes every_kind named attr ≡ false → IsNamedIfUsed attributes named attr
named_if_used attributes named attr is = λ can_use standing right possible may.
    let key : Option KeyFacts = standing.key in
    let with : may_with attributes key true attr.handle right ≡ true =
    may_once_authorized attributes key attr.handle right (is_authorized_now standing) (sym (depends_on_key_and_time attributes standing attr.handle right) ∙ may) in
    let somebody : list_any (may_use attributes attr.handle) every_kind ≡ true =
    found (may_use attributes attr.handle) key every_kind (has_kind key possible) (used_by attributes key attr.handle right with) in
    named_then (is_used_by_some_kind attributes every_kind attr) (is_among_named named attr.handle)
    (both_true (is_used attr.role) (list_any (may_use attributes attr.handle) every_kind) can_use somebody) is
  where
    named_then : (used among : Bool) → used ≡ true → used && not among ≡ false → among ≡ true
    named_then true true is both = refl
    named_then true false is both = sym both
    named_then false among is both = absurd (cc is)

not_may : (attributes named : List Attr) (attr : Attr) → is_among_named named attr.handle ≡ false → is_used attr.role ≡ true
    → IsNamedIfUsed attributes named attr → (key : Option KeyFacts) → IfSome key HasKeySize → (right : Right)
    → (may : Bool) → may_with attributes key true attr.handle right ≡ may → may ≡ false
not_may attributes named attr absent can_use rule key possible right true is =
    sym (rule can_use (standing_with_key key true) right possible is) ∙ absent
not_may attributes named attr absent can_use rule key possible right false is = refl

nobody_uses : (attributes named : List Attr) (attr : Attr) → is_among_named named attr.handle ≡ false → is_used attr.role ≡ true
    → IsNamedIfUsed attributes named attr → list_any (may_use attributes attr.handle) every_kind ≡ false
nobody_uses attributes named attr absent can_use rule =
    none_of (may_use attributes attr.handle) every_kind have_sizes
    (λ key possible. not_used attributes key attr.handle
    (λ right. not_may attributes named attr absent can_use rule key possible right (may_with attributes key true attr.handle right) refl))

not_unnamed : (attributes named : List Attr) (attr : Attr) → IsNamedIfUsed attributes named attr
    → (can_use among : Bool) → is_used attr.role ≡ can_use → is_among_named named attr.handle ≡ among
    → (can_use && list_any (may_use attributes attr.handle) every_kind) && not among ≡ false
not_unnamed attributes named attr rule can_use true is there = and_false (can_use && list_any (may_use attributes attr.handle) every_kind)
not_unnamed attributes named attr rule false false is there = refl
not_unnamed attributes named attr rule true false is there =
    ap (λ (it : Bool). it && true) (nobody_uses attributes named attr there is rule)

named_of_empty : (attributes named : List Attr) (attr : Attr) → unnamed_differences attributes every_kind named attr ≡ []
    → IsNamedIfUsed attributes named attr
named_of_empty attributes named attr empty =
    named_if_used attributes named attr (unless_listed (is_unnamed attributes every_kind named attr) _ empty)

empty_of_named : (attributes named : List Attr) (attr : Attr) → IsNamedIfUsed attributes named attr
    → unnamed_differences attributes every_kind named attr ≡ []
empty_of_named attributes named attr rule =
    not_listed (is_unnamed attributes every_kind named attr) _
    (not_unnamed attributes named attr rule (is_used attr.role) (is_among_named named attr.handle) refl refl)

-- all of them
all_hold_of : (table : Contents) (expectations : List Expectation) → differences_of table expectations ≡ [] → AllHold table expectations
all_hold_of table expectations empty =
    let named : List Attr = all_named table expectations in
    record {
      each =
          all_more (λ (one : Expectation). expectation_differences table every_kind one ≡ []) (Holds table) expectations
          (all_empty (expectation_differences table every_kind) expectations
          (front_empty _ (flat_map (unnamed_differences table.attributes every_kind named) table.attributes) empty))
          (λ one none. holds_by table one (attributes_named_by table one) refl none);
      named =
          all_more (λ (one : Attr). unnamed_differences table.attributes every_kind named one ≡ []) (IsNamedIfUsed table.attributes named) table.attributes
          (all_empty (unnamed_differences table.attributes every_kind named) table.attributes
          (back_empty (flat_map (expectation_differences table every_kind) expectations) _ empty))
          (λ one. named_of_empty table.attributes named one);
    }

none_differ : (table : Contents) (expectations : List Expectation) → AllHold table expectations → differences_of table expectations ≡ []
none_differ table expectations hold =
    let named : List Attr = all_named table expectations in
    both_empty (flat_map (expectation_differences table every_kind) expectations) (flat_map (unnamed_differences table.attributes every_kind named) table.attributes)
    (empty_of_all (expectation_differences table every_kind) expectations
    (all_more (Holds table) (λ (one : Expectation). expectation_differences table every_kind one ≡ []) expectations hold.each
    (λ one holds. empty_by table one (attributes_named_by table one) refl holds)))
    (empty_of_all (unnamed_differences table.attributes every_kind named) table.attributes
    (all_more (IsNamedIfUsed table.attributes named) (λ (one : Attr). unnamed_differences table.attributes every_kind named one ≡ []) table.attributes hold.named
    (λ one. empty_of_named table.attributes named one)))

pub all_hold : (table : Contents) (expectations : List Expectation) (found : List Difference) → found ≡ differences_of table expectations
    → (found ≡ []) ↔ AllHold table expectations
all_hold table expectations found same = (
  λ none. all_hold_of table expectations (sym same ∙ none),
  λ hold. same ∙ none_differ table expectations hold,
)
