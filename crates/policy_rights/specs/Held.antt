-- The rights that no key, and each kind of key, gives.
use Rattle.std.specs.Prelude.{ℕ, ◌||◌, ◌&&◌, Bool, true, false, not, if◌then◌else◌, fold, min, nat_lt, List, [], ◌∷◌, ◌++◌, Option, Some, None}
use Rattle.std.specs.Bool.{beq}
use Rattle.std.specs.List.{list_all, list_any}
use Rattle.att_numbers.specs.Types.{Handle}
use Rattle.att_policy.specs.declared.standing.KeyFacts.{KeyFacts}
use Rattle.att_attributes.specs.declared.attr.Attr.{Attr}
use Rattle.att_attributes.specs.declared.attr.Role.{Role}
use Rattle.att_attributes.specs.declared.attr.Role.TheVariants.{Declaration, Value, Configuration, Descriptor}
use Rattle.policy_rights.specs.declared.rights.Right.{Right}
use Rattle.policy_rights.specs.Rights.{may_of, standing_with_key}

-- A link with this key or none, authorized or not, has the right.
abbrev pub may_with : List Attr → Option KeyFacts → Bool → Handle → Right → Bool
may_with attributes key is_authorized handle right =
    may_of attributes (standing_with_key key is_authorized) handle right

abbrev pub may_write : List Attr → Option KeyFacts → Bool → Handle → Bool
may_write attributes key is_authorized handle =
    may_with attributes key is_authorized handle Right.Write
    || may_with attributes key is_authorized handle Right.Command

-- From here on the link is authorized.
abbrev pub may_subscribe : List Attr → Handle → Option KeyFacts → Bool
may_subscribe attributes handle key = may_with attributes key true handle Right.Subscribe

abbrev pub may_be_sent : List Attr → Handle → Option KeyFacts → Bool
may_be_sent attributes handle key =
    may_with attributes key true handle Right.Notify
    || may_with attributes key true handle Right.Indicate

-- It may subscribe, and then be sent the value.
abbrev pub may_follow : List Attr → Handle → Option KeyFacts → Bool
may_follow attributes handle key =
    may_subscribe attributes handle key && may_be_sent attributes handle key

abbrev pub may_use : List Attr → Handle → Option KeyFacts → Bool
may_use attributes handle key =
    may_with attributes key true handle Right.Read
    || (may_write attributes key true handle
    || (may_be_sent attributes handle key || may_subscribe attributes handle key))

-- The size of a key of less than 16 octets that may write.
abbrev pub short_writer_size : List Attr → Handle → Option KeyFacts → Option ℕ
short_writer_size attributes handle None = None
short_writer_size attributes handle (Some key) =
    if nat_lt key.size 16 && may_write attributes (Some key) true handle
    then Some key.size
    else None

abbrev pub lesser : Option ℕ → Option ℕ → Option ℕ
lesser None other = other
lesser (Some one) None = Some one
lesser (Some one) (Some other) = Some (min one other)

-- The least of them.
abbrev pub least_short_size : List Attr → Handle → List (Option KeyFacts) → Option ℕ
least_short_size attributes handle columns =
    fold (λ least key. lesser least (short_writer_size attributes handle key)) None columns

-- A client uses values and descriptors; declarations and configurations belong to them.
abbrev pub is_used : Role → Bool
is_used Declaration = false
is_used Value = true
is_used Configuration = false
is_used Descriptor = true

-- Links with two kinds of keys, or without one, have the same right or lack it.
abbrev pub is_same_right :
    List Attr → Option KeyFacts → Option KeyFacts → Bool → Handle → Right → Bool
is_same_right attributes one other is_authorized handle right =
    beq (may_with attributes one is_authorized handle right)
    (may_with attributes other is_authorized handle right)

abbrev pub has_same_rights :
    List Attr → Option KeyFacts → Option KeyFacts → Bool → Handle → Bool
has_same_rights attributes one other is_authorized handle =
    is_same_right attributes one other is_authorized handle Right.Read
    && (is_same_right attributes one other is_authorized handle Right.Write
    && (is_same_right attributes one other is_authorized handle Right.Command
    && (is_same_right attributes one other is_authorized handle Right.Notify
    && (is_same_right attributes one other is_authorized handle Right.Indicate
    && is_same_right attributes one other is_authorized handle Right.Subscribe))))

-- They have the same rights to an attribute, authorized or not.
abbrev pub is_equal_at : List Attr → Option KeyFacts → Option KeyFacts → Attr → Bool
is_equal_at attributes one other attr =
    not (is_used attr.role)
    || (has_same_rights attributes one other false attr.handle
    && has_same_rights attributes one other true attr.handle)

-- They have equal rights: the same ones to all values and descriptors.
abbrev pub has_equal_rights : List Attr → Option KeyFacts → Option KeyFacts → Bool
has_equal_rights attributes one other = list_all (is_equal_at attributes one other) attributes

-- The key gives no right that no key does not give.
abbrev pub adds_nothing : List Attr → Option KeyFacts → Bool
adds_nothing attributes key = has_equal_rights attributes key None

-- The first kind of each group of kinds with equal rights.
abbrev pub with_kind :
    List Attr → List (Option KeyFacts) → Option KeyFacts → List (Option KeyFacts)
with_kind attributes firsts kind =
    if list_any (has_equal_rights attributes kind) firsts then firsts else firsts ++ kind ∷ []

abbrev pub with_kinds :
    List Attr → List (Option KeyFacts) → List (Option KeyFacts) → List (Option KeyFacts)
with_kinds attributes firsts [] = firsts
with_kinds attributes firsts (kind ∷ kinds) =
    with_kinds attributes (with_kind attributes firsts kind) kinds

abbrev pub kinds_that_differ : List Attr → List (Option KeyFacts) → List (Option KeyFacts)
kinds_that_differ attributes kinds = with_kinds attributes [] kinds
