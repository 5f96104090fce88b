-- Where nothing is opened, each connection might use before what it may use now.
use Rattle.std.proofs.Common.{◌≡◌, ◌≢◌, ℕ, Bool, true, false, ◌==◌, ◌&&◌, ◌||◌, List, [], ◌∷◌, Option, Some, None, All, refl, sym, ap, ◌∙◌, arith}
use Rattle.std.specs.Prelude.{not}
use Rattle.std.specs.Bool.{beq}
use Rattle.std.specs.List.{flat_map, list_all, list_any}
use Rattle.std.proofs.lemmas.Bool.Decides.{nat_tests}
use Rattle.std.proofs.lemmas.List.Elements.{All-nil, All-cons}
use Rattle.att_numbers.specs.Types.{Handle}
use Rattle.att_policy.specs.declared.standing.KeyFacts.{KeyFacts}
use Rattle.att_policy.specs.declared.standing.Standing.{Standing}
use Rattle.att_attributes.specs.declared.attr.Attr.{Attr}
use Rattle.att_table.specs.Table.{Contents}
use Rattle.le_security.specs.declared.entry.Entry.{Entry}
use Rattle.policy_rights.specs.declared.rights.Right.{Right}
use Rattle.policy_rights.specs.Columns.{same_column, same_facts}
use Rattle.policy_rights.specs.Held.{may_with}
use Rattle.policy_rights.specs.Kinds.{every_kind}
use Rattle.policy_rights.specs.Laws.{is_authorized_now}
use Rattle.policy_rights.specs.Rights.{may_of}
use Rattle.policy_rights.proofs.Sizes.{has_every_kind}
use Rattle.policy_rights.proofs.Standings.{depends_on_key_and_time}
use Rattle.policy_words.specs.Cell.{rights_where}
use Rattle.policy_words.specs.compare.Before.{gave, had, has, held_of, partners_of, rights_of}
use Rattle.policy_words.specs.compare.Gains.{gain_of, has_any_right, has_gain, is_gained, is_gained_once, opens, opens_at}
use Rattle.policy_words.specs.compare.Laws.{IsKey, PermitsNoMore}
use Rattle.policy_words.specs.compare.Pairing.{pairs_of}
use Rattle.policy_words.specs.declared.compare.before.Held.{Held}
use Rattle.policy_words.specs.declared.compare.gaining.Gain.{Gain}
use Rattle.policy_words.specs.declared.compare.pairing.Pair.{Pair}

or_left : (one other : Bool) → one || other ≡ false → one ≡ false
or_left true other is = is
or_left false other is = refl

or_right : (one other : Bool) → one || other ≡ false → other ≡ false
or_right true other is = cc is
or_right false other is = is

and_left : (one other : Bool) → one && other ≡ true → one ≡ true
and_left true other is = refl
and_left false other is = is

and_right : (one other : Bool) → one && other ≡ true → other ≡ true
and_right true other is = is
and_right false other is = cc is

-- what is permitted and not gained was there
was_there : (may before : Bool) → may && not before ≡ false → may ≡ true → before ≡ true
was_there true true none is = refl
was_there true false none is = cc none
was_there false before none is = cc is

neither : (one other : Bool) → one && not other ≡ false → other ≡ false → one ≡ false
neither true true none is = is
neither true false none is = none
neither false other none is = refl

by_right : (test : Right → Bool) → has_any_right (rights_where test) ≡ false → (right : Right) → test right ≡ false
by_right test is Right.Read = or_left (test Right.Read) _ is
by_right test is Right.Write = or_left (test Right.Write) _ (or_right (test Right.Read) _ is)
by_right test is Right.Command = or_left (test Right.Command) _ (or_right (test Right.Write) _ (or_right (test Right.Read) _ is))
by_right test is Right.Notify =
    or_left (test Right.Notify) _ (or_right (test Right.Command) _ (or_right (test Right.Write) _ (or_right (test Right.Read) _ is)))
by_right test is Right.Indicate =
    or_left (test Right.Indicate) _
    (or_right (test Right.Notify) _ (or_right (test Right.Command) _ (or_right (test Right.Write) _ (or_right (test Right.Read) _ is))))
by_right test is Right.Subscribe =
    or_right (test Right.Indicate) _
    (or_right (test Right.Notify) _ (or_right (test Right.Command) _ (or_right (test Right.Write) _ (or_right (test Right.Read) _ is))))

same_size : (one other : ℕ) → (one == other) ≡ true → one ≡ other
same_size one other is = grind (arith, nat_tests, is)

same_flag : (one other : Bool) → beq one other ≡ true → one ≡ other
same_flag true true is = refl
same_flag true false is = cc is
same_flag false true is = cc is
same_flag false false is = refl

same_key : (one other : KeyFacts) → same_facts one other ≡ true → one ≡ other
same_key one other is =
    let size : one.size ≡ other.size = same_size one.size other.size (and_left _ _ is) in
    let flags = and_right (one.size == other.size) _ is in
    let authenticated : one.authenticated ≡ other.authenticated = same_flag _ _ (and_left (beq one.authenticated other.authenticated) _ flags) in
    let secure : one.secure ≡ other.secure = same_flag _ _ (and_right (beq one.authenticated other.authenticated) _ flags) in
    λ i. record { size = size i; authenticated = authenticated i; secure = secure i }

same_kind : (one other : Option KeyFacts) → same_column one other ≡ true → one ≡ other
same_kind None None is = refl
same_kind None (Some other) is = cc is
same_kind (Some one) None is = cc is
same_kind (Some one) (Some other) is = ap (λ (key : KeyFacts). Some key) (same_key one other is)

-- a kind among some without gains has none
by_kind : (gain : Held → Gain) (held : Option KeyFacts → Held) (key kind : Option KeyFacts) (test : Bool) → same_column key kind ≡ test
    → has_gain (gain (held kind)) ≡ false → (test ≡ false → has_gain (gain (held key)) ≡ false) → has_gain (gain (held key)) ≡ false
by_kind gain held key kind true is none later = ap (λ (it : Option KeyFacts). has_gain (gain (held it))) (same_kind key kind is) ∙ none
by_kind gain held key kind false is none later = later refl

no_gain : (gain : Held → Gain) (held : Option KeyFacts → Held) (key : Option KeyFacts) (kinds : List (Option KeyFacts))
    → list_any (same_column key) kinds ≡ true
    → list_any has_gain (flat_map (λ (it : Held). gain it ∷ []) (flat_map (λ kind. held kind ∷ []) kinds)) ≡ false
    → has_gain (gain (held key)) ≡ false
no_gain gain held key [] among none = cc among
no_gain gain held key (kind ∷ kinds) among none =
    by_kind gain held key kind (same_column key kind) refl (or_left (has_gain (gain (held kind))) _ none)
    (λ other. no_gain gain held key kinds
    (sym (ap (λ (it : Bool). it || list_any (same_column key) kinds) other) ∙ among)
    (or_right (has_gain (gain (held kind))) _ none))

has_where : (test : Right → Bool) (right : Right) → has (rights_where test) right ≡ test right
has_where test Right.Read = refl
has_where test Right.Write = refl
has_where test Right.Command = refl
has_where test Right.Notify = refl
has_where test Right.Indicate = refl
has_where test Right.Subscribe = refl

kind_among : (key : Option KeyFacts) → IsKey key → list_any (same_column key) every_kind ≡ true
unfolding every_kind
kind_among None is = refl
kind_among (Some key) is = has_every_kind key is.0 is.1

not_gained : (attributes : List Attr) (handle : Handle) (held : Held) (is_authorized : Bool) (right : Right)
    → has_gain (gain_of attributes handle held) ≡ false → is_gained attributes handle held is_authorized right ≡ false
not_gained attributes handle held false right none =
    by_right (λ (it : Right). is_gained attributes handle held false it) (or_left _ _ none) right
not_gained attributes handle held true right none =
    neither (is_gained attributes handle held true right) (is_gained attributes handle held false right)
    (by_right (λ (it : Right). is_gained_once attributes handle held it)
    (or_right (has_any_right (rights_where (λ (it : Right). is_gained attributes handle held false it))) _ none) right)
    (by_right (λ (it : Right). is_gained attributes handle held false it) (or_left _ _ none) right)

had_before : (others : List Attr) (partners : List Handle) (key : Option KeyFacts) (is_authorized : Bool) (right : Right)
    → has (rights_of (held_of others partners key) is_authorized) right ≡ had others partners key is_authorized right
had_before others partners key false right = has_where (λ (it : Right). had others partners key false it) right
had_before others partners key true right = has_where (λ (it : Right). had others partners key true it) right

all_gave : (others : List Attr) (partners : List Handle) (standing : Standing) (right : Right)
    → list_all (gave others standing.key (is_authorized_now standing) right) partners ≡ true
    → All (λ handle. may_of others standing handle right ≡ true) partners
all_gave others [] standing right is = All-nil (λ (handle : Handle). may_of others standing handle right ≡ true)
all_gave others (handle ∷ rest) standing right is =
    All-cons (λ (handle : Handle). may_of others standing handle right ≡ true) handle rest
    (depends_on_key_and_time others standing handle right ∙ and_left _ _ is)
    (all_gave others rest standing right (and_right (may_with others standing.key (is_authorized_now standing) handle right) _ is))

some_gave : (others : List Attr) (partners : List Handle) (key : Option KeyFacts) (is_authorized : Bool) (right : Right)
    → had others partners key is_authorized right ≡ true → partners ≢ []
some_gave others [] key is_authorized right is = cc is
some_gave others (handle ∷ rest) key is_authorized right is = λ same. cc same

all_permitted : (others : List Attr) (partners : List Handle) (standing : Standing) (right : Right)
    → had others partners standing.key (is_authorized_now standing) right ≡ true
    → All (λ handle. may_of others standing handle right ≡ true) partners
all_permitted others [] standing right is = All-nil (λ (handle : Handle). may_of others standing handle right ≡ true)
all_permitted others (handle ∷ rest) standing right is = all_gave others (handle ∷ rest) standing right is

no_more : (attributes others : List Attr) (pair : Pair) → opens_at attributes others every_kind pair ≡ false
    → PermitsNoMore attributes others pair
no_more attributes others pair none standing right is_key may =
    let partners : List Handle = partners_of others pair in
    let held = λ (key : Option KeyFacts). held_of others partners key in
    let gain = λ (it : Held). gain_of attributes pair.attr.handle it in
    let before : had others partners standing.key (is_authorized_now standing) right ≡ true =
    sym (had_before others partners standing.key (is_authorized_now standing) right)
    ∙ was_there (may_with attributes standing.key (is_authorized_now standing) pair.attr.handle right)
    (has (rights_of (held standing.key) (is_authorized_now standing)) right)
    (not_gained attributes pair.attr.handle (held standing.key) (is_authorized_now standing) right
    (no_gain gain held standing.key every_kind (kind_among standing.key is_key) none))
    (sym (depends_on_key_and_time attributes standing pair.attr.handle right) ∙ may) in
    (some_gave others partners standing.key (is_authorized_now standing) right before, all_permitted others partners standing right before)

by_pairs : (attributes others : List Attr) (pairs : List Pair) → list_any (opens_at attributes others every_kind) pairs ≡ false
    → All (PermitsNoMore attributes others) pairs
by_pairs attributes others [] none = All-nil (PermitsNoMore attributes others)
by_pairs attributes others (pair ∷ pairs) none =
    All-cons (PermitsNoMore attributes others) pair pairs (no_more attributes others pair (or_left _ _ none))
    (by_pairs attributes others pairs (or_right (opens_at attributes others every_kind pair) _ none))

pub permits_no_more : (table other : Contents) (keys other_keys : List Entry) → opens table keys other other_keys ≡ false
    → All (PermitsNoMore table.attributes other.attributes) (pairs_of table other)
permits_no_more table other keys other_keys none = by_pairs table.attributes other.attributes (pairs_of table other) (or_left _ _ none)
