-- The kinds of keys, one size after the other.
use Rattle.std.proofs.Common.{◌≡◌, ℕ, zero, suc, ◌+◌, ◌-◌, ◌<◌, ◌≤◌, Bool, true, false, ◌==◌, ◌&&◌, ◌||◌, List, [], ◌∷◌, ◌++◌, Option, Some, refl, ap, ◌∙◌, arith}
use Rattle.std.specs.Bool.{beq}
use Rattle.std.specs.List.{list_any}
use Rattle.std.proofs.lemmas.Bool.Decides.{nat_tests}
use Rattle.std.proofs.lemmas.List.Folds.{list_any-append}
use Rattle.att_policy.specs.declared.standing.KeyFacts.{KeyFacts}
use Rattle.policy_rights.specs.Columns.{same_column}
use Rattle.policy_rights.specs.Kinds.{every_kind, key_kind, kinds_from, kinds_of_every_size}
use Rattle.policy_rights.specs.Laws.{HasEveryKind}

by_count : (left count size : ℕ) (authenticated secure : Bool) → left ≡ suc count
    → kinds_from left size authenticated secure ≡ key_kind size authenticated secure ∷ kinds_from count (size + 1) authenticated secure
unfolding kinds_from
by_count left count size authenticated secure is = ap (λ (it : ℕ). kinds_from it size authenticated secure) is

-- the kinds that are left begin with the next size
pub next_size : (size : ℕ) (authenticated secure : Bool) → size < 17
    → kinds_from (17 - size) size authenticated secure
    ≡ key_kind size authenticated secure ∷ kinds_from (17 - (size + 1)) (size + 1) authenticated secure
next_size size authenticated secure below =
    by_count (17 - size) (17 - (size + 1)) size authenticated secure (omega (arith, below))

same_flag : (flag : Bool) → beq flag flag ≡ true
same_flag true = refl
same_flag false = refl

one_of : (key : KeyFacts) (first : ℕ) (test : Bool) → (key.size == first) ≡ test → (rest : List (Option KeyFacts))
    → (test ≡ false → list_any (same_column (Some key)) rest ≡ true)
    → list_any (same_column (Some key)) (key_kind first key.authenticated key.secure ∷ rest) ≡ true
one_of key first true is rest later =
    ap (λ (it : Bool). (it && (beq key.authenticated key.authenticated && beq key.secure key.secure)) || list_any (same_column (Some key)) rest) is
    ∙ ap (λ (it : Bool). (it && beq key.secure key.secure) || list_any (same_column (Some key)) rest) (same_flag key.authenticated)
    ∙ ap (λ (it : Bool). it || list_any (same_column (Some key)) rest) (same_flag key.secure)
one_of key first false is rest later =
    ap (λ (it : Bool). (it && (beq key.authenticated key.authenticated && beq key.secure key.secure)) || list_any (same_column (Some key)) rest) is
    ∙ later refl

-- a size among them is found
found : (key : KeyFacts) (count first : ℕ) → first ≤ key.size → key.size < first + count
    → list_any (same_column (Some key)) (kinds_from count first key.authenticated key.secure) ≡ true
unfolding kinds_from
found key zero first from below = absurd (omega (arith, from, below))
found key (suc count) first from below =
    one_of key first (key.size == first) refl (kinds_from count (first + 1) key.authenticated key.secure)
    (λ other. found key count (first + 1) (grind (arith, nat_tests, from, other)) (omega (arith, below)))

or_true : (test : Bool) → test || true ≡ true
or_true true = refl
or_true false = refl

in_first : {X : Type 0} (test : X → Bool) (one other : List X) → list_any test one ≡ true → list_any test (one ++ other) ≡ true
in_first test one other is = list_any-append test one other ∙ ap (λ (it : Bool). it || list_any test other) is

in_second : {X : Type 0} (test : X → Bool) (one other : List X) → list_any test other ≡ true → list_any test (one ++ other) ≡ true
in_second test one other is =
    list_any-append test one other ∙ ap (λ (it : Bool). list_any test one || it) is ∙ or_true (list_any test one)

by_flags : (key : KeyFacts) (authenticated secure : Bool) → key.authenticated ≡ authenticated → key.secure ≡ secure
    → list_any (same_column (Some key)) (kinds_of_every_size authenticated secure) ≡ true
    → list_any (same_column (Some key)) every_kind ≡ true
unfolding every_kind kinds_from
by_flags key false false _ _ is =
    in_first (same_column (Some key)) (kinds_of_every_size false false) (kinds_of_every_size true false ++ kinds_of_every_size false true ++ kinds_of_every_size true true) is
by_flags key true false _ _ is =
    in_second (same_column (Some key)) (kinds_of_every_size false false) (kinds_of_every_size true false ++ kinds_of_every_size false true ++ kinds_of_every_size true true)
    (in_first (same_column (Some key)) (kinds_of_every_size true false) (kinds_of_every_size false true ++ kinds_of_every_size true true) is)
by_flags key false true _ _ is =
    in_second (same_column (Some key)) (kinds_of_every_size false false) (kinds_of_every_size true false ++ kinds_of_every_size false true ++ kinds_of_every_size true true)
    (in_second (same_column (Some key)) (kinds_of_every_size true false) (kinds_of_every_size false true ++ kinds_of_every_size true true)
    (in_first (same_column (Some key)) (kinds_of_every_size false true) (kinds_of_every_size true true) is))
by_flags key true true _ _ is =
    in_second (same_column (Some key)) (kinds_of_every_size false false) (kinds_of_every_size true false ++ kinds_of_every_size false true ++ kinds_of_every_size true true)
    (in_second (same_column (Some key)) (kinds_of_every_size true false) (kinds_of_every_size false true ++ kinds_of_every_size true true)
    (in_second (same_column (Some key)) (kinds_of_every_size false true) (kinds_of_every_size true true) is))

pub has_every_kind : HasEveryKind
has_every_kind key least most =
    by_flags key key.authenticated key.secure refl refl (found key 10 7 least (omega (arith, most)))

-- none is left after the last size
by_none : (left size : ℕ) (authenticated secure : Bool) → left ≡ 0 → kinds_from left size authenticated secure ≡ []
unfolding kinds_from
by_none left size authenticated secure is = ap (λ (it : ℕ). kinds_from it size authenticated secure) is

pub none_left : (size : ℕ) (authenticated secure : Bool) → 17 ≤ size → kinds_from (17 - size) size authenticated secure ≡ []
none_left size authenticated secure after = by_none (17 - size) size authenticated secure (omega (arith, after))
