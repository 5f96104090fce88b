-- The entries of a row that are kept as handles and the bits at them.
use Rattle.std.proofs.Common.{◌≡◌, ℕ, zero, suc, ◌+◌, ◌<◌, ◌≤◌, ◌==◌, if◌then◌else◌, List, [], ◌∷◌, ◌++◌, length, take, drop, replicate, get_or, set, Some, None, refl, ap, sym, subst, ◌∙◌, arith}
use Rattle.std.specs.Prelude.{slice_get}
use Rattle.std.specs.List.{All, position, zip}
use Rattle.std.proofs.lemmas.List.{drop-drop, drop-set-lt}
use Rattle.std.proofs.lemmas.List.Elements.{All-drop, All-head, All-replicate, All-tail}
use Rattle.std.proofs.lemmas.List.Quantifiers.{position-Some}
use Rattle.std.proofs.lemmas.Bool.Decides.{nat_tests}
use Rattle.std.proofs.lemmas.Grind.{common_steps}
use Rattle.att_numbers.specs.Types.{Handle, Row}
use Rattle.att_table.specs.ConfigRow.{bits_at, with_bits}
use Rattle.att_table.proofs.Rows.{set_found}

-- as many as are taken
pub length_of : (handles bits : List ℕ) (n : ℕ) → n ≤ length handles → n ≤ length bits → length (take n (zip handles bits)) ≡ n
length_of [] bits zero few also = refl
length_of [] bits (suc n) few also = absurd (omega arith)
length_of (handle ∷ handles) [] zero few also = refl
length_of (handle ∷ handles) [] (suc n) few also = absurd (omega arith)
length_of (handle ∷ handles) (own ∷ bits) zero few also = refl
length_of (handle ∷ handles) (own ∷ bits) (suc n) few also = ap suc (length_of handles bits n (omega arith) (omega arith))

-- each has the handle and the bits at its place
pub at_place : (handles bits : List ℕ) (n place : ℕ) → n ≤ length handles → n ≤ length bits → place < n
    → slice_get (take n (zip handles bits)) place ≡ Some (get_or handles place 0, get_or bits place 0)
at_place [] bits n place few also within = absurd (omega arith)
at_place (handle ∷ handles) [] n place few also within = absurd (omega arith)
at_place (handle ∷ handles) (own ∷ bits) zero place few also within = absurd (omega arith)
at_place (handle ∷ handles) (own ∷ bits) (suc n) zero few also within = refl
at_place (handle ∷ handles) (own ∷ bits) (suc n) (suc place) few also within = at_place handles bits n place (omega arith) (omega arith) (omega arith)

-- an entry is where its handle is, if it is one of those that are taken
pub entry_found : (handles bits : List ℕ) (n handle place : ℕ) → n ≤ length bits → position (λ own. own == handle) handles ≡ Some place → place < n
    → position (λ (entry : Handle × ℕ). entry.0 == handle) (take n (zip handles bits)) ≡ Some place
entry_found [] bits n handle place also found within = grind arith
entry_found (own ∷ handles) [] n handle place also found within = absurd (omega arith)
entry_found (own ∷ handles) (first ∷ bits) zero handle place also found within = absurd (omega arith)
entry_found (own ∷ handles) (first ∷ bits) (suc n) handle zero also found within = grind (arith, common_steps)
entry_found (own ∷ handles) (first ∷ bits) (suc n) handle (suc place) also found within = grind (arith, common_steps, entry_found handles bits n handle place)

pub entry_beyond : (handles bits : List ℕ) (n handle place : ℕ) → position (λ own. own == handle) handles ≡ Some place → n ≤ place
    → position (λ (entry : Handle × ℕ). entry.0 == handle) (take n (zip handles bits)) ≡ None
entry_beyond [] bits n handle place found beyond = grind arith
entry_beyond (own ∷ handles) [] zero handle place found beyond = refl
entry_beyond (own ∷ handles) [] (suc n) handle place found beyond = refl
entry_beyond (own ∷ handles) (first ∷ bits) zero handle place found beyond = refl
entry_beyond (own ∷ handles) (first ∷ bits) (suc n) handle zero found beyond = absurd (omega arith)
entry_beyond (own ∷ handles) (first ∷ bits) (suc n) handle (suc place) found beyond = grind (arith, common_steps, entry_beyond handles bits n handle place)

pub entry_missing : (handles bits : List ℕ) (n handle : ℕ) → n ≤ length bits → position (λ own. own == handle) (take n handles) ≡ None
    → position (λ (entry : Handle × ℕ). entry.0 == handle) (take n (zip handles bits)) ≡ None
entry_missing [] bits zero handle also missing = refl
entry_missing [] bits (suc n) handle also missing = refl
entry_missing (own ∷ handles) [] zero handle also missing = refl
entry_missing (own ∷ handles) [] (suc n) handle also missing = absurd (omega arith)
entry_missing (own ∷ handles) (first ∷ bits) zero handle also missing = refl
entry_missing (own ∷ handles) (first ∷ bits) (suc n) handle also missing = grind (arith, common_steps, entry_missing handles bits n handle)

gotten : (handles bits : List ℕ) (n place : ℕ) → n ≤ length handles → n ≤ length bits → place < n
    → get_or (take n (zip handles bits)) place (0, 0) ≡ (get_or handles place 0, get_or bits place 0)
gotten [] bits n place few also within = absurd (omega arith)
gotten (handle ∷ handles) [] n place few also within = absurd (omega arith)
gotten (handle ∷ handles) (own ∷ bits) zero place few also within = absurd (omega arith)
gotten (handle ∷ handles) (own ∷ bits) (suc n) zero few also within = refl
gotten (handle ∷ handles) (own ∷ bits) (suc n) (suc place) few also within = gotten handles bits n place (omega arith) (omega arith) (omega arith)

set_in : (handles bits : List ℕ) (n place own : ℕ) → n ≤ length handles → n ≤ length bits → place < n
    → take n (zip handles (set bits place own)) ≡ set (take n (zip handles bits)) place (get_or handles place 0, own)
set_in [] bits n place own few also within = absurd (omega arith)
set_in (handle ∷ handles) [] n place own few also within = absurd (omega arith)
set_in (handle ∷ handles) (at ∷ bits) zero place own few also within = absurd (omega arith)
set_in (handle ∷ handles) (at ∷ bits) (suc n) zero own few also within = refl
set_in (handle ∷ handles) (at ∷ bits) (suc n) (suc place) own few also within =
    ap (λ (row : Row). (handle, at) ∷ row) (set_in handles bits n place own (omega arith) (omega arith) (omega arith))

-- where no bits are set behind the entries, the bits of an entry are found among all
pub bits_of_all : (handles bits : List ℕ) (n handle : ℕ) → All (λ own. own ≡ 0) (drop n bits) → bits_at (take n (zip handles bits)) handle
    ≡ bits_at (zip handles bits) handle
bits_of_all [] bits zero handle none = refl
bits_of_all [] bits (suc n) handle none = refl
bits_of_all (own ∷ handles) [] zero handle none = refl
bits_of_all (own ∷ handles) [] (suc n) handle none = refl
bits_of_all (own ∷ handles) (first ∷ bits) zero handle none =
    grind (
      arith,
      common_steps,
      All-head (λ (of : ℕ). of ≡ 0) first bits none,
      bits_of_all handles bits zero handle (All-tail (λ (of : ℕ). of ≡ 0) first bits none),
    )
bits_of_all (own ∷ handles) (first ∷ bits) (suc n) handle none =
    ap (λ (rest : ℕ). if own == handle then first else rest) (bits_of_all handles bits n handle none)

pub bits_found : (handles bits : List ℕ) (handle place : ℕ) → position (λ own. own == handle) handles ≡ Some place → bits_at (zip handles bits) handle
    ≡ get_or bits place 0
bits_found [] bits handle place found = grind arith
bits_found (own ∷ handles) [] handle place found = refl
bits_found (own ∷ handles) (first ∷ bits) handle zero found = grind (arith, common_steps)
bits_found (own ∷ handles) (first ∷ bits) handle (suc place) found = grind (arith, common_steps, bits_found handles bits handle place)

-- no bits are set behind the entries where there are none, and where there is one more
pub none_set : (n : ℕ) → All (λ (own : ℕ). own ≡ 0) (drop 0 (replicate n 0))
none_set n = All-replicate (λ (own : ℕ). own ≡ 0) n 0 refl

pub none_behind : (bits : List ℕ) (n own : ℕ) → All (λ (of : ℕ). of ≡ 0) (drop n bits) → All (λ (of : ℕ). of ≡ 0) (drop (n + 1) (set bits n own))
none_behind bits n own none =
    subst (All (λ (of : ℕ). of ≡ 0)) (sym (drop-set-lt (n + 1) bits n own (omega arith) ∙ sym (drop-drop 1 n bits)))
    (All-drop (λ (of : ℕ). of ≡ 0) 1 (drop n bits) none)

-- other bits are set at the place of an entry that is found
pub set_found_at : (handles bits : List ℕ) (n handle own place : ℕ) → n ≤ length handles → n ≤ length bits
    → position (λ (entry : Handle × ℕ). entry.0 == handle) (take n (zip handles bits)) ≡ Some place
    → take n (zip handles (set bits place own)) ≡ with_bits (take n (zip handles bits)) handle own
set_found_at handles bits n handle own place few also found =
    let row = take n (zip handles bits) in
    let at = position-Some (λ (entry : Handle × ℕ). entry.0 == handle) row place (0, 0) found in
    let within : place < n = omega (arith, at.0, length_of handles bits n few also) in
    let same : get_or handles place 0 ≡ handle = grind (arith, nat_tests, at.1, gotten handles bits n place few also within) in
    set_in handles bits n place own few also within ∙ ap (λ (of : ℕ). set row place (of, own)) same ∙ set_found row handle own place found

-- an entry more
next_entry : (handles bits : List ℕ) (n handle own : ℕ) → n < length handles → n < length bits
    → take (suc n) (zip (set handles n handle) (set bits n own)) ≡ take n (zip handles bits) ++ (handle, own) ∷ []
next_entry [] bits n handle own few also = absurd (omega arith)
next_entry (of ∷ handles) [] n handle own few also = absurd (omega arith)
next_entry (of ∷ handles) (at ∷ bits) zero handle own few also = refl
next_entry (of ∷ handles) (at ∷ bits) (suc n) handle own few also =
    ap (λ (row : Row). (of, at) ∷ row) (next_entry handles bits n handle own (omega arith) (omega arith))

pub one_more : (handles bits : List ℕ) (n handle own : ℕ) → n < length handles → n < length bits
    → take (n + 1) (zip (set handles n handle) (set bits n own)) ≡ take n (zip handles bits) ++ (handle, own) ∷ []
one_more handles bits n handle own few also =
    let next : n + 1 ≡ suc n = omega arith in
    ap (λ (k : ℕ). take k (zip (set handles n handle) (set bits n own))) next ∙ next_entry handles bits n handle own few also
