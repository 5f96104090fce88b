-- How candidates are listed one after another.
use Rattle.std.proofs.Common.{◌≡◌, ◌<◌, ◌≤◌, ℕ, ◌+◌, ◌-◌, ◌*◌, ◌/◌, Bool, true, false, List, None, [], ◌∷◌, ◌++◌, length, take, zero, suc, refl, sym, ap, ◌∙◌, arith, append_assoc, length-append, length-take}
use Rattle.std.specs.Prelude.{take_while, cond, min, map}
use Rattle.std.proofs.Math.Nat.{div-eq-sub-div, div-eq_of_lt, le-div_iff_mul-le, mul_comm}
use Rattle.std.proofs.lemmas.Grind.{common_steps}
use Rattle.std.proofs.lemmas.List.{append-nil, length-map, take_all}
use Rattle.std.proofs.lemmas.List.Sums.{take_while-cons}
use Rattle.std.specs.List.{flat_map, prefix_len}
use Rattle.att_pdu.specs.Response.{element_octets}
use Rattle.att_reads.specs.Listing.{Candidate, candidate_size, is_listed, run_within, elements, elements_within, with_listed, HasNext, HasNoNext}
use Rattle.octet_io.specs.Number.{Octets}

-- the octets of those that are listed
abbrev joined : List Candidate → Octets
joined candidates = flat_map element_octets (elements candidates)

-- with no candidates nothing is listed
take-none : (n : ℕ) → take {A = Candidate} n [] ≡ []
take-none zero = refl
take-none (suc n) = refl

pub listed_end : (mtu size : ℕ) (octets : List ℕ) → with_listed mtu size octets [] ≡ octets
listed_end mtu size octets =
    ap (λ candidates. octets ++ joined candidates) (take-none ((mtu - length octets) / size)) ∙ append-nil octets

-- a candidate that is listed comes first
pub rooms : (room size : ℕ) → 0 < size → size ≤ room → room / size ≡ suc ((room - size) / size)
rooms room size above fits =
    let less : room / size ≡ (room - size) / size + 1 = div-eq-sub-div above fits in
    let one_more : (room - size) / size + 1 ≡ suc ((room - size) / size) = omega arith in
    less ∙ one_more

listed_first : (room size : ℕ) (candidate : Candidate) (rest : List Candidate) → 0 < size → is_listed size candidate ≡ true → size ≤ room
    → run_within room size (candidate ∷ rest) ≡ candidate ∷ run_within (room - size) size rest
listed_first room size candidate rest above is fits =
    let run : take_while (is_listed size) (candidate ∷ rest) ≡ candidate ∷ take_while (is_listed size) rest =
    take_while-cons (is_listed size) candidate rest ∙ ap (λ test. cond test (candidate ∷ take_while (is_listed size) rest) []) is in
    ap (λ candidates. take (room / size) candidates) run
    ∙ ap (λ count. take count (candidate ∷ take_while (is_listed size) rest)) (rooms room size above fits)

pub listed_size : (size : ℕ) (candidate : Candidate) → is_listed size candidate ≡ true → length (element_octets candidate.element) ≡ size
listed_size size candidate is = grind (arith, common_steps, is)

pub listed_next : (mtu size : ℕ) (old new : List ℕ) (candidate : Candidate) (rest : List Candidate) → 0 < size → HasNext mtu size candidate old new
    → with_listed mtu size new rest ≡ with_listed mtu size old (candidate ∷ rest)
listed_next mtu size old new candidate rest above next =
    let size_is : length (element_octets candidate.element) ≡ size = listed_size size candidate next.listed in
    let grown : length new ≡ length old + size =
    ap length next.appended ∙ length-append old (element_octets candidate.element) ∙ ap (λ n. length old + n) size_is in
    let fits : size ≤ mtu - length old = omega (arith, next.fits) in
    let left : mtu - length new ≡ (mtu - length old) - size = omega (arith, grown) in
    ap (λ octets. octets ++ joined (run_within (mtu - length new) size rest)) next.appended
    ∙ append_assoc old (element_octets candidate.element) _
    ∙ ap (λ room. old ++ (element_octets candidate.element ++ joined (run_within room size rest))) left
    ∙ ap (λ candidates. old ++ joined candidates) (sym (listed_first (mtu - length old) size candidate rest above next.listed fits))

-- and one that is not listed ends the list
none_listed : (room size : ℕ) (candidate : Candidate) (rest : List Candidate) (test : Bool) → 0 < size → is_listed size candidate ≡ test
    → (test ≡ true → room < size) → run_within room size (candidate ∷ rest) ≡ []
none_listed room size candidate rest true above is short =
    ap (λ count. take count (take_while (is_listed size) (candidate ∷ rest))) (div-eq_of_lt (short refl))
none_listed room size candidate rest false above is short =
    let run : take_while (is_listed size) (candidate ∷ rest) ≡ [] =
    take_while-cons (is_listed size) candidate rest ∙ ap (λ test. cond test (candidate ∷ take_while (is_listed size) rest) []) is in
    ap (λ candidates. take (room / size) candidates) run ∙ take-none (room / size)

no_room : (mtu size held : ℕ) → (held + size ≤ mtu → ⊥) → 0 < size → mtu - held < size
no_room mtu size held short above = omega (arith, short)

pub listed_stop : (mtu size : ℕ) (old new : List ℕ) (candidate : Candidate) (rest : List Candidate) → HasNoNext mtu size candidate old new → 0 < size
    → new ≡ with_listed mtu size old (candidate ∷ rest)
listed_stop mtu size old new candidate rest stop above =
    let none : run_within (mtu - length old) size (candidate ∷ rest) ≡ [] =
    none_listed (mtu - length old) size candidate rest (is_listed size candidate) above refl (λ is. no_room mtu size (length old) (stop.not_listed is) above) in
    stop.unchanged ∙ sym (ap (λ candidates. old ++ joined candidates) none ∙ append-nil old)

-- the first candidate begins the answer
pub list_begun : (opcode header mtu : ℕ) (first : Candidate) (rest : List Candidate) → first.refusal ≡ None → 0 < candidate_size first
    → 2 + candidate_size first ≤ mtu
    → with_listed mtu (candidate_size first) (opcode ∷ header ∷ element_octets first.element) rest ≡ opcode ∷ header
    ∷ flat_map element_octets (elements_within mtu (first ∷ rest))
list_begun opcode header mtu first rest permitted above fits =
    let octets = opcode ∷ header ∷ [] in
    let is : is_listed (candidate_size first) first ≡ true = grind (arith, common_steps, permitted) in
    let next : HasNext mtu (candidate_size first) first octets (octets ++ element_octets first.element) =
    record { listed = is; fits = fits; appended = refl } in
    listed_next mtu (candidate_size first) octets (octets ++ element_octets first.element) first rest above next

-- those that there is no room for need not be looked at
cut-at : (k : ℕ) (candidate : Candidate) (xs ys : List Candidate) (test : Bool) → take k xs ≡ take k ys
    → take (suc k) (cond test (candidate ∷ xs) []) ≡ take (suc k) (cond test (candidate ∷ ys) [])
cut-at k candidate xs ys true same = ap (λ candidates. candidate ∷ candidates) same
cut-at k candidate xs ys false same = refl

cut-empty : {A : Type 0} (n : ℕ) → take {A = A} n [] ≡ []
cut-empty zero = refl
cut-empty (suc n) = refl

cut_run : {A : Type 0} (of : A → Candidate) (size k : ℕ) (xs : List A)
    → take k (take_while (is_listed size) (map of (take (min (length xs) k) xs))) ≡ take k (take_while (is_listed size) (map of xs))
cut_run of size zero xs = refl
cut_run of size (suc k) [] = ap (λ left. take (suc k) (take_while (is_listed size) (map of left))) (cut-empty (min 0 (suc k)))
cut_run of size (suc k) (x ∷ xs) =
    let fewer : min (length (x ∷ xs)) (suc k) ≡ suc (min (length xs) k) = omega arith in
    ap (λ n. take (suc k) (take_while (is_listed size) (map of (take n (x ∷ xs))))) fewer
    ∙ ap (take (suc k)) (take_while-cons (is_listed size) (of x) (map of (take (min (length xs) k) xs)))
    ∙ cut-at k (of x) _ _ (is_listed size (of x)) (cut_run of size k xs)
    ∙ sym (ap (take (suc k)) (take_while-cons (is_listed size) (of x) (map of xs)))

pub listed_fitting : {A : Type 0} (of : A → Candidate) (mtu size count : ℕ) (octets : Octets) (xs : List A)
    → count ≡ min (length xs) ((mtu - length octets) / size)
    → with_listed mtu size octets (map of (take count xs)) ≡ with_listed mtu size octets (map of xs)
listed_fitting of mtu size count octets xs is =
    ap (λ n. with_listed mtu size octets (map of (take n xs))) is
    ∙ ap (λ candidates. octets ++ joined candidates) (cut_run of size ((mtu - length octets) / size) xs)

-- nor does the room matter where there is enough for all
all_listed : (room size : ℕ) (octets : Octets) (candidates : List Candidate) → length candidates ≤ (room - length octets) / size
    → with_listed room size octets candidates ≡ octets ++ joined (take_while (is_listed size) candidates)
all_listed room size octets candidates enough =
    let run = length-take (prefix_len (is_listed size) candidates) candidates in
    ap (λ listed. octets ++ joined listed) (take_all ((room - length octets) / size) (take_while (is_listed size) candidates) (omega (arith, run, enough)))

pub listed_in_room : {A : Type 0} (of : A → Candidate) (room mtu size count : ℕ) (octets : Octets) (xs : List A) → 0 < size
    → length octets + size * count ≤ room
    → count ≡ min (length xs) ((mtu - length octets) / size)
    → with_listed room size octets (map of (take count xs)) ≡ with_listed mtu size octets (map of xs)
listed_in_room of room mtu size count octets xs above enough is =
    let all = length-map (take count xs) of in
    let cut = length-take count xs in
    let product = mul_comm size count in
    let fits : count * size ≤ room - length octets = omega (arith, enough, product) in
    let in_room : count ≤ (room - length octets) / size = (le-div_iff_mul-le above).1 fits in
    all_listed room size octets (map of (take count xs)) (omega (arith, all, cut, in_room))
    ∙ sym (all_listed mtu size octets (map of (take count xs)) (omega (arith, all, cut, is)))
    ∙ listed_fitting of mtu size count octets xs is
