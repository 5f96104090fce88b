-- How the handles of one type are found among those of all by type.
use Rattle.std.proofs.Common.{◌≡◌, ℕ, zero, suc, ◌+◌, ◌-◌, ◌<◌, ◌≤◌, Bool, true, false, ◌==◌, ◌&&◌, not, cond, List, [], ◌∷◌, ◌++◌, length, map, take, drop, get_or, refl, sym, ap, subst, ◌∙◌, inl, inr, ◌⊎◌, rules, arith, length-append, length-drop}
use Rattle.std.proofs.Math.Seq.{drop-nil}
use Rattle.std.proofs.lemmas.Bool.{cases_lt}
use Rattle.std.proofs.lemmas.List.{length-map, drop_more, drop_all, length-take, same_lists, places as list_places}
use Rattle.std.proofs.lemmas.Bool.Decides.{nat_tests}
use Rattle.std.specs.Prelude.{min, nat_le, nat_lt, slice_get}
use Rattle.std.specs.List.{filter, insert}
use Rattle.std.specs.Option.{option_map_or}
use Rattle.att_attributes.specs.declared.attr.Attr.{Attr}
use Rattle.att_attributes.specs.Attributes.{type_at, HaveHandlesFrom, IsNumbered}
use Rattle.att_attributes.specs.OfType.{handles_of_type, handles_by_type}
use Rattle.att_attributes.specs.TypeIndex.{put, by_type, place_of, is_before, place_from, handles_within, AllAfter, IsOrdered, AreAbove, IsAscending, AllAbove, IsIndex}
use Rattle.att_attributes.proofs.Search.{test_false, test_true}
use Rattle.att_attributes.proofs.TypeOrder.{above_put, between, closed, closed_ascending, filter_by_kind, is_between, length_by_kind, ordered_put, place_at, place_below, place_within, put_inserts}
use Rattle.att_numbers.specs.declared.limit.TheConstants.{MAX_ATTRIBUTES}

-- the handles of a type in a range
abbrev pub is_of : (ℕ → ℕ) → ℕ → ℕ → ℕ → ℕ → Bool
is_of kind k first last x = (kind x == k) && (nat_le first x && nat_le x last)

is_of_type : (kx k : ℕ) → not (nat_lt kx k) && nat_lt kx (k + 1) ≡ (kx == k)
is_of_type kx k = grind (arith, nat_tests)

is_within : (first last x : ℕ) → not (nat_lt x first) && nat_lt x (last + 1) ≡ nat_le first x && nat_le x last
is_within first last x = grind (arith, nat_tests)

filter_same : (p q : ℕ → Bool) (xs : List ℕ) → ((x : ℕ) → p x ≡ q x) → filter p xs ≡ filter q xs
filter_same p q [] same = refl
filter_same p q (x ∷ xs) same = rw (same x) (ap (λ l. cond (q x) (x ∷ l) l) (filter_same p q xs same))

filter_twice : (p q : ℕ → Bool) (xs : List ℕ) → filter q (filter p xs) ≡ filter (λ x. p x && q x) xs
filter_twice p q [] = refl
filter_twice p q (x ∷ xs) = elim (p x) as
    (λ b. filter q (cond b (x ∷ filter p xs) (filter p xs)) ≡ cond (b && q x) (x ∷ filter (λ x. p x && q x) xs) (filter (λ x. p x && q x) xs)) [
      | true ↦ ap (λ l. cond (q x) (x ∷ l) l) (filter_twice p q xs)
      | false ↦ filter_twice p q xs
    ]

is_of_kind : (kx k first last x : ℕ) → (kx == k) && (nat_le first x && nat_le x last) ≡ true → kx ≡ k
is_of_kind kx k first last x passes = grind (arith, nat_tests)

abbrev pub AllKinds : (ℕ → ℕ) → List Attr → Type 0
AllKinds kind [] = Unit
AllKinds kind (attr ∷ rest) = (kind attr.handle ≡ attr.kind) × AllKinds kind rest

abbrev pub handles_of : List Attr → List ℕ
handles_of attributes = map (λ (attr : Attr). attr.handle) attributes

abbrev pub of_kind : ℕ → List Attr → List ℕ
of_kind k attributes = handles_of (filter (λ (attr : Attr). attr.kind == k) attributes)

test_out : (kx k first last x : ℕ) → (x < first) ⊎ (last < x) → (kx == k) && (nat_le first x && nat_le x last) ≡ false
test_out kx k first last x (inl below) = grind (arith, nat_tests)
test_out kx k first last x (inr above) = grind (arith, nat_tests)

test_in : (kx k first last x : ℕ) → first ≤ x → x ≤ last → (kx == k) && (nat_le first x && nat_le x last) ≡ (kx == k)
test_in kx k first last x low high = grind (arith, nat_tests)

take-nothing : (n : ℕ) → take {A = Attr} n [] ≡ []
take-nothing zero = refl
take-nothing (suc n) = refl

range : (kind : ℕ → ℕ) (attributes : List Attr) (h k first last : ℕ) → HaveHandlesFrom (h + 1) attributes → AllKinds kind attributes
    → filter (is_of kind k first last) (handles_of attributes) ≡ of_kind k (drop (first - 1 - h) (take (last - h) attributes))
range kind [] h k first last handles kinds =
    ap (of_kind k) (sym (ap (drop (first - 1 - h)) (take-nothing (last - h)) ∙ drop-nil (first - 1 - h)))
range kind (attr ∷ rest) h k first last handles kinds =
    let later = range kind rest (h + 1) k first last handles.1 kinds.1 in
    elim (cases_lt h last) [
      | inr past ↦
          let none : last - h ≡ 0 = omega arith in
          let none_later : last - (h + 1) ≡ 0 = omega arith in
          let out = test_out (kind attr.handle) k first last attr.handle (inr (omega (arith, handles.0))) in
          rw (out, none) (later ∙ rw none_later (ap (of_kind k) (drop-nil (first - 1 - (h + 1)) ∙ sym (drop-nil (first - 1 - h)))))
      | inl within ↦
          let left : last - h ≡ suc (last - (h + 1)) = omega arith in
          elim (cases_lt (h + 1) first) [
            | inl before ↦
                let skip : first - 1 - h ≡ suc (first - 1 - (h + 1)) = omega arith in
                let out = test_out (kind attr.handle) k first last attr.handle (inl (omega (arith, handles.0))) in
                rw (out, left, skip) later
            | inr begun ↦
                let no_skip : first - 1 - h ≡ 0 = omega arith in
                let none_later : first - 1 - (h + 1) ≡ 0 = omega arith in
                let in_range = test_in (kind attr.handle) k first last attr.handle (omega (arith, handles.0)) (omega (arith, handles.0)) in
                let tail : filter (is_of kind k first last) (handles_of rest) ≡ of_kind k (take (last - (h + 1)) rest) =
                later ∙ ap (λ n. of_kind k (drop n (take (last - (h + 1)) rest))) none_later in
                rw (in_range, kinds.0, left, no_skip, tail)
                (elim (attr.kind == k) as (λ b. cond b (attr.handle ∷ of_kind k (take (last - (h + 1)) rest)) (of_kind k (take (last - (h + 1)) rest))
                ≡ handles_of
                (cond b (attr ∷ filter (λ (a : Attr). a.kind == k) (take (last - (h + 1)) rest))
                (filter (λ (a : Attr). a.kind == k) (take (last - (h + 1)) rest)))) [
                  | true ↦ refl
                  | false ↦ refl
                ])
          ]
    ]

-- each handle has the type of its attribute
all_kinds : (kind : ℕ → ℕ) (attributes : List Attr) (h : ℕ) → HaveHandlesFrom (h + 1) attributes
    → ((i : ℕ) → kind (h + 1 + i) ≡ option_map_or (λ (attr : Attr). attr.kind) (slice_get attributes i) 0) → AllKinds kind attributes
all_kinds kind [] h handles read = tt
all_kinds kind (attr ∷ rest) h handles read =
    let at : attr.handle ≡ h + 1 + 0 = omega (arith, handles.0) in
    let step : (i : ℕ) → h + 1 + 1 + i ≡ h + 1 + suc i = λ i. omega arith in
    (ap kind at ∙ read 0, all_kinds kind rest (h + 1) handles.1 (λ i. ap kind (step i) ∙ read (suc i)))

kind_read : (attributes : List Attr) (i : ℕ) → type_at attributes (0 + 1 + i) ≡ option_map_or (λ (attr : Attr). attr.kind) (slice_get attributes i) 0
kind_read attributes i =
    let place : 0 + 1 + i - 1 ≡ i = omega arith in
    let test : (0 + 1 + i == 0) ≡ false = grind (arith, nat_tests) in
    rw (test, place) refl

-- the index is one of these attributes
above_less : (low more last : ℕ) (xs : List ℕ) → low ≤ more → AllAbove more last xs → AllAbove low last xs
above_less low more last [] le above = tt
above_less low more last (x ∷ xs) le above = (omega (arith, above.0), above.1, above_less low more last xs le above.2)

ordered_from : (kind : ℕ → ℕ) (attributes : List Attr) (h last : ℕ) → HaveHandlesFrom (h + 1) attributes → h + length attributes ≤ last
    → AllAbove h last (by_type kind (handles_of attributes)) × IsOrdered kind (by_type kind (handles_of attributes))
ordered_from kind [] h last handles most = (tt, tt)
ordered_from kind (attr ∷ rest) h last handles most =
    let later = ordered_from kind rest (h + 1) last handles.1 (omega arith) in
    let index = by_type kind (handles_of rest) in
    let above : AllAbove attr.handle last index = subst (λ n. AllAbove n last index) (sym handles.0) later.0 in (
      above_put kind h attr.handle last index (omega (arith, handles.0)) (omega (arith, handles.0)) (above_less h (h + 1) last index (omega arith) later.0),
      ordered_put kind attr.handle last index above later.1,
    )

handles_drop : (attributes : List Attr) (h place : ℕ) → HaveHandlesFrom (h + 1) attributes → HaveHandlesFrom (h + place + 1) (drop place attributes)
handles_drop attributes h zero handles = subst (λ n. HaveHandlesFrom n attributes) (omega arith) handles
handles_drop [] h (suc place) handles = tt
handles_drop (attr ∷ rest) h (suc place) handles =
    subst (λ n. HaveHandlesFrom n (drop place rest)) (omega arith) (handles_drop rest (h + 1) place handles.1)

pub index_from : (attributes : List Attr) (place : ℕ) → IsNumbered attributes → place ≤ length attributes
    → IsIndex (type_at attributes) (length attributes) (by_type (type_at attributes) (handles_of (drop place attributes)))
index_from attributes place numbered within =
    let long = length-drop place attributes in
    let both = ordered_from (type_at attributes) (drop place attributes) (0 + place) (length attributes) (handles_drop attributes 0 place numbered.handles)
    (omega (arith, long)) in
    record { within = above_less 0 (0 + place) (length attributes) _ (omega arith) both.0; ordered = both.1 }

pub index_of : (attributes : List Attr) → IsNumbered attributes → IsIndex (type_at attributes) (length attributes) (handles_by_type attributes)
index_of attributes numbered = index_from attributes 0 numbered (omega arith)

pub length-handles_by_type : (attributes : List Attr) → length (handles_by_type attributes) ≡ length attributes
length-handles_by_type attributes = length_by_kind (type_at attributes) (handles_of attributes) ∙ length-map attributes (λ (attr : Attr). attr.handle)

less_none : (n : ℕ) → n - 0 ≡ n
less_none n = omega arith

pub index_given : (attributes : List Attr) (index : List ℕ) → IsNumbered attributes → index ≡ handles_by_type attributes
    → IsIndex (type_at attributes) (length attributes) index
index_given attributes index numbered is = subst (λ l. IsIndex (type_at attributes) (length attributes) l) (sym is) (index_of attributes numbered)

pub length_given : (attributes : List Attr) (index : List ℕ) → IsNumbered attributes → index ≡ handles_by_type attributes → length index ≤ MAX_ATTRIBUTES
length_given attributes index numbered is = omega (arith, ap length is, length-handles_by_type attributes, numbered.most)

-- where the end does not stand behind the start, there is none
drop_taken : (index : List ℕ) (start end : ℕ) → end ≤ start → drop start (take end index) ≡ []
drop_taken index start end less = drop_all start (take end index) (omega (arith, length-take end index))

pub take_of_drop : (index : List ℕ) (start end : ℕ) → start ≤ end → take (end - start) (drop start index) ≡ drop start (take end index)
take_of_drop index start end before = same_lists _ _ (search (rules, list_places)) (λ k d h. grind (arith, list_places))

-- the run of a type is those of the type, in ascending order
abbrev pub run_in : (ℕ → ℕ) → List ℕ → ℕ → List ℕ
run_in kind index k = drop (place_of kind index k) (take (place_of kind index (k + 1)) index)

run_is : (kind : ℕ → ℕ) (index : List ℕ) (k : ℕ) → IsOrdered kind index → run_in kind index k ≡ filter (λ x. kind x == k) index
run_is kind index k ordered =
    between (λ x. nat_lt (kind x) k) (λ x. nat_lt (kind x) (k + 1)) index (closed kind k index ordered) (closed kind (k + 1) index ordered)
    ∙ filter_same (is_between (λ x. nat_lt (kind x) k) (λ x. nat_lt (kind x) (k + 1))) (λ x. kind x == k) index (λ x. is_of_type (kind x) k)

above_of_type : (kx x ky y k : ℕ) → kx ≡ k → ky ≡ k → is_before kx x ky y ≡ true → x < y
above_of_type kx x ky y k own other passes = grind (arith, nat_tests)

above_filter : (kind : ℕ → ℕ) (k x : ℕ) (xs : List ℕ) → kind x ≡ k → AllAfter kind x xs → AreAbove x (filter (λ y. kind y == k) xs)
above_filter kind k x [] own after = tt
above_filter kind k x (y ∷ ys) own after =
    let goal : (b : Bool) → (kind y == k) ≡ b → AreAbove x (cond b (y ∷ filter (λ y. kind y == k) ys) (filter (λ y. kind y == k) ys)) =
    λ b. elim b as (λ b. (kind y == k) ≡ b → AreAbove x (cond b (y ∷ filter (λ y. kind y == k) ys) (filter (λ y. kind y == k) ys))) [
      | true ↦ λ same. (above_of_type (kind x) x (kind y) y k own (grind (arith, nat_tests)) after.0, above_filter kind k x ys own after.1)
      | false ↦ λ other. above_filter kind k x ys own after.1
    ] in
    goal (kind y == k) refl

ascending_filter : (kind : ℕ → ℕ) (k : ℕ) (xs : List ℕ) → IsOrdered kind xs → IsAscending (filter (λ y. kind y == k) xs)
ascending_filter kind k [] ordered = tt
ascending_filter kind k (x ∷ xs) ordered =
    let goal : (b : Bool) → (kind x == k) ≡ b → IsAscending (cond b (x ∷ filter (λ y. kind y == k) xs) (filter (λ y. kind y == k) xs)) =
    λ b. elim b as (λ b. (kind x == k) ≡ b → IsAscending (cond b (x ∷ filter (λ y. kind y == k) xs) (filter (λ y. kind y == k) xs))) [
      | true ↦ λ same. (above_filter kind k x xs (grind (arith, nat_tests)) ordered.0, ascending_filter kind k xs ordered.1)
      | false ↦ λ other. ascending_filter kind k xs ordered.1
    ] in
    goal (kind x == k) refl

pub run_ascending : (kind : ℕ → ℕ) (index : List ℕ) (k : ℕ) → IsOrdered kind index → IsAscending (run_in kind index k)
run_ascending kind index k ordered = subst IsAscending (sym (run_is kind index k ordered)) (ascending_filter kind k index ordered)

pub found : (attributes : List Attr) (index : List ℕ) (k first last : ℕ) → IsNumbered attributes → index ≡ handles_by_type attributes
    → handles_within first last (run_in (type_at attributes) index k) ≡ handles_of_type attributes k first last
found attributes index k first last numbered is =
    let kind = type_at attributes in
    let all = handles_by_type attributes in
    let ordered : IsOrdered kind all = (index_of attributes numbered).ordered in
    ap (λ (l : List ℕ). handles_within first last (run_in kind l k)) is
    ∙ ap (handles_within first last) (run_is kind all k ordered)
    ∙ filter_twice (λ x. kind x == k) (λ x. nat_le first x && nat_le x last) all
    ∙ filter_by_kind kind k (is_of kind k first last) (handles_of attributes) (λ x passes. is_of_kind (kind x) k first last x passes)
    ∙ range kind attributes 0 k first last numbered.handles (all_kinds kind attributes 0 numbered.handles (kind_read attributes))
    ∙ ap (λ n. of_kind k (drop n (take (last - 0) attributes))) (less_none (first - 1))
    ∙ ap (λ n. of_kind k (drop (first - 1) (take n attributes))) (less_none last)

-- where the places of types stand to each other
type_less : (kx k more : ℕ) → k ≤ more → nat_lt kx k ≡ true → nat_lt kx more ≡ true
type_less kx k more le passes = grind (arith, nat_tests)

pub place_less : (kind : ℕ → ℕ) (index : List ℕ) (k more : ℕ) → k ≤ more → place_of kind index k ≤ place_of kind index more
place_less kind [] k more le = omega arith
place_less kind (x ∷ xs) k more le =
    let later = place_less kind xs k more le in
    let goal : (b : Bool) → nat_lt (kind x) k ≡ b → cond b (1 + place_of kind xs k) 0 ≤ cond (nat_lt (kind x) more) (1 + place_of kind xs more) 0 =
    λ b. elim b as (λ b. nat_lt (kind x) k ≡ b → cond b (1 + place_of kind xs k) 0 ≤ cond (nat_lt (kind x) more) (1 + place_of kind xs more) 0) [
      | true ↦ λ passes. rw (type_less (kind x) k more le passes) (omega (arith, later))
      | false ↦ λ fails. omega arith
    ] in
    goal (nat_lt (kind x) k) refl

not_below : (k : ℕ) → nat_lt k k ≡ false
not_below k = grind (arith, nat_tests)

below_next : (k : ℕ) → nat_lt k (k + 1) ≡ true
below_next k = grind (arith, nat_tests)

-- the run of a handle's type has its place
pub run_has : (kind : ℕ → ℕ) (index : List ℕ) (place k : ℕ) → IsOrdered kind index → place < length index → kind (get_or index place 0) ≡ k
    → (place_of kind index k ≤ place) × (place < place_of kind index (k + 1))
run_has kind index place k ordered within own = (
  place_at (λ x. nat_lt (kind x) k) index place 0 within (ap (λ n. nat_lt n k) own ∙ not_below k),
  place_below (λ x. nat_lt (kind x) (k + 1)) index place 0 (closed kind (k + 1) index ordered) within (ap (λ n. nat_lt n (k + 1)) own ∙ below_next k),
)

-- an entry is a handle of the table
pub above_at : (low last : ℕ) (xs : List ℕ) (i d : ℕ) → AllAbove low last xs → i < length xs → (low < get_or xs i d) × (get_or xs i d ≤ last)
above_at low last [] i d above within = absurd (omega arith)
above_at low last (x ∷ xs) zero d above within = (above.0, above.1)
above_at low last (x ∷ xs) (suc i) d above within = above_at low last xs i d above.2 (omega arith)

-- what is shown of the index as it is made, from the back
pub index_so_far : (attributes : List Attr) (shown items : List ℕ) (place : ℕ) → IsNumbered attributes → place ≤ length attributes
    → shown ≡ items → items ≡ by_type (type_at attributes) (handles_of (drop place attributes))
    → IsIndex (type_at attributes) (length attributes) shown
index_so_far attributes shown items place numbered within is so_far =
    subst (λ l. IsIndex (type_at attributes) (length attributes) l) (sym (is ∙ so_far)) (index_from attributes place numbered within)

kinds_at : (kind : ℕ → ℕ) (attributes : List Attr) (i : ℕ) (d : Attr) → AllKinds kind attributes → i < length attributes
    → kind (get_or attributes i d).handle ≡ (get_or attributes i d).kind
kinds_at kind [] i d kinds within = absurd (omega arith)
kinds_at kind (attr ∷ rest) zero d kinds within = kinds.0
kinds_at kind (attr ∷ rest) (suc i) d kinds within = kinds_at kind rest i d kinds.1 (omega arith)

pub one_more : (attributes : List Attr) (shown items made : List ℕ) (place at : ℕ) (d : Attr) → IsNumbered attributes → 0 < place → place ≤ length attributes
    → shown ≡ items → items ≡ by_type (type_at attributes) (handles_of (drop place attributes))
    → at ≡ place_of (type_at attributes) shown (get_or attributes (place - 1) d).kind
    → made ≡ insert items at (get_or attributes (place - 1) d).handle
    → made ≡ by_type (type_at attributes) (handles_of (drop (place - 1) attributes))
one_more attributes shown items made place at d numbered first within is so_far found_at inserted =
    let kind = type_at attributes in
    let attr = get_or attributes (place - 1) d in
    let below : place - 1 < length attributes = omega arith in
    let next : place - 1 + 1 ≡ place = omega arith in
    let own : kind attr.handle ≡ attr.kind =
    kinds_at kind attributes (place - 1) d (all_kinds kind attributes 0 numbered.handles (kind_read attributes)) below in
    let here : at ≡ place_of kind items (kind attr.handle) =
    found_at ∙ ap (λ (l : List ℕ). place_of kind l attr.kind) is ∙ ap (place_of kind items) (sym own) in
    let front : drop (place - 1) attributes ≡ attr ∷ drop place attributes =
    drop_more attributes (place - 1) d below ∙ ap (λ n. attr ∷ drop n attributes) next in
    inserted
    ∙ ap (λ n. insert items n attr.handle) here
    ∙ put_inserts kind attr.handle items
    ∙ ap (put kind attr.handle) so_far
    ∙ ap (λ l. by_type kind (handles_of l)) (sym front)

-- one more attribute, at the next handle
handles_push : (attributes : List Attr) (attr : Attr) (first : ℕ) → HaveHandlesFrom first attributes → attr.handle ≡ length attributes + first
    → HaveHandlesFrom first (attributes ++ attr ∷ [])
handles_push [] attr first handles next = (omega (arith, next), tt)
handles_push (head ∷ rest) attr first handles next =
    (handles.0, handles_push rest attr (first + 1) handles.1 (omega (arith, next)))

pub numbered_pushed : (attributes : List Attr) (attr : Attr) → IsNumbered attributes → length attributes < MAX_ATTRIBUTES → attr.handle ≡ length attributes + 1
    → IsNumbered (attributes ++ attr ∷ [])
numbered_pushed attributes attr numbered room next =
    let long = length-append attributes (attr ∷ []) in
    record { handles = handles_push attributes attr 1 numbered.handles next; most = omega (arith, long) }

pub none_between : (attributes : List Attr) (index : List ℕ) (k first last : ℕ) → IsNumbered attributes → index ≡ handles_by_type attributes
    → place_of (type_at attributes) index (k + 1) ≤ place_of (type_at attributes) index k → [] ≡ handles_of_type attributes k first last
none_between attributes index k first last numbered is none =
    let kind = type_at attributes in
    sym (ap (handles_within first last) (drop_taken index (place_of kind index k) (place_of kind index (k + 1)) none))
    ∙ found attributes index k first last numbered is

-- handles in ascending order, from one end found to the other
pub range_between : (handles : List ℕ) (first last start end : ℕ) → IsAscending handles → start ≡ min (place_from handles first) end
    → end ≡ place_from handles (last + 1) → drop start (take end handles) ≡ handles_within first last handles
range_between handles first last start end ascending at to =
    let from = place_from handles first in
    let all = drop from (take (place_from handles (last + 1)) handles) in
    let same : drop start (take end handles) ≡ drop from (take end handles) =
    elim (cases_lt end from) [
      | inl past ↦ drop_taken handles start end (omega (arith, at)) ∙ sym (drop_taken handles from end (omega arith))
      | inr within ↦ let is : start ≡ from = omega (arith, at) in ap (λ n. drop n (take end handles)) is
    ] in
    same
    ∙ ap (λ n. drop from (take n handles)) to
    ∙ between (λ x. nat_lt x first) (λ x. nat_lt x (last + 1)) handles (closed_ascending first handles ascending)
    (closed_ascending (last + 1) handles ascending)
    ∙ filter_same (is_between (λ x. nat_lt x first) (λ x. nat_lt x (last + 1))) (λ x. nat_le first x && nat_le x last) handles (λ x. is_within first last x)

-- the same where none is above the last
pub take_all : (xs : List ℕ) → take (length xs) xs ≡ xs
take_all [] = refl
take_all (x ∷ xs) = ap (λ l. x ∷ l) (take_all xs)

pub all_up_to : (handles : List ℕ) (last : ℕ) → IsAscending handles → 0 < length handles → get_or handles (length handles - 1) 0 ≤ last
    → place_from handles (last + 1) ≡ length handles
all_up_to handles last ascending some most =
    let highest = length handles - 1 in
    let below = place_below (λ x. nat_lt x (last + 1)) handles highest 0 (closed_ascending (last + 1) handles ascending) (omega arith)
    (test_true (get_or handles highest 0) (get_or handles highest 0) (last + 1) refl (omega arith)) in
    omega (arith, below, place_within (λ x. nat_lt x (last + 1)) handles)

pub none_below : (handles : List ℕ) (first : ℕ) → 0 < length handles → first ≤ get_or handles 0 0 → place_from handles first ≤ 0
none_below handles first some least =
    place_at (λ x. nat_lt x first) handles 0 0 some (test_false (get_or handles 0 0) (get_or handles 0 0) first refl least)

pub range_to_last : (handles : List ℕ) (first last start : ℕ) → IsAscending handles → 0 < length handles → get_or handles (length handles - 1) 0 ≤ last
    → start ≡ min (place_from handles first) (length handles) → drop start handles ≡ handles_within first last handles
range_to_last handles first last start ascending some most at =
    ap (drop start) (sym (take_all handles))
    ∙ range_between handles first last start (length handles) ascending at (sym (all_up_to handles last ascending some most))

pub highest_past : (handles : List ℕ) (last : ℕ) → 0 < length handles → last < get_or handles (length handles - 1) 0
    → place_from handles (last + 1) ≤ length handles - 1
highest_past handles last some more =
    let highest = length handles - 1 in
    place_at (λ x. nat_lt x (last + 1)) handles highest 0 (omega arith)
    (test_false (get_or handles highest 0) (get_or handles highest 0) (last + 1) refl (omega arith))
