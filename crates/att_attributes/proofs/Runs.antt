-- Where the runs of types stand in an index, and how they are found.
use Rattle.std.proofs.Common.{◌≡◌, ℕ, zero, suc, ◌+◌, ◌-◌, ◌<◌, ◌≤◌, Bool, true, false, List, [], ◌∷◌, ◌++◌, length, map, take, drop, get_or, refl, sym, ap, ◌∙◌, arith, length-drop}
use Rattle.std.proofs.lemmas.List.{length-take}
use Rattle.std.proofs.lemmas.List.Sums.{prefix_len_passes}
use Rattle.std.proofs.lemmas.Bool.Decides.{nat_tests}
use Rattle.std.specs.Prelude.{nat_lt}
use Rattle.att_attributes.specs.declared.attr.Attr.{Attr}
use Rattle.att_attributes.specs.declared.type_index.Run.{Run}
use Rattle.att_attributes.specs.Attributes.{type_at, IsNumbered}
use Rattle.att_attributes.specs.OfType.{handles_by_type, runs_by_type}
use Rattle.att_attributes.specs.TypeIndex.{place_of, run_of, runs_of, IsOrdered}
use Rattle.att_attributes.proofs.OfType.{index_given, place_less, run_has, run_in}
use Rattle.att_attributes.proofs.Search.{IsNarrowed}
use Rattle.att_attributes.proofs.TypeOrder.{closed, place_below, place_within}

-- the run that stands beside a handle
get_mapped : (f : ℕ → Run) (xs : List ℕ) (place : ℕ) (d : Run) → place < length xs → get_or (map f xs) place d ≡ f (get_or xs place 0)
get_mapped f [] place d within = absurd (omega arith)
get_mapped f (x ∷ xs) zero d within = refl
get_mapped f (x ∷ xs) (suc place) d within = get_mapped f xs place d (omega arith)

pub run_beside : (attributes : List Attr) (index : List ℕ) (runs : List Run) (place : ℕ) (d : Run) → index ≡ handles_by_type attributes
    → runs ≡ runs_by_type attributes → place < length index
    → get_or runs place d ≡ run_of (type_at attributes) index (type_at attributes (get_or index place 0))
run_beside attributes index runs place d is beside within =
    ap (λ (l : List Run). get_or l place d) (beside ∙ ap (runs_of (type_at attributes)) (sym is))
    ∙ get_mapped (λ handle. run_of (type_at attributes) index (type_at attributes handle)) index place d within

-- what stands beside a handle in the middle
pub record IsBeside (kind : ℕ → ℕ) (index : List ℕ) (own middle begin end : ℕ) : Type 0 where
  pub begins : begin ≡ place_of kind index own
  pub ends : end ≡ place_of kind index (own + 1)
  pub ahead : begin ≤ middle
  pub behind : middle < end
  pub inside : end ≤ length index

pub beside : (attributes : List Attr) (index : List ℕ) (runs : List Run) (middle : ℕ) (d : Run) (begin end : ℕ) → IsNumbered attributes
    → index ≡ handles_by_type attributes → runs ≡ runs_by_type attributes → middle < length index
    → begin ≡ (get_or runs middle d).begin → end ≡ (get_or runs middle d).end
    → IsBeside (type_at attributes) index (type_at attributes (get_or index middle 0)) middle begin end
beside attributes index runs middle d begin end numbered is of within at to =
    let kind = type_at attributes in
    let own = kind (get_or index middle 0) in
    let run = run_beside attributes index runs middle d is of within in
    let begins : begin ≡ place_of kind index own = at ∙ ap (λ (r : Run). r.begin) run in
    let ends : end ≡ place_of kind index (own + 1) = to ∙ ap (λ (r : Run). r.end) run in
    let has = run_has kind index middle own (index_given attributes index numbered is).ordered within refl in
    let inside = place_within (λ x. nat_lt (kind x) (own + 1)) index in
    record { begins = begins; ends = ends; ahead = omega (arith, begins, has.0); behind = omega (arith, ends, has.1); inside = omega (arith, ends, inside) }

-- a run that was found
pub run_taken : (kind : ℕ → ℕ) (index : List ℕ) (own k middle begin end : ℕ) → IsBeside kind index own middle begin end → own ≡ k
    → drop begin (take end index) ≡ run_in kind index k
run_taken kind index own k middle begin end run same =
    ap (λ n. drop n (take end index)) run.begins
    ∙ ap (λ n. drop (place_of kind index own) (take n index)) run.ends
    ∙ ap (run_in kind index) same

pub run_long : (kind : ℕ → ℕ) (index : List ℕ) (own middle begin end : ℕ) → IsBeside kind index own middle begin end
    → length (drop begin (take end index)) ≡ end - begin
run_long kind index own middle begin end run =
    omega (arith, run.inside, length-take end index, length-drop begin (take end index))

pub run_fits : (kind : ℕ → ℕ) (index : List ℕ) (own k middle begin end low high size : ℕ) → IsBeside kind index own middle begin end → own ≡ k
    → IsNarrowed (place_of kind index k) (place_of kind index (k + 1)) low high size → end - begin ≤ high - low
run_fits kind index own k middle begin end low high size run same narrowed =
    let at : begin ≡ place_of kind index k = run.begins ∙ ap (place_of kind index) same in
    let to : end ≡ place_of kind index (k + 1) = run.ends ∙ ap (λ n. place_of kind index (n + 1)) same in
    omega (arith, at, to, narrowed.low_side, narrowed.high_side)

-- where a run was followed to its end
pub end_found : (kind : ℕ → ℕ) (index : List ℕ) (place at k end : ℕ) → at ≡ place → k ≡ kind (get_or index at 0) → end ≡ place_of kind index (k + 1)
    → end ≡ place_of kind index (kind (get_or index place 0) + 1)
end_found kind index place at k end same is found =
    found ∙ ap (λ n. place_of kind index (n + 1)) (is ∙ ap (λ n. kind (get_or index n 0)) same)

-- as runs are found from the front: the last one is that of the handle before, and goes on
pub record IsRunBefore (kind : ℕ → ℕ) (index : List ℕ) (place : ℕ) (run : Run) : Type 0 where
  pub goes_on : place ≤ run.end
  pub none_yet : place ≡ 0 → run.end ≡ 0
  pub is : 0 < place → run ≡ run_of kind index (kind (get_or index (place - 1) 0))

type_between : (own k : ℕ) → nat_lt own k ≡ false → nat_lt own (k + 1) ≡ true → own ≡ k
type_between own k more less = grind (arith, nat_tests)

type_above : (own k : ℕ) → nat_lt own (k + 1) ≡ false → k + 1 ≤ own
type_above own k fails = grind (arith, nat_tests)

pub same_run : (kind : ℕ → ℕ) (index : List ℕ) (place : ℕ) (run : Run) → IsOrdered kind index → place < length index → IsRunBefore kind index place run
    → place < run.end → run ≡ run_of kind index (kind (get_or index place 0))
same_run kind index zero run ordered within so_far left = absurd (omega (arith, so_far.none_yet refl))
same_run kind index (suc before) run ordered within so_far left =
    let place = suc before in
    let own = kind (get_or index place 0) in
    let k = kind (get_or index (place - 1) 0) in
    let is : run ≡ run_of kind index k = so_far.is (omega arith) in
    let begun : place_of kind index k ≤ place - 1 = (run_has kind index (place - 1) k ordered (omega arith) refl).0 in
    let passes : nat_lt own (k + 1) ≡ true = prefix_len_passes (λ x. nat_lt (kind x) (k + 1)) index place 0 (omega (arith, ap (λ (r : Run). r.end) is)) in
    let goal : (b : Bool) → nat_lt own k ≡ b → own ≡ k =
    λ b. elim b as (λ b. nat_lt own k ≡ b → own ≡ k) [
      | true ↦ λ below. absurd (omega (arith, begun, place_below (λ x. nat_lt (kind x) k) index place 0 (closed kind k index ordered) within below))
      | false ↦ λ not_below. type_between own k not_below passes
    ] in
    is ∙ ap (run_of kind index) (sym (goal (nat_lt own k) refl))

pub next_run : (kind : ℕ → ℕ) (index : List ℕ) (place : ℕ) (run : Run) → IsOrdered kind index → place < length index → IsRunBefore kind index place run
    → run.end ≡ place → place ≡ place_of kind index (kind (get_or index place 0))
next_run kind index zero run ordered within so_far ended =
    let has = run_has kind index 0 (kind (get_or index 0 0)) ordered within refl in
    omega (arith, has.0)
next_run kind index (suc before) run ordered within so_far ended =
    let place = suc before in
    let own = kind (get_or index place 0) in
    let k = kind (get_or index (place - 1) 0) in
    let is : run ≡ run_of kind index k = so_far.is (omega arith) in
    let end : place ≡ place_of kind index (k + 1) = sym ended ∙ ap (λ (r : Run). r.end) is in
    let has = run_has kind index place own ordered within refl in
    let goal : (b : Bool) → nat_lt own (k + 1) ≡ b → k + 1 ≤ own =
    λ b. elim b as (λ b. nat_lt own (k + 1) ≡ b → k + 1 ≤ own) [
      | true ↦ λ below. absurd (omega (arith, end, place_below (λ x. nat_lt (kind x) (k + 1)) index place 0 (closed kind (k + 1) index ordered) within below))
      | false ↦ λ above. type_above own k above
    ] in
    omega (arith, end, has.0, place_less kind index (k + 1) own (goal (nat_lt own (k + 1)) refl))

pub begun_run : (kind : ℕ → ℕ) (index : List ℕ) (place : ℕ) (run : Run) (end : ℕ) → IsOrdered kind index → place < length index
    → IsRunBefore kind index place run
    → run.end ≡ place → end ≡ place_of kind index (kind (get_or index run.end 0) + 1)
    → record { begin = run.end; end = end } ≡ run_of kind index (kind (get_or index place 0))
begun_run kind index place run end ordered within so_far ended found =
    let begins : run.end ≡ place_of kind index (kind (get_or index place 0)) = ended ∙ next_run kind index place run ordered within so_far ended in
    let ends : end ≡ place_of kind index (kind (get_or index place 0) + 1) =
    found ∙ ap (λ n. place_of kind index (kind (get_or index n 0) + 1)) ended in
    λ i. record { begin = begins i; end = ends i }

map_taken : (f : ℕ → Run) (xs : List ℕ) (place : ℕ) → place < length xs → map f (take place xs) ++ f (get_or xs place 0) ∷ [] ≡ map f (take (place + 1) xs)
map_taken f [] place within = absurd (omega arith)
map_taken f (x ∷ xs) zero within = refl
map_taken f (x ∷ xs) (suc place) within =
    let next : suc (place + 1) ≡ suc place + 1 = omega arith in
    ap (λ l. f x ∷ l) (map_taken f xs place (omega arith)) ∙ ap (λ n. map f (take n (x ∷ xs))) next

pub one_run_more : (kind : ℕ → ℕ) (index : List ℕ) (place : ℕ) (run : Run) (runs made : List Run) → IsOrdered kind index → place < length index
    → runs ≡ map (λ handle. run_of kind index (kind handle)) (take place index) → run ≡ run_of kind index (kind (get_or index place 0))
    → made ≡ runs ++ run ∷ []
    → (made ≡ map (λ handle. run_of kind index (kind handle)) (take (place + 1) index)) × IsRunBefore kind index (place + 1) run
one_run_more kind index place run runs made ordered within so_far is pushed =
    let f : ℕ → Run = λ handle. run_of kind index (kind handle) in
    let at : place + 1 - 1 ≡ place = omega arith in
    let has = run_has kind index place (kind (get_or index place 0)) ordered within refl in (
      pushed ∙ ap (λ l. l ++ run ∷ []) so_far ∙ ap (λ (r : Run). map f (take place index) ++ r ∷ []) is ∙ map_taken f index place within,
      record {
        goes_on = omega (arith, ap (λ (r : Run). r.end) is, has.1);
        none_yet = λ none. absurd (omega (arith, none));
        is = λ some. is ∙ ap (λ n. run_of kind index (kind (get_or index n 0))) (sym at);
      },
    )
