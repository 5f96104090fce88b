-- The slots of a ring that are in use, oldest first.
use Rattle.std.proofs.Common.{◌≡◌, ◌≢◌, ℕ, ◌+◌, ◌-◌, ◌%◌, ◌<◌, ◌≤◌, ◌⊎◌, List, [], ◌∷◌, ◌++◌, length, get_or, take, drop, set, map, refl, sym, ap, ◌∙◌, ap₂, inl, inr, mod-eq_of_lt, arith, length-append, length-drop, length-set, length-take-le, get_or-drop, get_or-take, subst}
use native.Mathlib.Nat.{mod-eq-sub-mod, mod-add-mod}
use Rattle.std.specs.Prelude.{Some, slice_get}
use Rattle.std.specs.List.{zip}
use Rattle.std.proofs.lemmas.List.{same_lists, drop_more, take_more, get_or_append_left, get_or-append_right, get_or-set_same, get_or-set_other, length-map, map-append}
use Rattle.std.proofs.lemmas.Slice.Zip.{length-zip}
use Rattle.std.proofs.lemmas.Bool.{cases_lt}
use Rattle.std.proofs.lemmas.Grind.{common_steps}
use Rattle.arrayvec.specs.ArrayVec.{ArrayVec}
use Rattle.le_acl.specs.Packets.{Pdu}
use Rattle.le_acl.specs.declared.pdus.Header.{Header}
use Rattle.le_acl.specs.Pdus.{Queued, empty, no_header, pdu_of, window, queued_of, HasAll, IsRing}

-- an index below 2 N wraps once at most
mod_wraps_once : (N j : ℕ) → j < N + N → ((j < N) × (j % N ≡ j)) ⊎ ((N ≤ j) × (j % N ≡ j - N))
mod_wraps_once N j below = elim (cases_lt j N) [
  | inl low ↦ inl (low, mod-eq_of_lt low)
  | inr high ↦ inr (high, mod-eq-sub-mod high ∙ mod-eq_of_lt (omega arith))
]

module _ {X : Type 0} (N k n : ℕ) (xs : List X) (start_in_range : k < N) (len_fits : n ≤ N) (length_xs : length xs ≡ N) where
  pub length-window : length (window k n xs) ≡ n
  length-window = length-take-le n _ (simp (length-append, length-drop) (omega (arith, length-take-le k xs (omega arith))))

  -- item i of the window is slot (k + i) % N, which is before the end of the slots or past it
  get_or-window : (i : ℕ) (d : X) → i < n → get_or (window k n xs) i d ≡ get_or xs ((k + i) % N) d
  get_or-window i d in_range =
      let length_tail = length-drop k xs in
      get_or-take n _ i d in_range ∙ elim (mod_wraps_once N (k + i) (omega arith)) [
        | inl unwrapped ↦ get_or_append_left _ _ d i (omega arith) ∙ get_or-drop k xs i d ∙ ap (λ j. get_or xs j d) (omega arith)
        | inr wrapped ↦ get_or-append_right _ _ (N - k) i d (omega arith) (omega arith) ∙ get_or-take k xs _ d (omega arith)
            ∙ ap (λ j. get_or xs j d) (omega arith)
      ]

module _ {X : Type 0} (N k n : ℕ) (xs : List X) (start_in_range : k < N) (len_fits : n ≤ N) (length_xs : length xs ≡ N) where
  -- the slot behind the window is not in it
  pub window-set : (x : X) → n < N → window k n (set xs ((k + n) % N) x) ≡ window k n xs
  window-set x has_room =
      let ys = set xs ((k + n) % N) x in
      let length_ys = length-set xs ((k + n) % N) x ∙ length_xs in
      let length_old = length-window N k n xs start_in_range len_fits length_xs in
      let length_new = length-window N k n ys start_in_range len_fits length_ys in
      let free_slot = mod_wraps_once N (k + n) (omega arith) in
      same_lists _ _ (length_new ∙ sym length_old) (λ i d in_range. grind (
        arith,
        common_steps,
        mod_wraps_once N (k + i) (omega arith),
        get_or-window N k n xs start_in_range len_fits length_xs i d,
        get_or-window N k n ys start_in_range len_fits length_ys i d,
      ))

  -- the window with one slot more has it at the end
  pub window-longer : (d : X) → n < N → window k (n + 1) xs ≡ window k n xs ++ get_or xs ((k + n) % N) d ∷ []
  window-longer d has_room =
      let all = drop k xs ++ take k xs in
      let length_all : n < length all = simp (length-append, length-drop) (omega (arith, length-take-le k xs (omega arith))) in
      let length_more : n < n + 1 = omega arith in
      take_more all n d length_all
      ∙ ap (λ (x : X). window k n xs ++ x ∷ [])
      (sym (get_or-take (n + 1) all n d length_more) ∙ get_or-window N k (n + 1) xs start_in_range (omega arith) length_xs n d length_more)

  -- the window is slot k, then the window from the next slot; the tails are compared item by item
  pub window-shorter : (e : X) → 0 < n → window k n xs ≡ get_or xs k e ∷ window ((k + 1) % N) (n - 1) xs
  window-shorter e nonempty =
      let next_in_range : (k + 1) % N < N = grind (arith, mod_wraps_once N (k + 1) (omega arith)) in
      let length_old = length-window N k n xs start_in_range len_fits length_xs in
      let length_new = length-window N ((k + 1) % N) (n - 1) xs next_in_range (omega arith) length_xs in
      let old_item = get_or-window N k n xs start_in_range len_fits length_xs in
      drop_more _ 0 e (omega arith) ∙ ap₂ ◌∷◌ (grind (arith, old_item 0 e, mod_wraps_once N k))
      (same_lists _ _ (simp length-drop (omega arith)) (λ i d in_range. grind (
        arith,
        length-drop 1 (window k n xs),
        get_or-drop 1 (window k n xs) i d,
        mod-add-mod (k + 1) N i,
        old_item (1 + i) d,
        get_or-window N _ (n - 1) xs next_in_range (omega arith) length_xs i d,
      )))

-- lists of one length, side by side, and one item more of each
zip-append : {A B : Type 0} (xs : List A) (ys : List B) (x : A) (y : B) → length xs ≡ length ys → zip (xs ++ x ∷ []) (ys ++ y ∷ []) ≡ zip xs ys ++ (x, y) ∷ []
zip-append [] [] x y same = refl
zip-append [] (b ∷ ys) x y same = absurd (omega arith)
zip-append (a ∷ xs) [] x y same = absurd (omega arith)
zip-append {A} {B} (a ∷ xs) (b ∷ ys) x y same = ap (λ (pairs : List (A × B)). (a, b) ∷ pairs) (zip-append xs ys x y (omega arith))

-- a slot in use is another than the one behind those in use
slot-apart : (N k n i : ℕ) → k < N → n < N → i < n → (k + i) % N ≢ (k + n) % N
slot-apart N k n i start has_room in_range same = grind (
  arith,
  mod_wraps_once N (k + i) (omega arith),
  mod_wraps_once N (k + n) (omega arith),
)

module _ (first count : ℕ) (headers : List Header) (payloads : List (ArrayVec ℕ)) (ring : IsRing first count headers payloads) where
  length-headers : length (window first count headers) ≡ count
  length-headers = length-window 16 first count headers ring.first_below ring.count_within ring.headers_length

  length-payloads : length (window first count payloads) ≡ count
  length-payloads = length-window 16 first count payloads ring.first_below ring.count_within ring.payloads_length

  pub count_is : length (queued_of first count headers payloads).pdus ≡ count
  count_is =
      length-map (zip (window first count headers) (window first count payloads)) pdu_of
      ∙ length-zip (window first count headers) (window first count payloads) ∙ omega (arith, length-headers, length-payloads)

  pub push_is : (header : Header) → count < 16
      → (queued_of first (count + 1) (set headers ((first + count) % 16) header) payloads).pdus
      ≡ (queued_of first count headers payloads).pdus ++ (header.channel, take header.len (queued_of first count headers payloads).room) ∷ []
  push_is header has_room =
      let slot = (first + count) % 16 in
      let written = set headers slot header in
      let below : slot < length headers = omega (arith, ring.headers_length) in
      let more_headers : window first (count + 1) written ≡ window first count headers ++ header ∷ [] =
      window-longer 16 first count written ring.first_below ring.count_within (length-set headers slot header ∙ ring.headers_length) no_header has_room
      ∙ ap₂ (λ (xs : List Header) (x : Header). xs ++ x ∷ [])
      (window-set 16 first count headers ring.first_below ring.count_within ring.headers_length header has_room)
      (get_or-set_same headers slot header no_header below) in
      let more_payloads : window first (count + 1) payloads ≡ window first count payloads ++ get_or payloads slot empty ∷ [] =
      window-longer 16 first count payloads ring.first_below ring.count_within ring.payloads_length empty has_room in
      ap₂ (λ (xs : List Header) (ys : List (ArrayVec ℕ)). map pdu_of (zip xs ys)) more_headers more_payloads
      ∙ ap (map pdu_of)
      (zip-append (window first count headers) (window first count payloads) header (get_or payloads slot empty) (length-headers ∙ sym length-payloads))
      ∙ map-append pdu_of (zip (window first count headers) (window first count payloads)) ((header, get_or payloads slot empty) ∷ [])

  pub pdus-parts : 0 < count → (queued_of first count headers payloads).pdus
      ≡ pdu_of (get_or headers first no_header, get_or payloads first empty) ∷ (queued_of ((first + 1) % 16) (count - 1) headers payloads).pdus
  pdus-parts some =
      ap₂ (λ (xs : List Header) (ys : List (ArrayVec ℕ)). map pdu_of (zip xs ys))
      (window-shorter 16 first count headers ring.first_below ring.count_within ring.headers_length no_header some)
      (window-shorter 16 first count payloads ring.first_below ring.count_within ring.payloads_length empty some)

  pub pop_is : 0 < count → (queued_of ((first + 1) % 16) (count - 1) headers payloads).pdus ≡ drop 1 (queued_of first count headers payloads).pdus
  pop_is some = ap (drop 1) (sym (pdus-parts some))

  pub front_is : 0 < count → slice_get (queued_of first count headers payloads).pdus 0
      ≡ Some (pdu_of (get_or headers first no_header, get_or payloads first empty))
  front_is some = ap (λ (xs : List Pdu). slice_get xs 0) (pdus-parts some)

  pub room_is : (written : ArrayVec ℕ) → count < 16
      → queued_of first count headers (set payloads ((first + count) % 16) written)
      ≡ record { pdus = (queued_of first count headers payloads).pdus; room = written.items }
  room_is written has_room =
      let slot = (first + count) % 16 in
      let below : slot < length payloads = omega (arith, ring.payloads_length) in
      ap₂ (λ (ys : List (ArrayVec ℕ)) (room : List ℕ). let held : Queued = record { pdus = map pdu_of (zip (window first count headers) ys); room = room } in
      held)
      (window-set 16 first count payloads ring.first_below ring.count_within ring.payloads_length written has_room)
      (ap (λ (payload : ArrayVec ℕ). payload.items) (get_or-set_same payloads slot written empty below))

  pub ring-push : (header : Header) → count < 16 → header.len ≤ length (queued_of first count headers payloads).room
      → IsRing first (count + 1) (set headers ((first + count) % 16) header) payloads
  ring-push header has_room there =
      let slot = (first + count) % 16 in
      let written = set headers slot header in
      let below : slot < length headers = omega (arith, ring.headers_length) in
      record {
        first_below = ring.first_below;
        count_within = omega arith;
        headers_length = length-set headers slot header ∙ ring.headers_length;
        payloads_length = ring.payloads_length;
        all_there = λ i in_range. elim (cases_lt i count) [
          | inl older ↦ subst (λ (found : Header). found.len ≤ length (get_or payloads ((first + i) % 16) empty).items)
              (sym (get_or-set_other headers slot ((first + i) % 16) header no_header (slot-apart 16 first count i ring.first_below has_room older)))
              (ring.all_there i older)
          | inr newest ↦ subst (λ (place : ℕ). HasAll written payloads ((first + place) % 16)) (omega arith)
              (subst (λ (found : Header). found.len ≤ length (get_or payloads slot empty).items) (sym (get_or-set_same headers slot header no_header below))
              there)
        ];
      }

  pub ring-written : (written : ArrayVec ℕ) → count < 16 → IsRing first count headers (set payloads ((first + count) % 16) written)
  ring-written written has_room =
      let slot = (first + count) % 16 in
      record {
        first_below = ring.first_below;
        count_within = ring.count_within;
        headers_length = ring.headers_length;
        payloads_length = length-set payloads slot written ∙ ring.payloads_length;
        all_there = λ i in_range. subst (λ (found : ArrayVec ℕ). (get_or headers ((first + i) % 16) no_header).len ≤ length found.items)
            (sym (get_or-set_other payloads slot ((first + i) % 16) written empty (slot-apart 16 first count i ring.first_below has_room in_range)))
            (ring.all_there i in_range);
      }

  pub ring-pop : 0 < count → IsRing ((first + 1) % 16) (count - 1) headers payloads
  ring-pop some = record {
    first_below = grind (arith, mod_wraps_once 16 (first + 1) (omega (arith, ring.first_below)));
    count_within = omega (arith, ring.count_within);
    headers_length = ring.headers_length;
    payloads_length = ring.payloads_length;
    all_there = λ i in_range. subst (HasAll headers payloads)
        (ap (λ (n : ℕ). n % 16) (omega arith) ∙ sym (mod-add-mod (first + 1) 16 i))
        (ring.all_there (1 + i) (omega arith));
  }

  pub room-pop : 0 < count → (queued_of ((first + 1) % 16) (count - 1) headers payloads).room ≡ (queued_of first count headers payloads).room
  room-pop some =
      let back : first + 1 + (count - 1) ≡ first + count = omega arith in
      let slot : ((first + 1) % 16 + (count - 1)) % 16 ≡ (first + count) % 16 = mod-add-mod (first + 1) 16 (count - 1) ∙ ap (λ (n : ℕ). n % 16) back in
      ap (λ (at : ℕ). (get_or payloads at empty).items) slot
