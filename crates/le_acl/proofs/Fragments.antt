-- A queue of PDUs gives its fragments one by one.
use Rattle.std.proofs.Common.{◌≡◌, ℕ, zero, suc, ◌+◌, ◌-◌, ◌<◌, ◌≤◌, List, [], ◌∷◌, length, take, drop, map, refl, sym, ap, ◌∙◌, subst, arith}
use Rattle.std.specs.Prelude.{Some, slice_get}
use Rattle.std.specs.Option.{option_map}
use Rattle.std.proofs.lemmas.List.{drop-drop, length-drop, drop_all, take_all}
use Rattle.le_acl.specs.Fragment.{Fragment, Beginning, Continuation}
use Rattle.le_acl.specs.Packets.{Pdu, pieces_within, pieces, frame_octets, fragments_of_pieces, fragments_of}
use Rattle.le_acl.specs.Outgoing.{next_of, without_next, acl_octets}
use Rattle.le_acl.specs.Sending.{fragment_at, fragments_from, queue_of, IsWithin, IsOfFirst}

-- what fits behind a header of four octets
pub take_header : (size a b c d : ℕ) (xs : List ℕ) → 4 ≤ size → a ∷ b ∷ c ∷ d ∷ take (size - 4) xs ≡ take size (a ∷ b ∷ c ∷ d ∷ xs)
take_header size a b c d xs h =
    let e : suc (suc (suc (suc (size - 4)))) ≡ size = omega arith in
    ap (λ (n : ℕ). take n (a ∷ b ∷ c ∷ d ∷ xs)) e

pub drop_header : (gone a b c d : ℕ) (xs : List ℕ) → 4 ≤ gone → drop (gone - 4) xs ≡ drop gone (a ∷ b ∷ c ∷ d ∷ xs)
drop_header gone a b c d xs h =
    let e : suc (suc (suc (suc (gone - 4)))) ≡ gone = omega arith in
    ap (λ (n : ℕ). drop n (a ∷ b ∷ c ∷ d ∷ xs)) e

pub fragment_later : (gone : ℕ) (octets : List ℕ) → 0 < gone → fragment_at gone octets ≡ Continuation octets
fragment_later zero octets h = absurd (omega arith)
fragment_later (suc gone) octets h = refl

-- any count that is large enough gives the same pieces
within_enough : (n m size : ℕ) (octets : List ℕ) → 0 < size → length octets ≤ n → length octets ≤ m → pieces_within n size octets ≡ pieces_within m size octets
within_enough zero zero size octets some h k = refl
within_enough zero (suc m) size [] some h k = refl
within_enough zero (suc m) size (x ∷ xs) some h k = absurd (omega arith)
within_enough (suc n) zero size [] some h k = refl
within_enough (suc n) zero size (x ∷ xs) some h k = absurd (omega arith)
within_enough (suc n) (suc m) size [] some h k = refl
within_enough (suc n) (suc m) size (x ∷ xs) some h k =
    let left : length (drop size (x ∷ xs)) ≤ length xs = omega (arith, length-drop size (x ∷ xs)) in
    ap (λ (others : List (List ℕ)). take size (x ∷ xs) ∷ others) (within_enough n m size (drop size (x ∷ xs)) some (omega arith) (omega arith))

pub pieces-next : (size : ℕ) (octets : List ℕ) → 0 < size → 0 < length octets → pieces size octets ≡ take size octets ∷ pieces size (drop size octets)
unfolding pieces
pieces-next size [] some h = absurd (omega arith)
pieces-next size (x ∷ xs) some h =
    let left : length (drop size (x ∷ xs)) ≤ length xs = omega (arith, length-drop size (x ∷ xs)) in
    ap (λ (others : List (List ℕ)). take size (x ∷ xs) ∷ others)
    (within_enough (length xs) (length (drop size (x ∷ xs))) size (drop size (x ∷ xs)) some left (omega arith))

pieces-none : (size : ℕ) → pieces size [] ≡ []
unfolding pieces
pieces-none size = refl

-- the fragments after a first one
others_of : ℕ → ℕ → List ℕ → List Fragment
others_of size gone frame = map Continuation (pieces size (drop gone frame))

fragments-next : (size gone : ℕ) (pdu : Pdu) → 0 < size → gone < length (frame_octets pdu)
    → fragments_from size gone pdu ≡ fragment_at gone (take size (drop gone (frame_octets pdu))) ∷ others_of size (gone + size) (frame_octets pdu)
unfolding others_of
fragments-next size zero pdu some h =
    let e : size ≡ 0 + size = omega arith in
    ap fragments_of_pieces (pieces-next size (frame_octets pdu) some h)
    ∙ ap (λ (n : ℕ). Beginning (take size (frame_octets pdu)) ∷ map Continuation (pieces size (drop n (frame_octets pdu)))) e
fragments-next size (suc gone) pdu some h =
    ap (map Continuation) (pieces-next size (drop (suc gone) (frame_octets pdu)) some (omega (arith, length-drop (suc gone) (frame_octets pdu))))
    ∙ ap (λ (xs : List ℕ). Continuation (take size (drop (suc gone) (frame_octets pdu))) ∷ map Continuation (pieces size xs))
    (drop-drop size (suc gone) (frame_octets pdu))

others-none : (size gone : ℕ) (frame : List ℕ) → length frame ≤ gone → others_of size gone frame ≡ []
unfolding others_of
others-none size gone frame h = ap (λ (xs : List ℕ). map Continuation (pieces size xs)) (drop_all gone frame h) ∙ ap (map Continuation) (pieces-none size)

others-from : (size gone : ℕ) (pdu : Pdu) → 0 < gone → others_of size gone (frame_octets pdu) ≡ fragments_from size gone pdu
unfolding others_of
others-from size zero pdu h = absurd (omega arith)
others-from size (suc gone) pdu h = refl

without-next-more : (first : Fragment) (others : List Fragment) (pdus : List (List Fragment)) (second : Fragment) (rest : List Fragment)
    → others ≡ second ∷ rest → without_next ((first ∷ others) ∷ pdus) ≡ others ∷ pdus
without-next-more first others pdus second rest is =
    ap (λ (xs : List Fragment). without_next ((first ∷ xs) ∷ pdus)) is ∙ ap (λ (xs : List Fragment). xs ∷ pdus) (sym is)

queue-anew : (size : ℕ) (pdus : List Pdu) → queue_of size 0 pdus ≡ map (fragments_of size) pdus
queue-anew size [] = refl
queue-anew size (pdu ∷ pdus) = refl

first_and_rest : (pdus : List Pdu) (pdu : Pdu) → slice_get pdus 0 ≡ Some pdu → pdus ≡ pdu ∷ drop 1 pdus
first_and_rest [] pdu is = cc
first_and_rest (first ∷ pdus) pdu is = ap (λ (p : Pdu). p ∷ pdus) (cc is)

module _ (size gone : ℕ) (pdus : List Pdu) (pdu : Pdu) (front : slice_get pdus 0 ≡ Some pdu) (some : 0 < size) (left : gone < length (frame_octets pdu)) where
  first : Fragment
  first = fragment_at gone (take size (drop gone (frame_octets pdu)))

  later : List (List Fragment)
  later = map (fragments_of size) (drop 1 pdus)

  queue-is : queue_of size gone pdus ≡ (first ∷ others_of size (gone + size) (frame_octets pdu)) ∷ later
  unfolding first later
  queue-is = ap (queue_of size gone) (first_and_rest pdus pdu front) ∙ ap (λ (xs : List Fragment). xs ∷ later) (fragments-next size gone pdu some left)

  pub gives_first : (handle : ℕ) (given : Fragment) (octets : List ℕ) → given ≡ fragment_at gone (take size (drop gone (frame_octets pdu)))
      → octets ≡ acl_octets handle given → option_map (acl_octets handle) (next_of (queue_of size gone pdus)) ≡ Some octets
  unfolding first
  gives_first handle given octets is written =
      ap (λ (queue : List (List Fragment)). option_map (acl_octets handle) (next_of queue)) queue-is ∙ ap Some (sym (written ∙ ap (acl_octets handle) is))

  queue-last : length (frame_octets pdu) ≤ gone + size → queue_of size 0 (drop 1 pdus) ≡ without_next (queue_of size gone pdus)
  unfolding later
  queue-last ended =
      queue-anew size (drop 1 pdus)
      ∙ sym (ap without_next (queue-is ∙ ap (λ (others : List Fragment). (first ∷ others) ∷ later) (others-none size (gone + size) (frame_octets pdu) ended)))

  queue-more : gone + size < length (frame_octets pdu) → queue_of size (gone + size) pdus ≡ without_next (queue_of size gone pdus)
  unfolding later
  queue-more more =
      let from = others-from size (gone + size) pdu (omega arith) in
      let next = fragments-next size (gone + size) pdu some more in
      ap (queue_of size (gone + size)) (first_and_rest pdus pdu front)
      ∙ ap (λ (xs : List Fragment). xs ∷ later) (sym from)
      ∙ sym (without-next-more first (others_of size (gone + size) (frame_octets pdu)) later _ _ (from ∙ next))
      ∙ sym (ap without_next queue-is)

-- behind a fragment of the first PDU: its last one, or another
pub passed-last : (size gone count : ℕ) (pdus : List Pdu) → IsOfFirst count pdus → IsWithin size gone pdus → 0 < size → count ≤ gone + size
    → queue_of size 0 (drop 1 pdus) ≡ without_next (queue_of size gone pdus)
passed-last size gone count [] first within some ended = absurd first
passed-last size gone count (pdu ∷ pdus) first within some ended =
    queue-last size gone (pdu ∷ pdus) pdu refl some (omega (arith, within.0)) (omega (arith, first, ended))

pub passed-more : (size gone count : ℕ) (pdus : List Pdu) → IsOfFirst count pdus → IsWithin size gone pdus → 0 < size → gone + size < count
    → queue_of size (gone + size) pdus ≡ without_next (queue_of size gone pdus)
passed-more size gone count [] first within some more = absurd first
passed-more size gone count (pdu ∷ pdus) first within some more =
    queue-more size gone (pdu ∷ pdus) pdu refl some (omega (arith, within.0)) (omega (arith, first, more))

-- some of the first frame is left
pub not_all_gone : (size gone : ℕ) (pdus : List Pdu) (pdu : Pdu) → slice_get pdus 0 ≡ Some pdu → IsWithin size gone pdus
    → gone < length (frame_octets pdu)
not_all_gone size gone [] pdu is within = cc
not_all_gone size gone (first ∷ pdus) pdu is within =
    let same : first ≡ pdu = cc is in
    let P : Pdu → Type 0 = λ p. gone < length (frame_octets p) in
    subst P same (omega (arith, within.0))

-- a frame that fits in one packet goes out whole
pub whole_first : (size gone : ℕ) (pdu : Pdu) → gone ≡ 0 → length (frame_octets pdu) ≤ size
    → Beginning (frame_octets pdu) ≡ fragment_at gone (take size (drop gone (frame_octets pdu)))
whole_first size gone pdu none fits =
    subst (λ (it : ℕ). Beginning (frame_octets pdu) ≡ fragment_at it (take size (drop it (frame_octets pdu)))) (sym none)
    (ap Beginning (sym (take_all size (frame_octets pdu) fits)))

pub passed_whole : (size gone count : ℕ) (pdus : List Pdu) → gone ≡ 0 → IsOfFirst count pdus → IsWithin size gone pdus → 0 < size → count ≤ size
    → queue_of size gone (drop 1 pdus) ≡ without_next (queue_of size gone pdus)
passed_whole size gone count pdus none first within some fits =
    ap (λ (it : ℕ). queue_of size it (drop 1 pdus)) none
    ∙ passed-last size gone count pdus first within some (omega (arith, fits))
