-- The pieces of a frame, one after another.
use Rattle.std.proofs.Common.{◌≡◌, ℕ, zero, suc, ◌+◌, ◌*◌, ◌<◌, ◌≤◌, List, [], ◌∷◌, ◌++◌, length, take, drop, map, refl, sym, ap, ◌∙◌, arith, length-drop, append_assoc, append-nil, length-append}
use Rattle.std.proofs.lemmas.List.{length-map}
use Rattle.le_acl.specs.Fragment.{Beginning, Continuation}
use Rattle.le_acl.specs.Packets.{pieces, fragments_of_pieces}
use Rattle.le_acl.proofs.Fragments.{pieces-next}
use Rattle.sim_controller.specs.declared.told.Told.{Told}
use Rattle.sim_controller.specs.Frames.{told_fragment, told_frame, told_others}

pub pieces_none : (size : ℕ) → pieces size [] ≡ []
unfolding pieces
pieces_none size = refl

-- as many octets as so many pieces have at most fit into them, and more do not
pub fits : (room size : ℕ) (octets : List ℕ) → 1 ≤ size → length octets ≤ room * size → length (pieces size octets) ≤ room
fits room size [] some h = omega (arith, ap length (pieces_none size))
fits zero size (x ∷ xs) some h = absurd (omega (arith, h))
fits (suc room) size (x ∷ xs) some h =
    let next = ap length (pieces-next size (x ∷ xs) some (omega arith)) in
    let left = length-drop size (x ∷ xs) in
    let below : length (drop size (x ∷ xs)) ≤ room * size = omega (arith, h, left) in
    omega (arith, next, fits room size (drop size (x ∷ xs)) some below)

pub exceeds : (room size : ℕ) (octets : List ℕ) → 1 ≤ size → room * size < length octets → room < length (pieces size octets)
exceeds zero size octets some h =
    let next = ap length (pieces-next size octets some (omega (arith, h))) in
    omega (arith, next)
exceeds (suc room) size octets some h =
    let next = ap length (pieces-next size octets some (omega (arith, h))) in
    let left = length-drop size octets in
    let above : room * size < length (drop size octets) = omega (arith, h, left) in
    omega (arith, next, exceeds room size (drop size octets) some above)

pub others_none : (phone size : ℕ) → told_others phone size [] ≡ []
unfolding told_others
others_none phone size = ap (λ (ps : List (List ℕ)). map (told_fragment phone) (map Continuation ps)) (pieces_none size)

-- what continues a frame is its first piece, and then the rest
pub others_parts : (phone size : ℕ) (octets : List ℕ) → 1 ≤ size → 0 < length octets
    → told_others phone size octets ≡ told_fragment phone (Continuation (take size octets)) ∷ told_others phone size (drop size octets)
unfolding told_others
others_parts phone size octets some h =
    ap (λ (ps : List (List ℕ)). map (told_fragment phone) (map Continuation ps)) (pieces-next size octets some h)

module _ (phone size : ℕ) (octets : List ℕ) (items : List Told) (some : 1 ≤ size) (h : 0 < length octets) where
  -- with a piece more, what waits and what is left lead to the same packets
  pub others_step : (items ++ told_fragment phone (Continuation (take size octets)) ∷ []) ++ told_others phone size (drop size octets)
      ≡ items ++ told_others phone size octets
  others_step =
      append_assoc items (told_fragment phone (Continuation (take size octets)) ∷ []) (told_others phone size (drop size octets))
      ∙ ap (λ (ts : List Told). items ++ ts) (sym (others_parts phone size octets some h))

  pub others_count : length (items ++ told_fragment phone (Continuation (take size octets)) ∷ []) + length (told_others phone size (drop size octets))
      ≡ length items + length (told_others phone size octets)
  others_count =
      sym (length-append (items ++ told_fragment phone (Continuation (take size octets)) ∷ []) (told_others phone size (drop size octets)))
      ∙ ap length others_step
      ∙ length-append items (told_others phone size octets)

pub frame_parts : (phone size : ℕ) (octets : List ℕ) → 1 ≤ size → 0 < length octets
    → told_frame phone size octets ≡ told_fragment phone (Beginning (take size octets)) ∷ told_others phone size (drop size octets)
unfolding told_frame told_others
frame_parts phone size octets some h =
    ap (λ (ps : List (List ℕ)). map (told_fragment phone) (fragments_of_pieces ps)) (pieces-next size octets some h)

pub frame_length : (phone size : ℕ) (octets : List ℕ) → 1 ≤ size → 0 < length octets
    → length (told_frame phone size octets) ≡ length (pieces size octets)
unfolding told_frame told_others
frame_length phone size octets some h =
    ap length (frame_parts phone size octets some h)
    ∙ ap suc (length-map (map Continuation (pieces size (drop size octets))) (told_fragment phone) ∙ length-map (pieces size (drop size octets)) Continuation)
    ∙ sym (ap length (pieces-next size octets some h))

pub others_done : (phone size : ℕ) (octets : List ℕ) (items : List Told) → length octets ≡ 0 → items ++ told_others phone size octets ≡ items
others_done phone size [] items h = ap (λ (ts : List Told). items ++ ts) (others_none phone size) ∙ append-nil items
others_done phone size (x ∷ xs) items h = absurd (omega (arith, h))

module _ (phone size : ℕ) (octets : List ℕ) (items : List Told) (some : 1 ≤ size) (h : 0 < length octets) where
  pub frame_step : (items ++ told_fragment phone (Beginning (take size octets)) ∷ []) ++ told_others phone size (drop size octets)
      ≡ items ++ told_frame phone size octets
  frame_step =
      append_assoc items (told_fragment phone (Beginning (take size octets)) ∷ []) (told_others phone size (drop size octets))
      ∙ ap (λ (ts : List Told). items ++ ts) (sym (frame_parts phone size octets some h))

  pub frame_count : length (items ++ told_fragment phone (Beginning (take size octets)) ∷ []) + length (told_others phone size (drop size octets))
      ≡ length items + length (told_frame phone size octets)
  frame_count =
      sym (length-append (items ++ told_fragment phone (Beginning (take size octets)) ∷ []) (told_others phone size (drop size octets)))
      ∙ ap length frame_step
      ∙ length-append items (told_frame phone size octets)
