-- A reassembler gives the frames of the fragments that it took.
use Rattle.std.proofs.Common.{◌≡◌, ℕ, zero, suc, ◌/◌, ◌%◌, ◌<◌, ◌≤◌, List, [], ◌∷◌, ◌++◌, length, take, drop, map, reverse, Bool, true, false, Option, Some, None, refl, sym, ◌∙◌, ap, ap₂, subst, arith, inl, inr, append_assoc}
use Rattle.std.specs.Prelude.{cond, nat_le, not, ◌&&◌, ◌==◌}
use Rattle.std.specs.Option.{option_map}
use Rattle.std.proofs.lemmas.Bool.{leb-false, lt-leb, le-leb, eq-eqb, cases_lt}
use Rattle.std.proofs.lemmas.List.{append-nil, length-append, length-drop, take-append-drop}
use Rattle.std.proofs.lemmas.Grind.{reverse_onto}
use Rattle.octet_io.proofs.Choices.{and_with_false}
use Rattle.octet_io.specs.Number.{from_two}
use Rattle.octet_io.specs.declared.pdu.TheConstants.{MAX_PDU}
use Rattle.le_acl.specs.declared.frame.TheConstants.{MAX_FRAME}
use Rattle.le_acl.specs.Fragment.{Fragment, Beginning, Continuation}
use Rattle.le_acl.specs.Packets.{Pdu, frame_octets, pieces_within, pieces, fragments_of_pieces, fragments_of}
use Rattle.le_acl.specs.Frame.{is_enough, is_frame, newest_run, octets_of_run, is_shortest, frame_in, of_run, frame_at}
use Rattle.le_acl.specs.Reassembler.{Assembly, no_assembly, assembled_of, with_more, assembly_after}

-- what octets of a run lead to, where they are more than is enough already or not
abbrev outcome_by : Bool → Bool → Bool → List ℕ → Bool → Assembly
outcome_by enough frame fits octets short = record {
  unfinished = cond (not enough && (short && fits)) (Some octets) None;
  frame = cond (enough && (short && frame)) (Some octets) None;
}

abbrev outcome : List ℕ → Bool → Assembly
outcome octets short = outcome_by (is_enough octets) (is_frame octets) (nat_le (length octets) MAX_FRAME) octets short

first-by : (enough frame fits : Bool) (octets : List ℕ)
    → cond enough (record { unfinished = None; frame = cond frame (Some octets) None }) (record { unfinished = cond fits (Some octets) None; frame = None })
    ≡ outcome_by enough frame fits octets true
first-by true frame fits octets = refl
first-by false frame fits octets = refl

outcome-first : (octets : List ℕ) → assembled_of octets ≡ outcome octets true
outcome-first octets = first-by (is_enough octets) (is_frame octets) (nat_le (length octets) MAX_FRAME) octets

later-by : (enough frame fits : Bool) (octets : List ℕ) → outcome_by enough frame fits octets false ≡ no_assembly
later-by true frame fits octets = refl
later-by false frame fits octets = refl

outcome-later : (octets : List ℕ) → outcome octets false ≡ no_assembly
outcome-later octets = later-by (is_enough octets) (is_frame octets) (nat_le (length octets) MAX_FRAME) octets

frame-long : (octets : List ℕ) → MAX_FRAME < length octets → is_frame octets ≡ false
frame-long [] long = refl
frame-long (a ∷ []) long = refl
frame-long (a ∷ b ∷ []) long = refl
frame-long (a ∷ b ∷ c ∷ []) long = refl
frame-long (a ∷ b ∷ c ∷ d ∷ payload) long =
    ap (λ (fits : Bool). (length payload == from_two a b) && fits) (lt-leb (length (a ∷ b ∷ c ∷ d ∷ payload)) MAX_FRAME long)
    ∙ and_with_false (length payload == from_two a b)

long-by : (enough : Bool) (octets : List ℕ) (short : Bool) → outcome_by enough false false octets short ≡ no_assembly
long-by true octets true = refl
long-by true octets false = refl
long-by false octets true = refl
long-by false octets false = refl

outcome-long : (octets : List ℕ) (short : Bool) → MAX_FRAME < length octets → outcome octets short ≡ no_assembly
outcome-long octets short long =
    ap (λ (frame : Bool). outcome_by (is_enough octets) frame (nat_le (length octets) MAX_FRAME) octets short) (frame-long octets long)
    ∙ ap (λ (fits : Bool). outcome_by (is_enough octets) false fits octets short) (lt-leb (length octets) MAX_FRAME long)
    ∙ long-by (is_enough octets) octets short

-- a run, and one fragment more
more-by : (enough short fits : Bool) (octets more : List ℕ) → (fits ≡ false → MAX_FRAME < length (octets ++ more))
    → with_more (cond (not enough && (short && fits)) (Some octets) None) more ≡ outcome (octets ++ more) (not enough && short)
more-by true short fits octets more long = sym (outcome-later (octets ++ more))
more-by false false fits octets more long = sym (outcome-later (octets ++ more))
more-by false true true octets more long = outcome-first (octets ++ more)
more-by false true false octets more long = sym (outcome-long (octets ++ more) true (long refl))

abbrev summary : Option (List (List ℕ)) → Assembly
summary None = no_assembly
summary (Some run) = outcome (octets_of_run run) (is_shortest run)

summary-more : (run : Option (List (List ℕ))) (octets : List ℕ)
    → with_more (summary run).unfinished octets ≡ summary (option_map (λ earlier. octets ∷ earlier) run)
summary-more None octets = refl
summary-more (Some run) octets =
    more-by (is_enough (octets_of_run run)) (is_shortest run) (nat_le (length (octets_of_run run)) MAX_FRAME) (octets_of_run run) octets
    (λ long. omega (arith, leb-false (length (octets_of_run run)) MAX_FRAME long, length-append (octets_of_run run) octets))

assembled-is : (fragments : List Fragment) → assembly_after fragments ≡ summary (newest_run fragments)
assembled-is [] = refl
assembled-is (Beginning octets ∷ older) = outcome-first octets
assembled-is (Continuation octets ∷ older) =
    ap (λ (held : Assembly). with_more held.unfinished octets) (assembled-is older) ∙ summary-more (newest_run older) octets

summary-frame : (run : Option (List (List ℕ))) → (summary run).frame ≡ of_run run
summary-frame None = refl
summary-frame (Some run) = refl

-- whatever fragments came, the newest gives the frame that it makes whole
pub assembled_frame : (fragments : List Fragment) → (assembly_after fragments).frame ≡ frame_at fragments
unfolding frame_at
assembled_frame fragments = ap (λ (held : Assembly). held.frame) (assembled-is fragments) ∙ summary-frame (newest_run fragments)

-- a newer one stands before the older ones
newer : {X : Type 0} (x : X) (xs older : List X) → reverse (x ∷ xs) ++ older ≡ reverse xs ++ (x ∷ older)
newer {X} x xs older = ap (λ (ys : List X). ys ++ older) (reverse_onto xs x []) ∙ append_assoc (reverse xs) (x ∷ []) older

length-zero : (octets : List ℕ) → length octets ≡ 0 → octets ≡ []
length-zero [] none = refl
length-zero (x ∷ octets) none = absurd (omega arith)

abbrev frame_in_by : Bool → Bool → Bool → List ℕ → Option (List ℕ)
frame_in_by enough short frame octets = cond (enough && (short && frame)) (Some octets) None

-- less than the frame of a PDU is not enough
module _ (pdu : Pdu) where
  too_few : (octets more : List ℕ) → octets ++ more ≡ frame_octets pdu → 0 < length more → is_enough octets ≡ false
  too_few [] more is some = refl
  too_few (a ∷ []) more is some = refl
  too_few (a ∷ b ∷ []) more is some = refl
  too_few (a ∷ b ∷ c ∷ []) more is some = refl
  too_few (a ∷ b ∷ c ∷ d ∷ payload) more is some =
      let low : a ≡ length pdu.1 % 256 = cc is in
      let high : b ≡ length pdu.1 / 256 = cc is in
      lt-leb (from_two a b) (length payload) (omega (arith, ap length is, low, high, length-append payload more))

  short_of : (run : List (List ℕ)) (more : List ℕ) → octets_of_run run ++ more ≡ frame_octets pdu → 0 < length more → is_shortest run ≡ true
  short_of [] more is some = refl
  short_of (octets ∷ run) more is some =
      let whole : octets_of_run run ++ (octets ++ more) ≡ frame_octets pdu = sym (append_assoc (octets_of_run run) octets more) ∙ is in
      let longer : 0 < length (octets ++ more) = omega (arith, length-append octets more) in
      rw (too_few (octets_of_run run) (octets ++ more) whole longer) (short_of run (octets ++ more) whole longer)

  IsRun : List (List ℕ) → Type 0
  IsRun run = (octets_of_run run ≡ frame_octets pdu) × (is_shortest run ≡ true)

  -- the pieces of what is left, behind those before them
  run_of : (count size : ℕ) (octets : List ℕ) (older : List (List ℕ)) → 0 < size → length octets ≤ count → 0 < length octets
      → octets_of_run older ++ octets ≡ frame_octets pdu → IsRun (reverse (pieces_within count size octets) ++ older)
  unfolding IsRun
  run_of zero size octets older h within some is = absurd (omega arith)
  run_of (suc count) size [] older h within some is = absurd (omega arith)
  run_of (suc count) size (x ∷ xs) older h within some is =
      let piece : List ℕ = take size (x ∷ xs) in
      let left : List ℕ = drop size (x ∷ xs) in
      let both : (octets_of_run older ++ piece) ++ left ≡ frame_octets pdu =
      append_assoc (octets_of_run older) piece left ∙ ap (λ (octets : List ℕ). octets_of_run older ++ octets) (take-append-drop size (x ∷ xs)) ∙ is in
      let fewer : length left ≤ count = omega (arith, length-drop size (x ∷ xs)) in
      subst IsRun (sym (newer piece (pieces_within count size left) older)) (elim (cases_lt 0 (length left)) [
        | inl more ↦ run_of count size left (piece ∷ older) h fewer more both
        | inr none ↦
            let ended : left ≡ [] = length-zero left (omega arith) in
            let last : IsRun (piece ∷ older) = (
              sym (append-nil (octets_of_run older ++ piece)) ∙ ap (λ (octets : List ℕ). (octets_of_run older ++ piece) ++ octets) (sym ended) ∙ both,
              rw (too_few (octets_of_run older) (x ∷ xs) is (omega arith)) (short_of older (x ∷ xs) is (omega arith)),
            ) in
            subst (λ (octets : List ℕ). IsRun (reverse (pieces_within count size octets) ++ (piece ∷ older))) (sym ended) (alone count piece last)
      ])
    where
      alone : (count : ℕ) (piece : List ℕ) → IsRun (piece ∷ older) → IsRun (reverse (pieces_within count size []) ++ (piece ∷ older))
      alone zero piece last = last
      alone (suc count) piece last = last

  whole_frame : length pdu.1 ≤ MAX_PDU → frame_in_by (is_enough (frame_octets pdu)) true (is_frame (frame_octets pdu)) (frame_octets pdu)
      ≡ Some (frame_octets pdu)
  whole_frame fits =
      let stated : from_two (length pdu.1 % 256) (length pdu.1 / 256) ≡ length pdu.1 = omega arith in
      rw (
        le-leb (from_two (length pdu.1 % 256) (length pdu.1 / 256)) (length pdu.1) (omega arith),
        eq-eqb (length pdu.1) (from_two (length pdu.1 % 256) (length pdu.1 / 256)) (sym stated),
        le-leb (length (frame_octets pdu)) MAX_FRAME (omega arith),
      ) refl

  run_frame : (run : List (List ℕ)) → IsRun run → length pdu.1 ≤ MAX_PDU → frame_in run ≡ Some (frame_octets pdu)
  unfolding IsRun
  run_frame run is fits =
      ap₂ (λ (octets : List ℕ) (short : Bool). frame_in_by (is_enough octets) short (is_frame octets) octets) is.0 is.1 ∙ whole_frame fits

newest-continued : (others : List (List ℕ)) (older : List Fragment) (run : List (List ℕ)) → newest_run older ≡ Some run
    → newest_run (reverse (map Continuation others) ++ older) ≡ Some (reverse others ++ run)
newest-continued [] older run is = is
newest-continued (octets ∷ others) older run is =
    ap newest_run (newer (Continuation octets) (map Continuation others) older)
    ∙ newest-continued others (Continuation octets ∷ older) (octets ∷ run) (ap (option_map (λ (earlier : List (List ℕ)). octets ∷ earlier)) is)
    ∙ ap Some (sym (newer octets others run))

newest-flagged : (pieces : List (List ℕ)) (older : List Fragment) → 0 < length pieces
    → newest_run (reverse (fragments_of_pieces pieces) ++ older) ≡ Some (reverse pieces ++ [])
newest-flagged [] older some = absurd (omega arith)
newest-flagged (piece ∷ others) older some =
    ap newest_run (newer (Beginning piece) (map Continuation others) older)
    ∙ newest-continued others (Beginning piece ∷ older) (piece ∷ []) refl
    ∙ ap Some (sym (newer piece others []))

-- the fragments of a PDU make its frame
pub fragments_frame : (size : ℕ) (pdu : Pdu) (older : List Fragment) → 0 < size → length pdu.1 ≤ MAX_PDU
    → frame_at (reverse (fragments_of size pdu) ++ older) ≡ Some (frame_octets pdu)
unfolding frame_at pieces
fragments_frame size pdu older some fits =
    ap of_run (newest-flagged (pieces size (frame_octets pdu)) older (omega arith))
    ∙ run_frame pdu (reverse (pieces size (frame_octets pdu)) ++ [])
    (run_of pdu (length (frame_octets pdu)) size (frame_octets pdu) [] some (omega arith) (omega arith) refl) fits
