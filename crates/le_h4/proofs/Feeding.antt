-- What a piece of the stream does, in the terms of the deframer's contract.
use Rattle.std.proofs.Common.{◌≡◌, ℕ, List, [], ◌++◌, take, drop, Bool, true, false, Some, refl, sym, ◌∙◌, ap, arith}
use Rattle.std.specs.Prelude.{Ok, Err, IsSome}
use Rattle.std.specs.Option.{option_to_list}
use Rattle.std.proofs.lemmas.List.{append-nil, take_all, take-append-drop}
use Rattle.le_h4.specs.declared.deframer.Fed.{Fed}
use Rattle.le_h4.specs.declared.deframer.H4Fault.{H4Fault}
use Rattle.le_h4.specs.declared.deframer.H4Fault.TheVariants.{Desync}
use Rattle.le_h4.specs.Packet.{Packet, First, FirstPacket, NoneYet, NoPacket, first_of}
use Rattle.le_h4.specs.Division.{Division, unfinished, lost, before, division_past}
use Rattle.le_h4.specs.Deframer.{still, marks}
use Rattle.le_h4.specs.Progress.{packet_in, reading}
use Rattle.le_h4.specs.Gathering.{GathersPacket, GathersAll, Gathers}
use Rattle.le_h4.specs.Held.{deframing_of, marked_in, IsHeld}
use Rattle.le_h4.proofs.Dividing.{division-nothing, past_none}
use Rattle.le_h4.proofs.Firsts.{first_spelled}

module _ (skipping : ℕ) (gathered octets : List ℕ) (left : ℕ) (holds : List ℕ) where
  abbrev GathersBy : Bool → ℕ → Type 0
  GathersBy packet used =
      elim packet [ true ↦ GathersPacket skipping gathered octets used left holds | false ↦ GathersAll skipping gathered octets used left holds ]

  divided_by : (packet : Bool) (used : ℕ) → GathersBy packet used → (rest : List ℕ)
      → division_past skipping (gathered ++ (take used octets ++ rest))
      ≡ before (marks (deframing_of left holds packet)) (still (deframing_of left holds packet) rest)
  divided_by true used gathers rest =
      gathers.divided rest
      ∙ ap (λ (packets : List Packet). before packets (division_past 0 rest)) (ap option_to_list (sym (ap packet_in gathers.first)))
      ∙ ap (λ (n : ℕ). before (marks (deframing_of left holds true)) (division_past n rest)) (sym gathers.none_left)
  divided_by false used gathers rest =
      ap (λ (xs : List ℕ). division_past skipping (gathered ++ (xs ++ rest))) (take_all used octets (omega (arith, gathers.all)))
      ∙ gathers.divided rest

  unfinished_by : (packet : Bool) (used : ℕ) → GathersBy packet used → still (deframing_of left holds packet) [] ≡ unfinished
  unfinished_by true used gathers = ap (λ (n : ℕ). division_past n []) gathers.none_left ∙ past_none [] ∙ division-nothing
  unfinished_by false used gathers = ap (division_past left) (append-nil holds) ∙ gathers.unfinished

  not_lost_by : (packet : Bool) (used indicator : ℕ) → GathersBy packet used → division_past skipping (gathered ++ octets) ≡ lost indicator → ⊥
  not_lost_by true used indicator gathers is =
      let divided = gathers.divided (drop used octets) in
      let same = ap (λ (xs : List ℕ). division_past skipping (gathered ++ xs)) (take-append-drop used octets) in
      let packets = ap (λ (d : Division). d.packets) (sym divided ∙ same ∙ is) in
      cc
  not_lost_by false used indicator gathers is =
      let divided = gathers.divided [] in
      let same = ap (λ (xs : List ℕ). division_past skipping (gathered ++ xs)) (append-nil octets) in
      let all = ap (division_past left) (append-nil holds) ∙ gathers.unfinished in
      let end = ap (λ (d : Division). d.end) (sym all ∙ sym divided ∙ same ∙ is) in
      cc

  pub fed_divided : (fed : Fed) → Gathers skipping gathered octets (Ok fed) left holds → (rest : List ℕ)
      → division_past skipping (gathered ++ (take fed.used octets ++ rest))
      ≡ before (marks (deframing_of left holds fed.packet)) (still (deframing_of left holds fed.packet) rest)
  fed_divided fed gathers = divided_by fed.packet fed.used gathers

  pub fed_unfinished : (fed : Fed) → Gathers skipping gathered octets (Ok fed) left holds → still (deframing_of left holds fed.packet) [] ≡ unfinished
  fed_unfinished fed gathers = unfinished_by fed.packet fed.used gathers

  pub fed_not_lost : (fed : Fed) (indicator : ℕ) → Gathers skipping gathered octets (Ok fed) left holds
      → division_past skipping (gathered ++ octets) ≡ lost indicator → ⊥
  fed_not_lost fed indicator gathers = not_lost_by fed.packet fed.used indicator gathers

  pub lost_where : (fault : H4Fault) (indicator : ℕ) → Gathers skipping gathered octets (Err fault) left holds
      → (fault ≡ Desync indicator → division_past skipping (gathered ++ octets) ≡ lost indicator)
      × (division_past skipping (gathered ++ octets) ≡ lost indicator → fault ≡ Desync indicator)
  lost_where (Desync met) indicator gathers =
      let is : division_past skipping (gathered ++ octets) ≡ lost met =
      ap (λ (xs : List ℕ). division_past skipping (gathered ++ xs)) (sym (append-nil octets)) ∙ gathers.divided [] in
      (λ same. is ∙ (cc same), λ lost_there. let end = ap (λ (d : Division). d.end) (sym is ∙ lost_there) in cc)

-- a packet that is marked is what its octets are read as
pub marked_reading : (skipping : ℕ) (gathered : List ℕ) (marked : Bool) → IsHeld skipping gathered marked → IsSome (marked_in marked gathered)
    → marked_in marked gathered ≡ Some (reading gathered)
marked_reading skipping gathered false held some = cc
marked_reading skipping gathered true held some = found (first_of gathered) refl some
  where
    found : (first : First) → first_of gathered ≡ first → IsSome (packet_in first) → packet_in first ≡ Some (reading gathered)
    found (FirstPacket packet rest) is whole =
        ap Some (sym (first_spelled gathered packet (is ∙ ap (FirstPacket packet) (held.fits.whole packet rest is))).1)
    found NoneYet is whole = cc
    found (NoPacket indicator) is whole = cc
