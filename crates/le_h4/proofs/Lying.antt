-- A packet that lies whole in octets, where they begin.
use Rattle.std.proofs.Common.{◌≡◌, ℕ, suc, ◌≤◌, List, [], ◌∷◌, ◌++◌, length, take, drop, Bool, true, false, Option, Some, None, refl, sym, ◌∙◌, ap, subst, arith, inl, inr}
use Rattle.std.specs.Prelude.{cond, nat_le, ◌==◌, IfSome}
use Rattle.std.specs.Option.{option_map}
use Rattle.std.proofs.lemmas.Bool.{leb-true, eqb-true, cases_Bool, and_parts}
use Rattle.std.proofs.lemmas.List.{length-drop}
use Rattle.octet_io.specs.Number.{Octets, from_two}
use Rattle.le_h4.specs.declared.packet.WholePacket.{WholePacket}
use Rattle.le_h4.specs.Packet.{Packet, EventPacket, ScoPacket, First, FirstPacket, NoneYet, NoPacket, first_of, acl_form, sco_form, event_form, acl_packet, packet_of_ref, Spells}
use Rattle.le_h4.specs.Division.{is_long, before, unfinished, division, division_past, kept_first}
use Rattle.le_h4.specs.Deframer.{Deframing, still}
use Rattle.le_h4.specs.Whole.{lying_in, is_at_border}
use Rattle.le_h4.proofs.Beginning.{data-alone}
use Rattle.le_h4.proofs.Dividing.{division-nothing, division-packet, past_none}
use Rattle.le_h4.proofs.Firsts.{first_spelled}

-- the octets of the first packet alone are that packet, in this form
abbrev Alone : List ℕ → (List ℕ → First) → First → Type 0
Alone octets form (FirstPacket packet rest) =
    (size : ℕ) × (size ≤ length octets) × (rest ≡ drop size octets) × (form (take size octets) ≡ FirstPacket packet [])
Alone octets form NoneYet = Unit {0}
Alone octets form (NoPacket indicator) = Unit {0}

alone-either : (octets : List ℕ) (test : Bool) (f g : List ℕ → First) → Alone octets f (f octets) → Alone octets g (g octets)
    → Alone octets (λ more. cond test (f more) (g more)) (cond test (f octets) (g octets))
alone-either octets true f g first second = first
alone-either octets false f g first second = second

alone-acl : (octets : List ℕ) → Alone octets acl_form (acl_form octets)
alone-acl [] = tt
alone-acl (a ∷ []) = tt
alone-acl (a ∷ b ∷ []) = tt
alone-acl (a ∷ b ∷ c ∷ []) = tt
alone-acl (a ∷ b ∷ c ∷ d ∷ octets) = elim (cases_Bool (nat_le (from_two c d) (length octets))) [
  | inl whole ↦
      let within : from_two c d ≤ length octets = leb-true (from_two c d) (length octets) whole in
      rw whole (suc (suc (suc (suc (from_two c d)))), omega (arith, within), refl, data-alone (acl_packet (from_two a b)) (from_two c d) octets within)
  | inr part ↦ rw part tt
]

alone-sco : (octets : List ℕ) → Alone octets sco_form (sco_form octets)
alone-sco [] = tt
alone-sco (a ∷ []) = tt
alone-sco (a ∷ b ∷ []) = tt
alone-sco (a ∷ b ∷ size ∷ octets) = elim (cases_Bool (nat_le size (length octets))) [
  | inl whole ↦
      let within : size ≤ length octets = leb-true size (length octets) whole in
      rw whole (suc (suc (suc size)), omega (arith, within), refl, data-alone (λ data_octets. ScoPacket) size octets within)
  | inr part ↦ rw part tt
]

alone-event : (octets : List ℕ) → Alone octets event_form (event_form octets)
alone-event [] = tt
alone-event (a ∷ []) = tt
alone-event (code ∷ size ∷ octets) = elim (cases_Bool (nat_le size (length octets))) [
  | inl whole ↦
      let within : size ≤ length octets = leb-true size (length octets) whole in
      rw whole (suc (suc size), omega (arith, within), refl, data-alone (λ parameters. EventPacket (code ∷ size ∷ parameters)) size octets within)
  | inr part ↦ rw part tt
]

alone : (indicator : ℕ) (octets : List ℕ) → Alone octets (λ more. first_of (indicator ∷ more)) (first_of (indicator ∷ octets))
alone indicator octets =
    alone-either octets (indicator == 0x02) acl_form
    (λ more. cond (indicator == 0x03) (sco_form more) (cond (indicator == 0x04) (event_form more) (NoPacket indicator))) (alone-acl octets)
    (alone-either octets (indicator == 0x03) sco_form (λ more. cond (indicator == 0x04) (event_form more) (NoPacket indicator)) (alone-sco octets)
    (alone-either octets (indicator == 0x04) event_form (λ more. NoPacket indicator) (alone-event octets) tt))

pub first_alone : (octets rest : List ℕ) (packet : Packet) (used : ℕ) → first_of octets ≡ FirstPacket packet rest → used ≤ length octets
    → drop used octets ≡ rest
    → first_of (take used octets) ≡ FirstPacket packet []
first_alone [] rest packet used is within follows = absurd (cc is)
first_alone (indicator ∷ octets) rest packet used is within follows =
    let P : First → Type 0 = Alone octets (λ more. first_of (indicator ∷ more)) in
    let found = subst P is (alone indicator octets) in
    let same : suc found.0 ≡ used =
    omega (arith, found.1, ap length follows, ap length found.2, length-drop used (indicator ∷ octets), length-drop found.0 octets) in
    subst (λ (n : ℕ). first_of (take n (indicator ∷ octets)) ≡ FirstPacket packet []) same found.3

-- the octets that it takes are the packet's alone, and it is kept
record Lies (octets : Octets) (whole : WholePacket) : Type 0 where
  alone : first_of (take whole.used octets) ≡ FirstPacket (packet_of_ref whole.packet) []
  short : is_long (packet_of_ref whole.packet) ≡ false

abbrev found_or : Packet × Octets → Option (Packet × Octets) → Packet × Octets
found_or default (Some found) = found
found_or default None = default

lies : (octets : Octets) (whole : WholePacket) → Some (lying_in octets whole) ≡ kept_first (first_of octets) → whole.used ≤ length octets → Lies octets whole
lies octets whole same within = by (first_of octets) refl same
  where
    kept : (packet : Packet) (rest : Octets) → first_of octets ≡ FirstPacket packet rest → (long : Bool) → is_long packet ≡ long
        → Some (lying_in octets whole) ≡ cond long None (Some (packet, rest)) → Lies octets whole
    kept packet rest is true long same = absurd (cc same)
    kept packet rest is false short same =
        let parts : lying_in octets whole ≡ (packet, rest) = ap (found_or (packet, rest)) same in
        let is_packet : packet_of_ref whole.packet ≡ packet = ap (λ (pair : Packet × Octets). pair.0) parts in
        let follows : drop whole.used octets ≡ rest = ap (λ (pair : Packet × Octets). pair.1) parts in
        record {
          alone = first_alone octets rest packet whole.used is within follows ∙ ap (λ (found : Packet). FirstPacket found []) (sym is_packet);
          short = ap is_long is_packet ∙ short;
        }

    by : (first : First) → first_of octets ≡ first → Some (lying_in octets whole) ≡ kept_first first → Lies octets whole
    by (FirstPacket packet rest) is same = kept packet rest is (is_long packet) refl same
    by NoneYet is same = absurd (cc same)
    by (NoPacket indicator) is same = absurd (cc same)

nothing : (octets : Octets) → (length octets == 0) ≡ true → octets ≡ []
nothing [] is = refl
nothing (x ∷ octets) is = absurd (let none : suc (length octets) ≡ 0 = eqb-true (suc (length octets)) 0 is in omega (arith, none))

pub still_at_border : (deframing : Deframing) → is_at_border deframing ≡ true → (rest : Octets) → still deframing rest ≡ division rest
still_at_border deframing is rest =
    let tests = and_parts (deframing.skipping == 0) (length deframing.gathered == 0) is in
    ap (λ (n : ℕ). division_past n (deframing.gathered ++ rest)) (eqb-true deframing.skipping 0 tests.0)
    ∙ ap (λ (gathered : Octets). division_past 0 (gathered ++ rest)) (nothing deframing.gathered tests.1)
    ∙ past_none rest

-- what a deframer says of such a packet
module _ (deframing : Deframing) (octets : Octets) (at_border : is_at_border deframing ≡ true) where
  pub whole_divides : (found : Option WholePacket) → option_map (lying_in octets) found ≡ kept_first (first_of octets)
      → IfSome found (λ (whole : WholePacket). whole.used ≤ length octets)
      → IfSome found (λ (whole : WholePacket). (rest : Octets) → still deframing (take whole.used octets ++ rest)
      ≡ before (packet_of_ref whole.packet ∷ []) (still deframing rest))
  whole_divides None same within = tt
  whole_divides (Some whole) same within = λ rest.
      let found = lies octets whole same within in
      still_at_border deframing at_border (take whole.used octets ++ rest)
      ∙ division-packet (take whole.used octets) rest (packet_of_ref whole.packet) found.alone found.short
      ∙ ap (before (packet_of_ref whole.packet ∷ [])) (sym (still_at_border deframing at_border rest))

  pub whole_spelled : (found : Option WholePacket) → option_map (lying_in octets) found ≡ kept_first (first_of octets)
      → IfSome found (λ (whole : WholePacket). whole.used ≤ length octets)
      → IfSome found (λ (whole : WholePacket). Spells (take whole.used octets) (packet_of_ref whole.packet))
  whole_spelled None same within = tt
  whole_spelled (Some whole) same within = (first_spelled (take whole.used octets) (packet_of_ref whole.packet) (lies octets whole same within).alone).0

  pub whole_unfinished : (found : Option WholePacket) → IfSome found (λ (whole : WholePacket). still deframing [] ≡ unfinished)
  whole_unfinished None = tt
  whole_unfinished (Some whole) = still_at_border deframing at_border [] ∙ division-nothing
