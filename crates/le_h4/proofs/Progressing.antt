-- The progress of a packet says what its octets begin with, and what more of them will.
use Rattle.std.proofs.Common.{◌≡◌, ℕ, ◌<◌, ◌≤◌, List, [], ◌∷◌, ◌++◌, length, take, drop, Bool, true, false, refl, arith, inl, inr}
use Rattle.std.specs.Prelude.{cond, nat_le, ◌==◌}
use Rattle.std.proofs.lemmas.Bool.{cases_Bool, le-leb, lt-leb, cases_lt}
use Rattle.std.proofs.lemmas.List.{drop_all, length-append}
use Rattle.le_h4.specs.Packet.{Packet, EventPacket, ScoPacket, First, FirstPacket, NoneYet, NoPacket, first_of, acl_form, sco_form, event_form, with_data, acl_packet}
use Rattle.octet_io.specs.Number.{from_two}
use Rattle.le_h4.specs.Progress.{progress_of, acl_progress, sco_progress, event_progress, data_progress, short_progress}
use Rattle.le_h4.specs.Division.{after_first, division, division_past}
use Rattle.le_h4.specs.declared.progress.Progress.{Progress}
use Rattle.le_h4.specs.declared.progress.Progress.TheVariants.{Lacks, Whole, Long, Desync}
use Rattle.le_h4.proofs.Firsts.{with_data-whole, with_data-part}
use Rattle.le_h4.proofs.Dividing.{long_data}

-- octets go no further than what they begin with
abbrev pub EndsIn : List ℕ → First → Type 0
EndsIn octets (FirstPacket packet rest) = rest ≡ []
EndsIn octets NoneYet = Unit {0}
EndsIn octets (NoPacket indicator) = octets ≡ indicator ∷ []

-- what these octets begin with, where more of them follow, is as the progress says
abbrev pub Agrees : List ℕ → (List ℕ → First) → Progress → Type 0
Agrees octets first (Lacks missing) =
    (0 < missing) × (first [] ≡ NoneYet) × ((more : List ℕ) → length more ≤ missing → EndsIn (octets ++ more) (first more))
Agrees octets first Whole = (packet : Packet) × (rest : List ℕ) × (first [] ≡ FirstPacket packet rest)
Agrees octets first (Long missing) =
    (0 < missing) × (first [] ≡ NoneYet) × ((more : List ℕ) → after_first (first more) division ≡ division_past missing more)
Agrees octets first (Desync indicator) = first [] ≡ NoPacket indicator

agrees-either : (octets : List ℕ) (test : Bool) (f g : List ℕ → First) (p q : Progress) → Agrees octets f p → Agrees octets g q
    → Agrees octets (λ more. cond test (f more) (g more)) (cond test p q)
agrees-either octets true f g p q first second = first
agrees-either octets false f g p q first second = second

-- less than the data, or the data exactly
ends-data : (all : List ℕ) (packet : List ℕ → Packet) (size : ℕ) (octets : List ℕ) → length octets ≤ size → EndsIn all (with_data packet size octets)
ends-data all packet size octets h = elim (cases_Bool (nat_le size (length octets))) [
  | inl yes_all ↦ rw yes_all (drop_all size octets h)
  | inr not_all ↦ rw not_all tt
]

agrees-short : (all : List ℕ) (packet : List ℕ → Packet) (size : ℕ) (octets : List ℕ)
    → Agrees all (λ more. with_data packet size (octets ++ more)) (short_progress size (length octets))
agrees-short all packet size octets = elim (cases_lt (length octets) size) [
  | inl part ↦ rw (lt-leb size (length octets) part) (
    omega arith,
    with_data-part packet size (octets ++ []) (omega (arith, length-append octets [])),
    λ more few. ends-data (all ++ more) packet size (octets ++ more) (omega (arith, length-append octets more)),
  )
  | inr whole ↦ rw (le-leb size (length octets) whole)
      (packet (take size (octets ++ [])), drop size (octets ++ []), with_data-whole packet size (octets ++ []) (omega (arith, length-append octets [])))
]

agrees-data : (all : List ℕ) (field size : ℕ) (octets : List ℕ)
    → Agrees all (λ more. with_data (acl_packet field) size (octets ++ more)) (data_progress size (length octets))
agrees-data all field size octets = elim (cases_lt (length octets) size) [
  | inl part ↦ rw (lt-leb size (length octets) part) (elim (cases_lt 1024 size) [
    | inl long ↦ rw (lt-leb size 1024 long) (
      omega arith,
      with_data-part (acl_packet field) size (octets ++ []) (omega (arith, length-append octets [])),
      λ more. long_data field size octets more long part,
    )
    | inr kept ↦ rw (le-leb size 1024 kept) (
      omega arith,
      with_data-part (acl_packet field) size (octets ++ []) (omega (arith, length-append octets [])),
      λ more few. ends-data (all ++ more) (acl_packet field) size (octets ++ more) (omega (arith, length-append octets more)),
    )
  ])
  | inr whole ↦ rw (le-leb size (length octets) whole) (
    acl_packet field (take size (octets ++ [])),
    drop size (octets ++ []),
    with_data-whole (acl_packet field) size (octets ++ []) (omega (arith, length-append octets [])),
  )
]

-- a header that is not all there, with as much as it lacks or less
agrees-acl : (all octets : List ℕ) → Agrees all (λ more. acl_form (octets ++ more)) (acl_progress octets)
agrees-acl all [] = (omega arith, refl, few)
  where
    few : (more : List ℕ) → length more ≤ 4 → EndsIn (all ++ more) (acl_form more)
    few [] h = tt
    few (a ∷ []) h = tt
    few (a ∷ b ∷ []) h = tt
    few (a ∷ b ∷ c ∷ []) h = tt
    few (a ∷ b ∷ c ∷ d ∷ more) h = ends-data (all ++ (a ∷ b ∷ c ∷ d ∷ more)) (acl_packet (from_two a b)) (from_two c d) more (omega arith)
agrees-acl all (a ∷ []) = (omega arith, refl, few)
  where
    few : (more : List ℕ) → length more ≤ 3 → EndsIn (all ++ more) (acl_form (a ∷ more))
    few [] h = tt
    few (b ∷ []) h = tt
    few (b ∷ c ∷ []) h = tt
    few (b ∷ c ∷ d ∷ more) h = ends-data (all ++ (b ∷ c ∷ d ∷ more)) (acl_packet (from_two a b)) (from_two c d) more (omega arith)
agrees-acl all (a ∷ b ∷ []) = (omega arith, refl, few)
  where
    few : (more : List ℕ) → length more ≤ 2 → EndsIn (all ++ more) (acl_form (a ∷ b ∷ more))
    few [] h = tt
    few (c ∷ []) h = tt
    few (c ∷ d ∷ more) h = ends-data (all ++ (c ∷ d ∷ more)) (acl_packet (from_two a b)) (from_two c d) more (omega arith)
agrees-acl all (a ∷ b ∷ c ∷ []) = (omega arith, refl, few)
  where
    few : (more : List ℕ) → length more ≤ 1 → EndsIn (all ++ more) (acl_form (a ∷ b ∷ c ∷ more))
    few [] h = tt
    few (d ∷ more) h = ends-data (all ++ (d ∷ more)) (acl_packet (from_two a b)) (from_two c d) more (omega arith)
agrees-acl all (a ∷ b ∷ c ∷ d ∷ octets) = agrees-data all (from_two a b) (from_two c d) octets

agrees-sco : (all octets : List ℕ) → Agrees all (λ more. sco_form (octets ++ more)) (sco_progress octets)
agrees-sco all [] = (omega arith, refl, few)
  where
    few : (more : List ℕ) → length more ≤ 3 → EndsIn (all ++ more) (sco_form more)
    few [] h = tt
    few (a ∷ []) h = tt
    few (a ∷ b ∷ []) h = tt
    few (a ∷ b ∷ size ∷ more) h = ends-data (all ++ (a ∷ b ∷ size ∷ more)) (λ data_octets. ScoPacket) size more (omega arith)
agrees-sco all (a ∷ []) = (omega arith, refl, few)
  where
    few : (more : List ℕ) → length more ≤ 2 → EndsIn (all ++ more) (sco_form (a ∷ more))
    few [] h = tt
    few (b ∷ []) h = tt
    few (b ∷ size ∷ more) h = ends-data (all ++ (b ∷ size ∷ more)) (λ data_octets. ScoPacket) size more (omega arith)
agrees-sco all (a ∷ b ∷ []) = (omega arith, refl, few)
  where
    few : (more : List ℕ) → length more ≤ 1 → EndsIn (all ++ more) (sco_form (a ∷ b ∷ more))
    few [] h = tt
    few (size ∷ more) h = ends-data (all ++ (size ∷ more)) (λ data_octets. ScoPacket) size more (omega arith)
agrees-sco all (a ∷ b ∷ size ∷ octets) = agrees-short all (λ data_octets. ScoPacket) size octets

agrees-event : (all octets : List ℕ) → Agrees all (λ more. event_form (octets ++ more)) (event_progress octets)
agrees-event all [] = (omega arith, refl, few)
  where
    few : (more : List ℕ) → length more ≤ 2 → EndsIn (all ++ more) (event_form more)
    few [] h = tt
    few (a ∷ []) h = tt
    few (code ∷ size ∷ more) h = ends-data (all ++ (code ∷ size ∷ more)) (λ parameters. EventPacket (code ∷ size ∷ parameters)) size more (omega arith)
agrees-event all (code ∷ []) = (omega arith, refl, few)
  where
    few : (more : List ℕ) → length more ≤ 1 → EndsIn (all ++ more) (event_form (code ∷ more))
    few [] h = tt
    few (size ∷ more) h = ends-data (all ++ (size ∷ more)) (λ parameters. EventPacket (code ∷ size ∷ parameters)) size more (omega arith)
agrees-event all (code ∷ size ∷ octets) = agrees-short all (λ parameters. EventPacket (code ∷ size ∷ parameters)) size octets

-- an indicator alone begins every packet, or none
ends-either : (octets : List ℕ) (test : Bool) (a b : First) → EndsIn octets a → EndsIn octets b → EndsIn octets (cond test a b)
ends-either octets true a b first second = first
ends-either octets false a b first second = second

pub agrees : (octets : List ℕ) → Agrees octets (λ more. first_of (octets ++ more)) (progress_of octets)
agrees [] = (omega arith, refl, few)
  where
    few : (more : List ℕ) → length more ≤ 1 → EndsIn more (first_of more)
    few [] h = tt
    few (indicator ∷ []) h =
        ends-either (indicator ∷ []) (indicator == 0x02) _ _ tt
        (ends-either (indicator ∷ []) (indicator == 0x03) _ _ tt (ends-either (indicator ∷ []) (indicator == 0x04) _ _ tt refl))
    few (indicator ∷ next ∷ more) h = absurd (omega arith)
agrees (indicator ∷ octets) =
    agrees-either (indicator ∷ octets) (indicator == 0x02) (λ more. acl_form (octets ++ more))
    (λ more. cond (indicator == 0x03) (sco_form (octets ++ more)) (cond (indicator == 0x04) (event_form (octets ++ more)) (NoPacket indicator))) _ _
    (agrees-acl (indicator ∷ octets) octets)
    (agrees-either (indicator ∷ octets) (indicator == 0x03) (λ more. sco_form (octets ++ more))
    (λ more. cond (indicator == 0x04) (event_form (octets ++ more)) (NoPacket indicator)) _ _ (agrees-sco (indicator ∷ octets) octets)
    (agrees-either (indicator ∷ octets) (indicator == 0x04) (λ more. event_form (octets ++ more)) (λ more. NoPacket indicator) _ _
    (agrees-event (indicator ∷ octets) octets) refl))
