-- What octets begin with, and how it stays so.
use Rattle.std.proofs.Common.{◌≡◌, ℕ, ◌+◌, ◌*◌, ◌/◌, ◌%◌, ◌<◌, ◌≤◌, List, [], ◌∷◌, ◌++◌, length, take, drop, Bool, true, false, refl, sym, ◌∙◌, ap, subst, arith, inl, inr}
use Rattle.std.specs.Prelude.{cond, nat_le, ◌==◌}
use Rattle.std.proofs.lemmas.Bool.{leb-true, eqb-true, cases_Bool, le-leb, lt-leb}
use Rattle.std.proofs.lemmas.List.{take-append-le, drop-append-le, take_all, length-append, length-drop}
use Rattle.le_h4.specs.Packet.{Packet, EventPacket, ScoPacket, First, FirstPacket, NoneYet, NoPacket, first_of, acl_form, sco_form, event_form, with_data, acl_packet, Spells}
use Rattle.octet_io.specs.Number.{from_two}
use Rattle.le_h4.specs.Progress.{reading}

-- data that is all there, and data that is not
pub with_data-whole : (packet : List ℕ → Packet) (size : ℕ) (octets : List ℕ) → size ≤ length octets
    → with_data packet size octets ≡ FirstPacket (packet (take size octets)) (drop size octets)
with_data-whole packet size octets h = rw (le-leb size (length octets) h) refl

pub with_data-part : (packet : List ℕ → Packet) (size : ℕ) (octets : List ℕ) → length octets < size → with_data packet size octets ≡ NoneYet
with_data-part packet size octets h = rw (lt-leb size (length octets) h) refl

-- more octets go behind what follows the first packet, and the rest of what octets begin with stays
abbrev pub StaysBefore : List ℕ → First → First → Type 0
StaysBefore more (FirstPacket packet rest) now = now ≡ FirstPacket packet (rest ++ more)
StaysBefore more NoneYet now = Unit {0}
StaysBefore more (NoPacket indicator) now = now ≡ NoPacket indicator

stays-either : (more : List ℕ) (test : Bool) (a b c d : First) → StaysBefore more a c → StaysBefore more b d → StaysBefore more (cond test a b) (cond test c d)
stays-either more true a b c d first second = first
stays-either more false a b c d first second = second

stays-data : (more : List ℕ) (packet : List ℕ → Packet) (size : ℕ) (octets : List ℕ)
    → StaysBefore more (with_data packet size octets) (with_data packet size (octets ++ more))
stays-data more packet size octets =
    elim (cases_Bool (nat_le size (length octets))) [
      | inl yes_all ↦
          rw yes_all (with_data-whole packet size (octets ++ more) (omega (arith, leb-true size (length octets) yes_all, length-append octets more))
          ∙ rw (
            take-append-le size octets more (leb-true size (length octets) yes_all),
            drop-append-le size octets more (leb-true size (length octets) yes_all),
          ) refl)
      | inr not_all ↦ rw not_all tt
    ]

stays-acl : (more octets : List ℕ) → StaysBefore more (acl_form octets) (acl_form (octets ++ more))
stays-acl more [] = tt
stays-acl more (a ∷ []) = tt
stays-acl more (a ∷ b ∷ []) = tt
stays-acl more (a ∷ b ∷ c ∷ []) = tt
stays-acl more (a ∷ b ∷ c ∷ d ∷ octets) = stays-data more (acl_packet (from_two a b)) (from_two c d) octets

stays-sco : (more octets : List ℕ) → StaysBefore more (sco_form octets) (sco_form (octets ++ more))
stays-sco more [] = tt
stays-sco more (a ∷ []) = tt
stays-sco more (a ∷ b ∷ []) = tt
stays-sco more (a ∷ b ∷ size ∷ octets) = stays-data more (λ data_octets. ScoPacket) size octets

stays-event : (more octets : List ℕ) → StaysBefore more (event_form octets) (event_form (octets ++ more))
stays-event more [] = tt
stays-event more (a ∷ []) = tt
stays-event more (code ∷ size ∷ octets) = stays-data more (λ parameters. EventPacket (code ∷ size ∷ parameters)) size octets

pub stays_before : (more octets : List ℕ) → StaysBefore more (first_of octets) (first_of (octets ++ more))
stays_before more [] = tt
stays_before more (indicator ∷ octets) =
    stays-either more (indicator == 0x02) _ _ _ _ (stays-acl more octets)
    (stays-either more (indicator == 0x03) _ _ _ _ (stays-sco more octets)
    (stays-either more (indicator == 0x04) _ _ _ _ (stays-event more octets) refl))

pub first_append-packet : (octets more rest : List ℕ) (packet : Packet) → first_of octets ≡ FirstPacket packet rest
    → first_of (octets ++ more) ≡ FirstPacket packet (rest ++ more)
first_append-packet octets more rest packet is =
    let P : First → Type 0 = λ first. StaysBefore more first (first_of (octets ++ more)) in subst P is (stays_before more octets)

pub first_append-none : (octets more : List ℕ) (indicator : ℕ) → first_of octets ≡ NoPacket indicator → first_of (octets ++ more) ≡ NoPacket indicator
first_append-none octets more indicator is =
    let P : First → Type 0 = λ first. StaysBefore more first (first_of (octets ++ more)) in subst P is (stays_before more octets)

-- a packet takes some octets
abbrev pub LeavesFewer : ℕ → First → Type 0
LeavesFewer count (FirstPacket packet rest) = length rest < count
LeavesFewer count NoneYet = Unit {0}
LeavesFewer count (NoPacket indicator) = Unit {0}

fewer-either : (count : ℕ) (test : Bool) (a b : First) → LeavesFewer count a → LeavesFewer count b → LeavesFewer count (cond test a b)
fewer-either count true a b first second = first
fewer-either count false a b first second = second

fewer-data : (count : ℕ) (packet : List ℕ → Packet) (size : ℕ) (octets : List ℕ) → length octets < count → LeavesFewer count (with_data packet size octets)
fewer-data count packet size octets h =
    elim (cases_Bool (nat_le size (length octets))) [
      | inl yes_all ↦ rw yes_all (omega (arith, length-drop size octets))
      | inr not_all ↦ rw not_all tt
    ]

fewer-acl : (count : ℕ) (octets : List ℕ) → length octets < count → LeavesFewer count (acl_form octets)
fewer-acl count [] h = tt
fewer-acl count (a ∷ []) h = tt
fewer-acl count (a ∷ b ∷ []) h = tt
fewer-acl count (a ∷ b ∷ c ∷ []) h = tt
fewer-acl count (a ∷ b ∷ c ∷ d ∷ octets) h = fewer-data count (acl_packet (from_two a b)) (from_two c d) octets (omega arith)

fewer-sco : (count : ℕ) (octets : List ℕ) → length octets < count → LeavesFewer count (sco_form octets)
fewer-sco count [] h = tt
fewer-sco count (a ∷ []) h = tt
fewer-sco count (a ∷ b ∷ []) h = tt
fewer-sco count (a ∷ b ∷ size ∷ octets) h = fewer-data count (λ data_octets. ScoPacket) size octets (omega arith)

fewer-event : (count : ℕ) (octets : List ℕ) → length octets < count → LeavesFewer count (event_form octets)
fewer-event count [] h = tt
fewer-event count (a ∷ []) h = tt
fewer-event count (code ∷ size ∷ octets) h = fewer-data count (λ parameters. EventPacket (code ∷ size ∷ parameters)) size octets (omega arith)

leaves_fewer : (octets : List ℕ) → LeavesFewer (length octets) (first_of octets)
leaves_fewer [] = tt
leaves_fewer (indicator ∷ octets) =
    fewer-either (length (indicator ∷ octets)) (indicator == 0x02) _ _ (fewer-acl _ octets (omega arith))
    (fewer-either (length (indicator ∷ octets)) (indicator == 0x03) _ _ (fewer-sco _ octets (omega arith))
    (fewer-either (length (indicator ∷ octets)) (indicator == 0x04) _ _ (fewer-event _ octets (omega arith)) tt))

pub first_shorter : (octets rest : List ℕ) (packet : Packet) → first_of octets ≡ FirstPacket packet rest → length rest < length octets
first_shorter octets rest packet is =
    let P : First → Type 0 = λ first. LeavesFewer (length octets) first in subst P is (leaves_fewer octets)

-- octets that are one packet are its spelling, and read so
abbrev pub IsSpelled : List ℕ → First → Type 0
IsSpelled octets (FirstPacket packet rest) = rest ≡ [] → Spells octets packet × (reading octets ≡ packet)
IsSpelled octets NoneYet = Unit {0}
IsSpelled octets (NoPacket indicator) = Unit {0}

spelled-either : (octets : List ℕ) (test : Bool) (a b : First) → (test ≡ true → IsSpelled octets a) → (test ≡ false → IsSpelled octets b)
    → IsSpelled octets (cond test a b)
spelled-either octets true a b first second = first refl
spelled-either octets false a b first second = second refl

spelled-data : (all octets : List ℕ) (packet : List ℕ → Packet) (size : ℕ)
    → (size ≡ length octets → Spells all (packet octets) × (reading all ≡ packet octets)) → IsSpelled all (with_data packet size octets)
spelled-data all octets packet size spelled =
    elim (cases_Bool (nat_le size (length octets))) [
      | inl yes_all ↦ rw yes_all (λ ends.
          let none : length (drop size octets) ≡ 0 = ap length ends in
          let exact : size ≡ length octets = omega (arith, leb-true size (length octets) yes_all, length-drop size octets) in
          rw (take_all size octets (omega arith)) (spelled exact))
      | inr not_all ↦ rw not_all tt
    ]

-- the bits of a field of 16 bits, put together again
field_parts : (field : ℕ) → field ≡ field % 4096 + 4096 * (field / 4096 % 4) + 16384 * (field / 16384)
field_parts field = omega arith

spelled-acl : (octets : List ℕ) → IsSpelled (0x02 ∷ octets) (acl_form octets)
spelled-acl [] = tt
spelled-acl (a ∷ []) = tt
spelled-acl (a ∷ b ∷ []) = tt
spelled-acl (a ∷ b ∷ c ∷ []) = tt
spelled-acl (a ∷ b ∷ c ∷ d ∷ octets) =
    spelled-data (0x02 ∷ a ∷ b ∷ c ∷ d ∷ octets) octets (acl_packet (from_two a b)) (from_two c d)
    (λ exact. ((a, b, c, d, refl, field_parts (from_two a b), exact), refl))

spelled-sco : (octets : List ℕ) → IsSpelled (0x03 ∷ octets) (sco_form octets)
spelled-sco [] = tt
spelled-sco (a ∷ []) = tt
spelled-sco (a ∷ b ∷ []) = tt
spelled-sco (a ∷ b ∷ size ∷ octets) =
    spelled-data (0x03 ∷ a ∷ b ∷ size ∷ octets) octets (λ data_octets. ScoPacket) size
    (λ exact. ((a, b, octets, ap (λ (n : ℕ). 0x03 ∷ a ∷ b ∷ n ∷ octets) exact), refl))

spelled-event : (octets : List ℕ) → IsSpelled (0x04 ∷ octets) (event_form octets)
spelled-event [] = tt
spelled-event (a ∷ []) = tt
spelled-event (code ∷ size ∷ octets) =
    spelled-data (0x04 ∷ code ∷ size ∷ octets) octets (λ parameters. EventPacket (code ∷ size ∷ parameters)) size
    (λ exact. ((code, octets, ap (λ (n : ℕ). code ∷ n ∷ octets) exact, refl), refl))

with_indicator : (indicator known : ℕ) (octets : List ℕ) (first : First) → (indicator == known) ≡ true
    → IsSpelled (known ∷ octets) first → IsSpelled (indicator ∷ octets) first
with_indicator indicator known octets first is spelled =
    let P : ℕ → Type 0 = λ n. IsSpelled (n ∷ octets) first in subst P (sym (eqb-true indicator known is)) spelled

is_spelled : (octets : List ℕ) → IsSpelled octets (first_of octets)
is_spelled [] = tt
is_spelled (indicator ∷ octets) =
    spelled-either (indicator ∷ octets) (indicator == 0x02) _ _
    (λ is. with_indicator indicator 0x02 octets _ is (spelled-acl octets))
    (λ not_acl. spelled-either (indicator ∷ octets) (indicator == 0x03) _ _
    (λ is. with_indicator indicator 0x03 octets _ is (spelled-sco octets))
    (λ not_sco. spelled-either (indicator ∷ octets) (indicator == 0x04) _ _
    (λ is. with_indicator indicator 0x04 octets _ is (spelled-event octets))
    (λ not_event. tt)))

pub first_spelled : (octets : List ℕ) (packet : Packet) → first_of octets ≡ FirstPacket packet [] → Spells octets packet × (reading octets ≡ packet)
first_spelled octets packet is =
    let P : First → Type 0 = λ first. IsSpelled octets first in subst P is (is_spelled octets) refl
