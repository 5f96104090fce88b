-- What is written over a part of a PDU in a buffer.
use Rattle.std.proofs.Common.{◌≡◌, false, ℕ, zero, suc, ◌+◌, ◌≤◌, [], ◌∷◌, ◌++◌, length, take, drop, refl, ap, sym, ◌∙◌, arith}
use Rattle.std.proofs.lemmas.Grind.{common_steps}
use Rattle.att_pdu.specs.End.{content_in, keeps_length}
use Rattle.att_pdu.specs.declared.pdu_buf.End.{End}
use Rattle.octet_io.specs.Number.{Octets}

-- of octets that are written over the front of others, or over a part of them, the first are written over the first
front_written : (before : ℕ) (octets more : Octets) → length more ≤ length (take before octets)
    → take before (more ++ drop (length more) octets) ≡ more ++ drop (length more) (take before octets)
front_written before octets [] within = refl
front_written zero octets (one ∷ more) within = absurd (omega arith)
front_written (suc before) [] (one ∷ more) within = absurd (omega arith)
front_written (suc before) (octet ∷ octets) (one ∷ more) within = ap (λ (rest : Octets). one ∷ rest) (front_written before octets more (omega arith))

part_written : (before place : ℕ) (octets more : Octets) → place + length more ≤ length (take before octets)
    → take before (take place octets ++ more ++ drop (place + length more) octets)
    ≡ take place (take before octets) ++ more ++ drop (place + length more) (take before octets)
part_written before zero octets more within = grind (arith, common_steps, front_written before octets more)
part_written zero (suc place) octets more within = absurd (omega arith)
part_written (suc before) (suc place) [] more within = absurd (omega arith)
part_written (suc before) (suc place) (octet ∷ octets) more within =
    let next : suc place + length more ≡ suc (place + length more) = omega arith in
    let first = take (suc before) (octet ∷ octets) in
    ap (λ (end : ℕ). take (suc before) (take (suc place) (octet ∷ octets) ++ more ++ drop end (octet ∷ octets))) next
    ∙ ap (λ (rest : Octets). octet ∷ rest) (part_written before place octets more (omega (arith, within)))
    ∙ ap (λ (end : ℕ). take (suc place) first ++ more ++ drop end first) (sym next)

pub written : (end : End) (octets more : Octets) (place : ℕ) → place + length more ≤ length (content_in end octets)
    → content_in end (take place octets ++ more ++ drop (place + length more) octets)
    ≡ take place (content_in end octets) ++ more ++ drop (place + length more) (content_in end octets)
written End.OfBuffer octets more place within = refl
written (End.Before before) octets more place within = part_written before place octets more within

-- where a buffer does not keep its length, all its octets are the PDU's
pub whole : (end : End) (octets : Octets) → keeps_length end ≡ false → content_in end octets ≡ octets
whole End.OfBuffer octets keeps = refl
whole (End.Before before) octets keeps = cc keeps
