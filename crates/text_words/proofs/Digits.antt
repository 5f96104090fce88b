-- Octets are added as digits one after the other.
use Rattle.std.proofs.Common.{◌≡◌, ℕ, ◌+◌, ◌<◌, ◌≤◌, [], ◌∷◌, ◌++◌, drop, length, get_or, ◌∙◌, ap, sym, append_assoc}
use Rattle.std.proofs.lemmas.List.{append-nil, drop_all, drop_more}
use Rattle.hex.specs.Hex.{encode_lower, encode_with}
use Rattle.octet_io.specs.Number.{Octets}

pub octet_added : (octets old now new : Octets) (index octet : ℕ) → index < length octets → octet ≡ get_or octets index 0
    → now ++ encode_lower (drop index octets) ≡ old ++ encode_lower octets → new ≡ now ++ encode_lower (octet ∷ [])
    → new ++ encode_lower (drop (index + 1) octets) ≡ old ++ encode_lower octets
unfolding encode_with
octet_added octets old now new index octet below same so_far added =
    let next : drop index octets ≡ octet ∷ drop (index + 1) octets =
    drop_more octets index 0 below ∙ ap (λ (first : ℕ). first ∷ drop (index + 1) octets) (sym same) in
    ap (λ (front : Octets). front ++ encode_lower (drop (index + 1) octets)) added
    ∙ append_assoc now (encode_lower (octet ∷ [])) (encode_lower (drop (index + 1) octets))
    ∙ ap (λ (left : Octets). now ++ encode_lower left) (sym next) ∙ so_far

pub octets_added : (octets old now : Octets) (index : ℕ) → length octets ≤ index
    → now ++ encode_lower (drop index octets) ≡ old ++ encode_lower octets → now ≡ old ++ encode_lower octets
unfolding encode_with
octets_added octets old now index all so_far =
    sym (append-nil now) ∙ ap (λ (left : Octets). now ++ encode_lower left) (sym (drop_all index octets all)) ∙ so_far
