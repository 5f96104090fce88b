-- Handles as they are sent, in pairs of octets.
use Rattle.std.proofs.Common.{◌≡◌, ℕ, zero, suc, ◌+◌, ◌*◌, ◌/◌, ◌%◌, ◌<◌, ◌^◌, List, [], ◌∷◌, length, get_or, map, All, arith, refl}
use Rattle.std.specs.Simd.{first_chunks}
use Rattle.std.specs.Int.{w16, from_le_bytes}
use Rattle.std.specs.List.{flat_map}
use Rattle.octet_io.specs.Number.{two_octets}
use Rattle.att_pdu.specs.Form.{handles_of}

pub handles_in_pairs : (octets : List ℕ) (count : ℕ) → count ≡ length octets / 2 → map (from_le_bytes w16) (first_chunks 2 count octets) ≡ handles_of octets
handles_in_pairs [] zero is = refl
handles_in_pairs [] (suc count) is = absurd (omega arith)
handles_in_pairs (low ∷ []) zero is = refl
handles_in_pairs (low ∷ []) (suc count) is = absurd (omega arith)
handles_in_pairs (low ∷ high ∷ octets) zero is = absurd (omega arith)
handles_in_pairs (low ∷ high ∷ octets) (suc count) is =
    let first : low + high * 256 ≡ low + 256 * high = omega arith in
    λ i. first i ∷ handles_in_pairs octets count (omega arith) i

pub handles_spelled : (octets : List ℕ) → length octets % 2 ≡ 0 → ((i : ℕ) → get_or octets i 0 < 256) → flat_map two_octets (handles_of octets) ≡ octets
handles_spelled [] even small = refl
handles_spelled (low ∷ []) even small = absurd (omega arith)
handles_spelled (low ∷ high ∷ octets) even small =
    let below : low < 256 = small 0 in
    let at_low : (low + 256 * high) % 256 ≡ low = omega arith in
    let at_high : (low + 256 * high) / 256 ≡ high = omega arith in
    λ i. at_low i ∷ at_high i ∷ handles_spelled octets (omega arith) (λ j. small (suc (suc j))) i

pub handles_read : (handles : List ℕ) → All (λ handle. handle < 2 ^ 16) handles → handles_of (flat_map two_octets handles) ≡ handles
handles_read [] fields = refl
handles_read (handle ∷ handles) fields =
    let below : handle < 2 ^ 16 = fields 0 0 (omega arith) in
    let first : handle % 256 + 256 * (handle / 256) ≡ handle = omega arith in
    λ i. first i ∷ handles_read handles (λ k d within. fields (suc k) d (omega arith)) i

pub handles_twice : (handles : List ℕ) → length (flat_map two_octets handles) ≡ length handles * 2
handles_twice [] = refl
handles_twice (handle ∷ handles) = omega (arith, handles_twice handles)
