-- A packet by the size that its octets state.
use Rattle.std.proofs.Common.{◌≡◌, ℕ, suc, ◌+◌, ◌<◌, ◌≤◌, List, [], ◌∷◌, length, take, drop, Bool, true, false, refl, ◌∙◌, ap, subst, arith}
use Rattle.std.specs.Prelude.{cond, ◌==◌, slice_get, Option, Some, None}
use Rattle.std.proofs.lemmas.List.{drop_all, length-take, take_all}
use Rattle.octet_io.specs.Number.{from_two}
use Rattle.le_h4.specs.Packet.{Packet, EventPacket, ScoPacket, First, FirstPacket, NoneYet, NoPacket, first_of, acl_form, sco_form, event_form, with_data, acl_packet}
use Rattle.le_h4.specs.Progress.{acl_size, short_size, stated_size, IsSizeOf}
use Rattle.le_h4.proofs.Firsts.{with_data-whole, with_data-part}

-- the data and nothing else
pub data-alone : (packet : List ℕ → Packet) (size : ℕ) (octets : List ℕ) → size ≤ length octets
    → with_data packet size (take size octets) ≡ FirstPacket (packet (take size octets)) []
data-alone packet size octets h =
    with_data-whole packet size (take size octets) (omega (arith, length-take size octets))
    ∙ ap (λ (data_octets : List ℕ). FirstPacket (packet data_octets) (drop size (take size octets)))
    (take_all size (take size octets) (omega (arith, length-take size octets)))
    ∙ ap (FirstPacket (packet (take size octets))) (drop_all size (take size octets) (omega (arith, length-take size octets)))

-- by this form the octets of this size are a packet, and fewer are none
record Sized (octets : List ℕ) (form : List ℕ → First) (size : ℕ) : Type 0 where
  whole : size ≤ length octets → (packet : Packet) × (form (take size octets) ≡ FirstPacket packet [])
  part : length octets < size → form octets ≡ NoneYet

abbrev Sizes : List ℕ → (List ℕ → First) → Option ℕ → Type 0
Sizes octets form stated = (size : ℕ) → stated ≡ Some size → Sized octets form size

sizes-either : (octets : List ℕ) (test : Bool) (f g : List ℕ → First) (p q : Option ℕ) → Sizes octets f p → Sizes octets g q
    → Sizes octets (λ more. cond test (f more) (g more)) (cond test p q)
sizes-either octets true f g p q first second = first
sizes-either octets false f g p q first second = second

sizes-none : (octets : List ℕ) (form : List ℕ → First) → Sizes octets form None
sizes-none octets form size is = absurd (cc)

-- a size that is stated
sizes-by : (octets : List ℕ) (form : List ℕ → First) (stated : ℕ) → Sized octets form stated → Sizes octets form (Some stated)
sizes-by octets form stated sized size is = let same : stated ≡ size = cc is in subst (Sized octets form) same sized

-- a header that is not all there
lacking : (octets : List ℕ) (form : List ℕ → First) (size : ℕ) → length octets < size → form octets ≡ NoneYet → Sized octets form size
lacking octets form size lacks none = record { whole = λ within. absurd (omega arith); part = λ part. none }

sized-acl : (indicator : ℕ) (octets : List ℕ)
    → Sized octets acl_form (acl_size (slice_get (indicator ∷ octets) 3) (slice_get (indicator ∷ octets) 4))
sized-acl indicator [] = lacking [] acl_form 4 (omega arith) refl
sized-acl indicator (a ∷ []) = lacking (a ∷ []) acl_form 4 (omega arith) refl
sized-acl indicator (a ∷ b ∷ []) = lacking (a ∷ b ∷ []) acl_form 4 (omega arith) refl
sized-acl indicator (a ∷ b ∷ c ∷ []) = lacking (a ∷ b ∷ c ∷ []) acl_form 4 (omega arith) refl
sized-acl indicator (a ∷ b ∷ c ∷ d ∷ octets) =
    let same : suc (suc (suc (suc (from_two c d)))) ≡ 4 + from_two c d = omega arith in
    subst (Sized (a ∷ b ∷ c ∷ d ∷ octets) acl_form) same (record {
      whole = λ within. (acl_packet (from_two a b) (take (from_two c d) octets), data-alone (acl_packet (from_two a b)) (from_two c d) octets (omega arith));
      part = λ part. with_data-part (acl_packet (from_two a b)) (from_two c d) octets (omega arith);
    })

sized-sco : (indicator : ℕ) (octets : List ℕ) → Sized octets sco_form (short_size 3 (slice_get (indicator ∷ octets) 3))
sized-sco indicator [] = lacking [] sco_form 3 (omega arith) refl
sized-sco indicator (a ∷ []) = lacking (a ∷ []) sco_form 3 (omega arith) refl
sized-sco indicator (a ∷ b ∷ []) = lacking (a ∷ b ∷ []) sco_form 3 (omega arith) refl
sized-sco indicator (a ∷ b ∷ size ∷ octets) =
    let same : suc (suc (suc size)) ≡ 3 + size = omega arith in
    subst (Sized (a ∷ b ∷ size ∷ octets) sco_form) same (record {
      whole = λ within. (ScoPacket, data-alone (λ data_octets. ScoPacket) size octets (omega arith));
      part = λ part. with_data-part (λ data_octets. ScoPacket) size octets (omega arith);
    })

sized-event : (indicator : ℕ) (octets : List ℕ) → Sized octets event_form (short_size 2 (slice_get (indicator ∷ octets) 2))
sized-event indicator [] = lacking [] event_form 2 (omega arith) refl
sized-event indicator (code ∷ []) = lacking (code ∷ []) event_form 2 (omega arith) refl
sized-event indicator (code ∷ size ∷ octets) =
    let same : suc (suc size) ≡ 2 + size = omega arith in
    subst (Sized (code ∷ size ∷ octets) event_form) same (record {
      whole = λ within.
          (EventPacket (code ∷ size ∷ take size octets), data-alone (λ parameters. EventPacket (code ∷ size ∷ parameters)) size octets (omega arith));
      part = λ part. with_data-part (λ parameters. EventPacket (code ∷ size ∷ parameters)) size octets (omega arith);
    })

-- the size that is stated, of a packet that is kept
pub sized : (octets : List ℕ) (size : ℕ) → stated_size octets ≡ Some size → size < 1029 → IsSizeOf octets (size + 1)
sized [] size is kept = absurd (cc)
sized (indicator ∷ octets) size is kept =
    let found =
    sizes-either octets (indicator == 0x02) acl_form
    (λ more. cond (indicator == 0x03) (sco_form more) (cond (indicator == 0x04) (event_form more) (NoPacket indicator))) _ _
    (sizes-by octets acl_form _ (sized-acl indicator octets))
    (sizes-either octets (indicator == 0x03) sco_form (λ more. cond (indicator == 0x04) (event_form more) (NoPacket indicator)) _ _
    (sizes-by octets sco_form _ (sized-sco indicator octets))
    (sizes-either octets (indicator == 0x04) event_form (λ more. NoPacket indicator) _ _ (sizes-by octets event_form _ (sized-event indicator octets))
    (sizes-none octets (λ more. NoPacket indicator))))
    size is in
    let next : suc size ≡ size + 1 = omega arith in
    record {
      whole = λ within.
          let packet = found.whole (omega arith) in
          let P : ℕ → Type 0 = λ n. first_of (take n (indicator ∷ octets)) ≡ FirstPacket packet.0 [] in
          record { packet = packet.0; first = subst P next packet.1; within = within; kept = omega arith };
      part = λ part. found.part (omega arith);
      kept = omega arith;
    }
