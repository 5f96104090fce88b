-- However a stream is cut into pieces, the packets that are marked are those of its division.
use Rattle.std.proofs.Common.{◌≡◌, ℕ, List, [], ◌∷◌, ◌++◌, sym, ◌∙◌, ap, append_assoc}
use Rattle.std.proofs.lemmas.List.{append-nil}
use Rattle.le_h4.specs.Packet.{Packet}
use Rattle.le_h4.specs.Division.{Division, before, division}
use Rattle.le_h4.specs.Deframer.{Deframing, deframing_at_start, still, DeframerCall, DeframesAll, octets_of_calls, packets_of_calls}
use Rattle.le_h4.proofs.Dividing.{past_none}

before-before : (xs ys : List Packet) (rest : Division) → before xs (before ys rest) ≡ before (xs ++ ys) rest
before-before xs ys rest = ap (λ (packets : List Packet). record { packets = packets; end = rest.end }) (sym (append_assoc xs ys rest.packets))

-- after any calls the rest divides as from where they led
still-feeds : (calls : List DeframerCall) (old new : Deframing) → DeframesAll old calls new → (rest : List ℕ)
    → still old (octets_of_calls calls ++ rest) ≡ before (packets_of_calls calls) (still new rest)
still-feeds [] old new feeds rest = ap (λ (d : Deframing). still d rest) (sym feeds)
still-feeds (call ∷ calls) old new feeds rest =
    ap (still old) (append_assoc call.taken (octets_of_calls calls) rest)
    ∙ feeds.1 (octets_of_calls calls ++ rest)
    ∙ ap (before call.packets) (still-feeds calls feeds.0 new feeds.2 rest)
    ∙ before-before call.packets (packets_of_calls calls) (still new rest)

-- from the start of a stream, the packets so far come before the division of the rest
division-feeds : (calls : List DeframerCall) (new : Deframing) → DeframesAll deframing_at_start calls new → (rest : List ℕ)
    → division (octets_of_calls calls ++ rest) ≡ before (packets_of_calls calls) (still new rest)
division-feeds calls new feeds rest = sym (past_none (octets_of_calls calls ++ rest)) ∙ still-feeds calls deframing_at_start new feeds rest

-- so they depend on the octets alone, where no whole packet is held back
pub packets_feeds : (calls : List DeframerCall) (new : Deframing) → DeframesAll deframing_at_start calls new → (still new []).packets ≡ []
    → packets_of_calls calls ≡ (division (octets_of_calls calls)).packets
packets_feeds calls new feeds none =
    sym (append-nil (packets_of_calls calls))
    ∙ ap (λ (held : List Packet). packets_of_calls calls ++ held) (sym none)
    ∙ ap (λ (d : Division). d.packets) (sym (division-feeds calls new feeds []))
    ∙ ap (λ (octets : List ℕ). (division octets).packets) (append-nil (octets_of_calls calls))
