-- Octets cut into packets, and what is left of them without the data of some connections.
use Rattle.std.proofs.Common.{◌≡◌, ◌≢◌, ℕ, suc, zero, ◌+◌, ◌-◌, ◌<◌, ◌≤◌, Bool, true, false, List, [], ◌∷◌, ◌++◌, length, take, drop, filter, Option, Some, None, refl, sym, ap, subst, ◌∙◌, arith, append-nil, append_assoc}
use Rattle.std.specs.Prelude.{cond, nat_le, ◌==◌, not, All, Contains}
use Rattle.std.specs.List.{copy_within, list_any}
use Rattle.std.proofs.lemmas.Bool.{eq-eqb, false≢true, leb-true, le-leb}
use Rattle.std.proofs.lemmas.List.{drop-append-le, drop-drop, length-append, length-drop, length-take-le, take-append-le, take_at, drop_at, take_rest, take-append-drop}
use Rattle.std.proofs.lemmas.List.Folds.{list_any_at}
use Rattle.std.proofs.lemmas.List.Edits.{take-paste, drop-paste}
use Rattle.std.proofs.Math.Seq.{paste}
use Rattle.std.proofs.lemmas.List.Elements.{All-cons, All-head, All-nil, All-tail, filter_passes}
use Rattle.le_h4.specs.declared.indicator.TheConstants.{COMMAND, ACL}
use Rattle.octet_io.specs.Number.{Octets, from_two}
use Rattle.device_loop.specs.Withholding.{HasNoDataFor, IsCutIntoPackets, Packets, command_size, data_size, first_and_others, first_size, handle_of_data, is_data_for, is_one_of, joined, packet_size, packets_in, packets_within, size_if_whole, without, without_data_for}

-- the first packet has at least one octet, and is whole
some-size : (octets : Octets) (size : ℕ) → packet_size octets ≡ Some size → 0 < size
some-size [] size is = absurd (cc is)
some-size (indicator ∷ octets) size is = by-indicator (indicator == COMMAND) (indicator == ACL) octets is
  where
    of-command : (octets : Octets) → command_size octets ≡ Some size → 0 < size
    of-command [] is = absurd (cc is)
    of-command (a ∷ []) is = absurd (cc is)
    of-command (a ∷ b ∷ []) is = absurd (cc is)
    of-command (a ∷ b ∷ c ∷ octets) is =
        let e : 4 + c ≡ size = cc is in
        omega arith

    of-data : (octets : Octets) → data_size octets ≡ Some size → 0 < size
    of-data [] is = absurd (cc is)
    of-data (a ∷ []) is = absurd (cc is)
    of-data (a ∷ b ∷ []) is = absurd (cc is)
    of-data (a ∷ b ∷ c ∷ []) is = absurd (cc is)
    of-data (a ∷ b ∷ c ∷ d ∷ octets) is =
        let e : 5 + from_two c d ≡ size = cc is in
        omega arith

    by-indicator : (is_command is_acl : Bool) (octets : Octets) → cond is_command (command_size octets) (cond is_acl (data_size octets) None) ≡ Some size
        → 0 < size
    by-indicator true is_acl octets is = of-command octets is
    by-indicator false true octets is = of-data octets is
    by-indicator false false octets is = absurd (cc is)

pub record IsWithin (octets : Octets) (size : ℕ) : Type 0 where
  pub stated : packet_size octets ≡ Some size
  pub some : 0 < size
  pub fits : size ≤ length octets

within-if : (octets : Octets) (stated : Option ℕ) (size : ℕ) → size_if_whole octets stated ≡ Some size → (stated ≡ Some size) × (size ≤ length octets)
within-if octets None size is = absurd (cc is)
within-if octets (Some stated) size is = by-test (nat_le stated (length octets)) refl is
  where
    by-test : (test : Bool) → nat_le stated (length octets) ≡ test → cond test (Some stated) None ≡ Some size → (Some stated ≡ Some size)
        × (size ≤ length octets)
    by-test true fits is =
        let e : stated ≡ size = cc is in
        (is, subst (λ size. size ≤ length octets) e (leb-true stated (length octets) fits))
    by-test false fits is = absurd (cc is)

pub within : (octets : Octets) (size : ℕ) → first_size octets ≡ Some size → IsWithin octets size
within octets size is =
    let found = within-if octets (packet_size octets) size is in
    record { stated = found.0; some = some-size octets size found.0; fits = found.1 }

-- only what follows the first packet is cut further
others-same : (octets : Octets) (first : Option ℕ) (f g : Octets → Packets) → ((size : ℕ) → first ≡ Some size → f (drop size octets) ≡ g (drop size octets))
    → first_and_others octets first f ≡ first_and_others octets first g
others-same octets None f g same = refl
others-same octets (Some size) f g same = λ i. record { whole = take size octets ∷ (same size refl i).whole; rest = (same size refl i).rest }

-- any count that is large enough cuts in the same way
within_enough : (n m : ℕ) (octets : Octets) → length octets ≤ n → length octets ≤ m → packets_within n octets ≡ packets_within m octets
unfolding packets_within
within_enough zero zero octets h k = refl
within_enough zero (suc m) [] h k = refl
within_enough zero (suc m) (x ∷ xs) h k = absurd (omega arith)
within_enough (suc n) zero [] h k = refl
within_enough (suc n) zero (x ∷ xs) h k = absurd (omega arith)
within_enough (suc n) (suc m) octets h k =
    others-same octets (first_size octets) (packets_within n) (packets_within m)
    (λ size is.
    let first = within octets size is in
    within_enough n m (drop size octets) (omega (arith, first.some, first.fits, length-drop size octets))
    (omega (arith, first.some, first.fits, length-drop size octets)))

pub packets_first : (octets : Octets) → packets_in octets ≡ first_and_others octets (first_size octets) packets_in
unfolding packets_in packets_within
packets_first [] = refl
packets_first (x ∷ xs) =
    others-same (x ∷ xs) (first_size (x ∷ xs)) (packets_within (length xs)) packets_in
    (λ size is.
    let first = within (x ∷ xs) size is in
    within_enough (length xs) (length (drop size (x ∷ xs))) (drop size (x ∷ xs)) (omega (arith, first.some, first.fits, length-drop size (x ∷ xs)))
    (omega arith))

pub packets_none : (octets : Octets) → first_size octets ≡ None → packets_in octets ≡ record { whole = []; rest = octets }
packets_none octets none = packets_first octets ∙ ap (λ (first : Option ℕ). first_and_others octets first packets_in) none

pub packets_some : (octets : Octets) (size : ℕ) → first_size octets ≡ Some size
    → packets_in octets ≡ record { whole = take size octets ∷ (packets_in (drop size octets)).whole; rest = (packets_in (drop size octets)).rest }
packets_some octets size is = packets_first octets ∙ ap (λ (first : Option ℕ). first_and_others octets first packets_in) is

-- what is left of octets that begin with no whole packet, and of others
pub left_none : (connections : List ℕ) (octets : Octets) → first_size octets ≡ None → without_data_for connections octets ≡ octets
unfolding without_data_for
left_none connections octets none = ap (without connections) (packets_none octets none)

abbrev pub unless_data : Bool → Octets → Octets
unless_data true packet = []
unless_data false packet = packet

left-more : (connections : List ℕ) (packet rest : Octets) (whole : List Octets) (withheld : Bool) → is_data_for connections packet ≡ withheld
    → without connections (record { whole = packet ∷ whole; rest = rest }) ≡ unless_data withheld packet
    ++ without connections (record { whole = whole; rest = rest })
left-more connections packet rest whole true is = rw is refl
left-more connections packet rest whole false is =
    rw is (append_assoc packet (joined (filter (λ packet. not (is_data_for connections packet)) whole)) rest)

pub left_some : (connections : List ℕ) (octets : Octets) (size : ℕ) (withheld : Bool) → first_size octets ≡ Some size
    → is_data_for connections (take size octets) ≡ withheld
    → without_data_for connections octets ≡ unless_data withheld (take size octets) ++ without_data_for connections (drop size octets)
unfolding without_data_for
left_some connections octets size withheld first is =
    ap (without connections) (packets_some octets size first)
    ∙ left-more connections (take size octets) (packets_in (drop size octets)).rest (packets_in (drop size octets)).whole withheld is

-- a packet that is withheld is passed, and another is moved behind what is left so far
module _ (connections : List ℕ) (xs all : Octets) (left at : ℕ) (so_far : take left xs ++ without_data_for connections (drop at xs) ≡ all) (behind : left ≤ at)
    (within_xs : at ≤ length xs) where
  pub passes : (size : ℕ) → first_size (drop at xs) ≡ Some size → is_data_for connections (take size (drop at xs)) ≡ true
      → take left xs ++ without_data_for connections (drop (at + size) xs) ≡ all
  passes size first is =
      ap (λ (rest : Octets). take left xs ++ without_data_for connections rest) (sym (drop-drop size at xs))
      ∙ ap (λ (rest : Octets). take left xs ++ rest) (sym (left_some connections (drop at xs) size true first is))
      ∙ so_far

  pub moves : (size : ℕ) (ys : Octets) → first_size (drop at xs) ≡ Some size → is_data_for connections (take size (drop at xs)) ≡ false
      → ys ≡ copy_within xs at (at + size) left → take (left + size) ys ++ without_data_for connections (drop (at + size) ys) ≡ all
  moves size ys first is moved =
      let count : at + size - at ≡ size = omega arith in
      let pasted = moved ∙ ap (paste xs left (drop at xs)) count in
      let fits = (within (drop at xs) size first).fits in
      let front : take (left + size) ys ≡ take left xs ++ take size (drop at xs) =
      ap (take (left + size)) pasted ∙ take-paste xs left (drop at xs) size (omega arith) fits in
      let sum : at + size ≡ (left + size) + (at - left) = omega arith in
      let back : drop (at + size) ys ≡ drop size (drop at xs) =
      ap (drop (at + size)) pasted
      ∙ ap (λ (count : ℕ). drop count (paste xs left (drop at xs) size)) sum
      ∙ sym (drop-drop (at - left) (left + size) (paste xs left (drop at xs) size))
      ∙ ap (drop (at - left)) (drop-paste xs left (drop at xs) size (omega arith) fits)
      ∙ drop-drop (at - left) (left + size) xs
      ∙ ap (λ (count : ℕ). drop count xs) (sym sum)
      ∙ sym (drop-drop size at xs) in
      (λ i. front i ++ without_data_for connections (back i))
      ∙ append_assoc (take left xs) (take size (drop at xs)) (without_data_for connections (drop size (drop at xs)))
      ∙ ap (λ (rest : Octets). take left xs ++ rest) (sym (left_some connections (drop at xs) size false first is))
      ∙ so_far

  -- what is no whole packet is moved, too
  pub ends : (ys : Octets) → first_size (drop at xs) ≡ None → ys ≡ copy_within xs at (at + (length xs - at)) left → take (left + (length xs - at)) ys ≡ all
  ends ys none moved =
      let count : at + (length xs - at) - at ≡ length xs - at = omega arith in
      ap (take (left + (length xs - at))) (moved ∙ ap (paste xs left (drop at xs)) count)
      ∙ take-paste xs left (drop at xs) (length xs - at) (omega arith) (omega (arith, length-drop at xs))
      ∙ ap (λ (rest : Octets). take left xs ++ rest) (take_rest xs at ∙ sym (left_none connections (drop at xs) none))
      ∙ so_far

-- a whole packet is the first one again, whatever follows it
again : (octets more : Octets) (size : ℕ) → packet_size octets ≡ Some size → packet_size (take size octets ++ more) ≡ Some size
again [] more size is = absurd (cc is)
again (indicator ∷ octets) more size is = by-indicator (indicator == COMMAND) (indicator == ACL) octets refl refl is
  where
    of-command : (octets : Octets) → indicator == COMMAND ≡ true → command_size octets ≡ Some size → packet_size (take size (indicator ∷ octets) ++ more)
        ≡ Some size
    of-command [] command is = absurd (cc is)
    of-command (a ∷ []) command is = absurd (cc is)
    of-command (a ∷ b ∷ []) command is = absurd (cc is)
    of-command (a ∷ b ∷ c ∷ octets) command is =
        let four : 4 + c ≡ suc (suc (suc (suc c))) = omega arith in
        let e : 4 + c ≡ size = cc is in
        subst (λ (size : ℕ). packet_size (take size (indicator ∷ a ∷ b ∷ c ∷ octets) ++ more) ≡ Some size) (sym four ∙ e) (rw command (ap Some four))

    of-data : (octets : Octets) → indicator == COMMAND ≡ false → indicator == ACL ≡ true → data_size octets ≡ Some size
        → packet_size (take size (indicator ∷ octets) ++ more) ≡ Some size
    of-data [] other acl is = absurd (cc is)
    of-data (a ∷ []) other acl is = absurd (cc is)
    of-data (a ∷ b ∷ []) other acl is = absurd (cc is)
    of-data (a ∷ b ∷ c ∷ []) other acl is = absurd (cc is)
    of-data (a ∷ b ∷ c ∷ d ∷ octets) other acl is =
        let five : 5 + from_two c d ≡ suc (suc (suc (suc (suc (from_two c d))))) = omega arith in
        let e : 5 + from_two c d ≡ size = cc is in
        subst (λ (size : ℕ). packet_size (take size (indicator ∷ a ∷ b ∷ c ∷ d ∷ octets) ++ more) ≡ Some size) (sym five ∙ e) (rw other (rw acl (ap Some five)))

    by-indicator : (is_command is_acl : Bool) (octets : Octets) → indicator == COMMAND ≡ is_command → indicator == ACL ≡ is_acl
        → cond is_command (command_size octets) (cond is_acl (data_size octets) None) ≡ Some size → packet_size (take size (indicator ∷ octets) ++ more)
        ≡ Some size
    by-indicator true is_acl octets command acl is = of-command octets command is
    by-indicator false true octets command acl is = of-data octets command acl is
    by-indicator false false octets command acl is = absurd (cc is)

if-within : (octets : Octets) (stated : Option ℕ) (size : ℕ) → stated ≡ Some size → size ≤ length octets → size_if_whole octets stated ≡ Some size
if-within octets stated size is fits =
    ap (size_if_whole octets) is ∙ ap (λ (test : Bool). cond test (Some size) None) (le-leb size (length octets) fits)

-- these octets are a packet, whatever follows them
abbrev pub IsPacket : Octets → Type 0
IsPacket packet = (more : Octets) → first_size (packet ++ more) ≡ Some (length packet)

first-again : (octets : Octets) (size : ℕ) → first_size octets ≡ Some size → IsPacket (take size octets)
first-again octets size is more =
    let first = within octets size is in
    let long : length (take size octets) ≡ size = length-take-le size octets first.fits in
    if-within (take size octets ++ more) (packet_size (take size octets ++ more)) (length (take size octets))
    (again octets more size first.stated ∙ ap Some (sym long)) (omega (arith, length-append (take size octets) more))

abbrev pub ArePackets : List Octets → Type 0
ArePackets [] = Unit
ArePackets (packet ∷ packets) = IsPacket packet × ArePackets packets

-- the packets in octets are packets, and none is behind them
pub record IsCut (octets : Octets) : Type 0 where
  pub packets : ArePackets (packets_in octets).whole
  pub none : first_size (packets_in octets).rest ≡ None

cut-into : (count : ℕ) (octets : Octets) → length octets ≤ count → (first : Option ℕ) → first_size octets ≡ first → IsCut octets
cut-into count octets enough None first =
    record {
      packets = subst (λ (packets : Packets). ArePackets packets.whole) (sym (packets_none octets first)) tt;
      none = ap (λ (packets : Packets). first_size packets.rest) (packets_none octets first) ∙ first;
    }
cut-into zero octets enough (Some size) first =
    let packet = within octets size first in
    absurd (omega (arith, packet.some, packet.fits))
cut-into (suc count) octets enough (Some size) first =
    let packet = within octets size first in
    let later = cut-into count (drop size octets) (omega (arith, packet.some, packet.fits, length-drop size octets)) (first_size (drop size octets)) refl in
    record {
      packets = subst (λ (packets : Packets). ArePackets packets.whole) (sym (packets_some octets size first)) (first-again octets size first, later.packets);
      none = ap (λ (packets : Packets). first_size packets.rest) (packets_some octets size first) ∙ later.none;
    }

is_cut : (octets : Octets) → IsCut octets
is_cut octets = cut-into (length octets) octets (omega arith) (first_size octets) refl

-- together they are the octets
parts-of : (count : ℕ) (octets : Octets) → length octets ≤ count → (first : Option ℕ) → first_size octets ≡ first
    → octets ≡ joined (packets_in octets).whole ++ (packets_in octets).rest
parts-of count octets enough None first =
    ap (λ (packets : Packets). joined packets.whole ++ packets.rest) (sym (packets_none octets first))
parts-of zero octets enough (Some size) first =
    let packet = within octets size first in
    absurd (omega (arith, packet.some, packet.fits))
parts-of (suc count) octets enough (Some size) first =
    let packet = within octets size first in
    let later : Octets = drop size octets in
    sym (take-append-drop size octets)
    ∙ ap (λ (rest : Octets). take size octets ++ rest)
    (parts-of count later (omega (arith, packet.some, packet.fits, length-drop size octets)) (first_size later) refl)
    ∙ sym (append_assoc (take size octets) (joined (packets_in later).whole) (packets_in later).rest)
    ∙ ap (λ (packets : Packets). joined packets.whole ++ packets.rest) (sym (packets_some octets size first))

all-stated : (packets : List Octets) → ArePackets packets → All (λ packet. packet_size packet ≡ Some (length packet)) packets
all-stated [] are = All-nil (λ packet. packet_size packet ≡ Some (length packet))
all-stated (packet ∷ packets) are =
    All-cons (λ packet. packet_size packet ≡ Some (length packet)) packet packets
    (within packet (length packet) (ap first_size (sym (append-nil packet)) ∙ are.0 [])).stated (all-stated packets are.1)

pub cut_into_packets : (octets : Octets) → IsCutIntoPackets octets
cut_into_packets octets =
    let cut = is_cut octets in
    record {
      parts = parts-of (length octets) octets (omega arith) (first_size octets) refl;
      packets = all-stated (packets_in octets).whole cut.packets;
      behind = cut.none;
    }

-- packets, and octets behind them that begin with none, are cut so
cut-again : (packets : List Octets) (rest : Octets) → ArePackets packets → first_size rest ≡ None → packets_in (joined packets ++ rest)
    ≡ record { whole = packets; rest = rest }
cut-again [] rest are none = packets_none rest none
cut-again (packet ∷ packets) rest are none =
    let more : Octets = joined packets ++ rest in
    let front : take (length packet) (packet ++ more) ≡ packet = take_at packet more (length packet) refl in
    let behind : drop (length packet) (packet ++ more) ≡ more = drop_at packet more (length packet) refl in
    let later = ap packets_in behind ∙ cut-again packets rest are.1 none in
    ap packets_in (append_assoc packet (joined packets) rest)
    ∙ packets_some (packet ++ more) (length packet) (are.0 more)
    ∙ (λ i. record { whole = front i ∷ (later i).whole; rest = (later i).rest })

packets-filtered : (test : Octets → Bool) (packets : List Octets) → ArePackets packets → ArePackets (filter test packets)
packets-filtered test [] are = tt
packets-filtered test (packet ∷ packets) are = by-test (test packet) (packets-filtered test packets are.1)
  where
    by-test : (passes : Bool) → ArePackets (filter test packets) → ArePackets (cond passes (packet ∷ filter test packets) (filter test packets))
    by-test true others = (are.0, others)
    by-test false others = others

-- the packets in what is left are those that are no data for these connections
left_packets : (connections : List ℕ) (octets : Octets)
    → (packets_in (without_data_for connections octets)).whole ≡ filter (λ packet. not (is_data_for connections packet)) (packets_in octets).whole
unfolding without_data_for
left_packets connections octets =
    let cut = is_cut octets in
    ap (λ (packets : Packets). packets.whole)
    (cut-again (filter (λ packet. not (is_data_for connections packet)) (packets_in octets).whole) (packets_in octets).rest
    (packets-filtered (λ packet. not (is_data_for connections packet)) (packets_in octets).whole cut.packets) cut.none)

-- whatever holds of each packet in octets holds of each packet in a front of them
first-more : (octets more : Octets) (size : ℕ) → first_size octets ≡ Some size → first_size (octets ++ more) ≡ Some size
first-more octets more size is =
    let first = within octets size is in
    ap first_size (ap (λ (all : Octets). all ++ more) (sym (take-append-drop size octets)) ∙ append_assoc (take size octets) (drop size octets) more)
    ∙ first-again octets size is (drop size octets ++ more)
    ∙ ap Some (length-take-le size octets first.fits)

in-front : (P : Octets → Type 0) (count : ℕ) (octets more : Octets) → length octets ≤ count → (first : Option ℕ) → first_size octets ≡ first
    → All P (packets_in (octets ++ more)).whole → All P (packets_in octets).whole
in-front P count octets more enough None first all =
    subst (λ (packets : Packets). All P packets.whole) (sym (packets_none octets first)) (All-nil P)
in-front P zero octets more enough (Some size) first all =
    let packet = within octets size first in
    absurd (omega (arith, packet.some, packet.fits))
in-front P (suc count) octets more enough (Some size) first all =
    let packet = within octets size first in
    let front : take size (octets ++ more) ≡ take size octets = take-append-le size octets more packet.fits in
    let behind : drop size (octets ++ more) ≡ drop size octets ++ more = drop-append-le size octets more packet.fits in
    let there : All P (take size octets ∷ (packets_in (drop size octets ++ more)).whole) =
    subst (λ (packets : List Octets). All P packets)
    (ap (λ (packets : Packets). packets.whole) (packets_some (octets ++ more) size (first-more octets more size first))
    ∙ (λ i. front i ∷ (packets_in (behind i)).whole)) all in
    subst (λ (packets : Packets). All P packets.whole) (sym (packets_some octets size first))
    (All-cons P (take size octets) (packets_in (drop size octets)).whole
    (All-head P (take size octets) (packets_in (drop size octets ++ more)).whole there)
    (in-front P count (drop size octets) more (omega (arith, packet.some, packet.fits, length-drop size octets)) (first_size (drop size octets)) refl
    (All-tail P (take size octets) (packets_in (drop size octets ++ more)).whole there)))

-- what is left has no data for any of these connections, and neither has a front of it
any-of : (connections : List ℕ) (handle : ℕ) → Contains connections handle → list_any (λ connection. connection == handle) connections ≡ true
any-of connections handle among =
    list_any_at (λ connection. connection == handle) connections among.0 handle among.1
    (ap (λ connection. connection == handle) among.2 ∙ eq-eqb handle handle refl)

not-data : (connections : List ℕ) (handle : ℕ) (packet : Octets) → Contains connections handle → not (is_data_for connections packet) ≡ true
    → handle_of_data packet ≢ Some handle
not-data connections handle packet among other is =
    let found : is_data_for connections packet ≡ true = ap (is_one_of connections) is ∙ any-of connections handle among in
    false≢true (ap not (sym found) ∙ other)

all-map : (P Q : Octets → Type 0) → ((x : Octets) → P x → Q x) → (xs : List Octets) → All P xs → All Q xs
all-map P Q leads xs all k d below = leads _ (all k d below)

pub no_data_left : (connections : List ℕ) (handle : ℕ) (octets sent left : Octets) → Contains connections handle → without_data_for connections octets
    ≡ sent ++ left
    → HasNoDataFor handle sent
no_data_left connections handle octets sent left among is =
    in-front (λ packet. handle_of_data packet ≢ Some handle) (length sent) sent left (omega arith) (first_size sent) refl
    (subst (λ (packets : List Octets). All (λ packet. handle_of_data packet ≢ Some handle) packets)
    (sym (left_packets connections octets) ∙ ap (λ (octets : Octets). (packets_in octets).whole) is)
    (all-map (λ packet. not (is_data_for connections packet) ≡ true) (λ packet. handle_of_data packet ≢ Some handle)
    (λ packet. not-data connections handle packet among) (filter (λ packet. not (is_data_for connections packet)) (packets_in octets).whole)
    (filter_passes (λ packet. not (is_data_for connections packet)) (packets_in octets).whole)))
