-- Octets consist of packets in one way alone: a packet tells where it ends.
use Rattle.std.proofs.Common.{◌≡◌, ℕ, ◌+◌, Bool, true, false, List, [], ◌∷◌, ◌++◌, length, take, drop, Option, Some, None, refl, sym, ap, ◌∙◌, append_assoc, arith}
use Rattle.std.specs.List.{All}
use Rattle.std.specs.Prelude.{◌==◌}
use Rattle.std.proofs.lemmas.List.{length-append, take_at, drop_at}
use Rattle.std.proofs.lemmas.List.Elements.{All-head, All-tail}
use Rattle.le_h4.specs.declared.indicator.TheConstants.{COMMAND, ACL, SCO, EVENT}
use Rattle.octet_io.specs.Number.{Octets}
use Rattle.btsnoop.specs.Packet.{needed_behind_two, acl_needed, event_needed, needed_of, IsPacket, IsUnfinished, joined_packets}
use Rattle.btsnoop.proofs.Beginning.{pick}

-- a packet that is whole needs as much, whatever follows
same_behind_two : (octets more : Octets) (count : ℕ) → count ≡ 1 + length octets → needed_behind_two octets ≡ count → needed_behind_two (octets ++ more) ≡ count
same_behind_two [] more count all is = absurd (omega (arith, all, is))
same_behind_two (a ∷ []) more count all is = absurd (omega (arith, all, is))
same_behind_two (a ∷ b ∷ []) more count all is = absurd (omega (arith, all, is))
same_behind_two (a ∷ b ∷ size ∷ octets) more count all is = is

same_acl : (octets more : Octets) (count : ℕ) → count ≡ 1 + length octets → acl_needed octets ≡ count → acl_needed (octets ++ more) ≡ count
same_acl [] more count all is = absurd (omega (arith, all, is))
same_acl (a ∷ []) more count all is = absurd (omega (arith, all, is))
same_acl (a ∷ b ∷ []) more count all is = absurd (omega (arith, all, is))
same_acl (a ∷ b ∷ c ∷ []) more count all is = absurd (omega (arith, all, is))
same_acl (a ∷ b ∷ low ∷ high ∷ octets) more count all is = is

same_event : (octets more : Octets) (count : ℕ) → count ≡ 1 + length octets → event_needed octets ≡ count → event_needed (octets ++ more) ≡ count
same_event [] more count all is = absurd (omega (arith, all, is))
same_event (a ∷ []) more count all is = absurd (omega (arith, all, is))
same_event (a ∷ size ∷ octets) more count all is = is

abbrev number_in : Option ℕ → ℕ
number_in None = 0
number_in (Some n) = n

some_same : (m n : ℕ) → Some m ≡ Some n → m ≡ n
some_same m n is = ap number_in is

picked_same : (a b c d : Bool) (p q r s p2 q2 r2 s2 count : ℕ) → (p ≡ count → p2 ≡ count) → (q ≡ count → q2 ≡ count)
    → (r ≡ count → r2 ≡ count) → (s ≡ count → s2 ≡ count)
    → pick a b c d p q r s ≡ Some count → pick a b c d p2 q2 r2 s2 ≡ Some count
picked_same true b c d p q r s p2 q2 r2 s2 count first second third fourth is = ap Some (first (some_same p count is))
picked_same false true c d p q r s p2 q2 r2 s2 count first second third fourth is = ap Some (second (some_same q count is))
picked_same false false true d p q r s p2 q2 r2 s2 count first second third fourth is = ap Some (third (some_same r count is))
picked_same false false false true p q r s p2 q2 r2 s2 count first second third fourth is = ap Some (fourth (some_same s count is))
picked_same false false false false p q r s p2 q2 r2 s2 count first second third fourth is = is

same_needed : (packet more : Octets) (count : ℕ) → count ≡ length packet → needed_of packet ≡ Some count → needed_of (packet ++ more) ≡ Some count
same_needed [] more count all is = absurd (omega (arith, all, some_same 1 count is))
same_needed (x ∷ octets) more count all is =
    let behind : count ≡ 1 + length octets = omega (arith, all) in
    picked_same (x == COMMAND) (x == ACL) (x == SCO) (x == EVENT) _ _ _ _ _ _ _ _ count (same_behind_two octets more count behind)
    (same_acl octets more count behind) (same_behind_two octets more count behind) (same_event octets more count behind) is

packet_needed : (packet more : Octets) → IsPacket packet → needed_of (packet ++ more) ≡ Some (length packet)
packet_needed packet more is = same_needed packet more (length packet) refl is.0

-- a packet that is unfinished does not begin with one that is whole
not_whole : {A : Type 0} (left packet more : Octets) → IsUnfinished left → IsPacket packet → left ≡ packet ++ more → A
not_whole left packet more unfinished is parts =
    let needed : unfinished.needed ≡ length packet =
    some_same unfinished.needed (length packet) (sym unfinished.is ∙ ap needed_of parts ∙ packet_needed packet more is) in
    absurd (omega (arith, needed, unfinished.lacks, ap length parts, length-append packet more))

pub only_these : (xs ys : List Octets) (left rest : Octets) → All IsPacket xs → All IsPacket ys → IsUnfinished left → IsUnfinished rest
    → joined_packets xs ++ left ≡ joined_packets ys ++ rest → xs ≡ ys
only_these [] [] left rest whole wholes unfinished ends parts = refl
only_these [] (y ∷ ys) left rest whole wholes unfinished ends parts =
    not_whole left y (joined_packets ys ++ rest) unfinished (All-head IsPacket y ys wholes) (parts ∙ append_assoc y (joined_packets ys) rest)
only_these (x ∷ xs) [] left rest whole wholes unfinished ends parts =
    not_whole rest x (joined_packets xs ++ left) ends (All-head IsPacket x xs whole) (sym parts ∙ append_assoc x (joined_packets xs) left)
only_these (x ∷ xs) (y ∷ ys) left rest whole wholes unfinished ends parts =
    let both : x ++ (joined_packets xs ++ left) ≡ y ++ (joined_packets ys ++ rest) =
    sym (append_assoc x (joined_packets xs) left) ∙ parts ∙ append_assoc y (joined_packets ys) rest in
    let sizes : length x ≡ length y =
    some_same (length x) (length y)
    (sym (packet_needed x (joined_packets xs ++ left) (All-head IsPacket x xs whole)) ∙ ap needed_of both
    ∙ packet_needed y (joined_packets ys ++ rest) (All-head IsPacket y ys wholes)) in
    let firsts : x ≡ y =
    sym (take_at x (joined_packets xs ++ left) (length x) refl) ∙ ap (λ (octets : Octets). take (length x) octets) both
    ∙ ap (λ (count : ℕ). take count (y ++ (joined_packets ys ++ rest))) sizes ∙ take_at y (joined_packets ys ++ rest) (length y) refl in
    let others : joined_packets xs ++ left ≡ joined_packets ys ++ rest =
    sym (drop_at x (joined_packets xs ++ left) (length x) refl) ∙ ap (λ (octets : Octets). drop (length x) octets) both
    ∙ ap (λ (count : ℕ). drop count (y ++ (joined_packets ys ++ rest))) sizes ∙ drop_at y (joined_packets ys ++ rest) (length y) refl in
    ap (λ (packet : Octets). packet ∷ xs) firsts
    ∙ ap (λ (packets : List Octets). y ∷ packets)
    (only_these xs ys left rest (All-tail IsPacket x xs whole) (All-tail IsPacket y ys wholes) unfinished ends others)
