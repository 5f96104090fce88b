-- What is begun of a packet goes on, up to its end.
use Rattle.std.proofs.Common.{◌≡◌, ℕ, ◌+◌, ◌≤◌, Bool, true, false, [], ◌∷◌, ◌++◌, length, Option, Some, None, sym, subst, arith}
use Rattle.std.specs.Prelude.{◌==◌, if◌then◌else◌}
use Rattle.std.proofs.lemmas.List.{length-append}
use Rattle.le_h4.specs.declared.indicator.TheConstants.{COMMAND, ACL, SCO, EVENT}
use Rattle.octet_io.specs.Number.{Octets}
use Rattle.btsnoop.specs.Packet.{needed_behind_two, acl_needed, event_needed, needed_of, within_needed, IsBegunPacket}

-- a header at least is needed
header_behind_two : (octets : Octets) → 4 ≤ needed_behind_two octets
header_behind_two [] = omega arith
header_behind_two (a ∷ []) = omega arith
header_behind_two (a ∷ b ∷ []) = omega arith
header_behind_two (a ∷ b ∷ size ∷ octets) = omega arith

acl_header : (octets : Octets) → 5 ≤ acl_needed octets
acl_header [] = omega arith
acl_header (a ∷ []) = omega arith
acl_header (a ∷ b ∷ []) = omega arith
acl_header (a ∷ b ∷ c ∷ []) = omega arith
acl_header (a ∷ b ∷ low ∷ high ∷ octets) = omega arith

event_header : (octets : Octets) → 3 ≤ event_needed octets
event_header [] = omega arith
event_header (a ∷ []) = omega arith
event_header (a ∷ size ∷ octets) = omega arith

-- with more octets no less is needed
more_behind_two : (octets more : Octets) (count : ℕ) → count ≤ needed_behind_two octets → count ≤ needed_behind_two (octets ++ more)
more_behind_two [] more count few = omega (arith, few, header_behind_two more)
more_behind_two (a ∷ []) more count few = omega (arith, few, header_behind_two (a ∷ more))
more_behind_two (a ∷ b ∷ []) more count few = omega (arith, few, header_behind_two (a ∷ b ∷ more))
more_behind_two (a ∷ b ∷ size ∷ octets) more count few = few

more_acl : (octets more : Octets) (count : ℕ) → count ≤ acl_needed octets → count ≤ acl_needed (octets ++ more)
more_acl [] more count few = omega (arith, few, acl_header more)
more_acl (a ∷ []) more count few = omega (arith, few, acl_header (a ∷ more))
more_acl (a ∷ b ∷ []) more count few = omega (arith, few, acl_header (a ∷ b ∷ more))
more_acl (a ∷ b ∷ c ∷ []) more count few = omega (arith, few, acl_header (a ∷ b ∷ c ∷ more))
more_acl (a ∷ b ∷ low ∷ high ∷ octets) more count few = few

more_event : (octets more : Octets) (count : ℕ) → count ≤ event_needed octets → count ≤ event_needed (octets ++ more)
more_event [] more count few = omega (arith, few, event_header more)
more_event (a ∷ []) more count few = omega (arith, few, event_header (a ∷ more))
more_event (a ∷ size ∷ octets) more count few = few

-- one of four numbers, by the first test that holds
abbrev pub pick : Bool → Bool → Bool → Bool → ℕ → ℕ → ℕ → ℕ → Option ℕ
pick a b c d p q r s = if a then Some p else if b then Some q else if c then Some r else if d then Some s else None

picked : (a b c d : Bool) (p q r s count : ℕ) → count ≤ p → count ≤ q → count ≤ r → count ≤ s → within_needed count (pick a b c d p q r s)
picked true b c d p q r s count first second third fourth = first
picked false true c d p q r s count first second third fourth = second
picked false false true d p q r s count first second third fourth = third
picked false false false true p q r s count first second third fourth = fourth
picked false false false false p q r s count first second third fourth = tt

picked_more : (a b c d : Bool) (p q r s p2 q2 r2 s2 count : ℕ) → (count ≤ p → count ≤ p2) → (count ≤ q → count ≤ q2)
    → (count ≤ r → count ≤ r2) → (count ≤ s → count ≤ s2)
    → within_needed count (pick a b c d p q r s) → within_needed count (pick a b c d p2 q2 r2 s2)
picked_more true b c d p q r s p2 q2 r2 s2 count first second third fourth few = first few
picked_more false true c d p q r s p2 q2 r2 s2 count first second third fourth few = second few
picked_more false false true d p q r s p2 q2 r2 s2 count first second third fourth few = third few
picked_more false false false true p q r s p2 q2 r2 s2 count first second third fourth few = fourth few
picked_more false false false false p q r s p2 q2 r2 s2 count first second third fourth few = tt

more_needed : (octets more : Octets) (count : ℕ) → within_needed count (needed_of octets) → within_needed count (needed_of (octets ++ more))
more_needed [] [] count few = few
more_needed [] (x ∷ more) count few =
    picked (x == COMMAND) (x == ACL) (x == SCO) (x == EVENT) _ _ _ _ count (omega (arith, few, header_behind_two more))
    (omega (arith, few, acl_header more)) (omega (arith, few, header_behind_two more)) (omega (arith, few, event_header more))
more_needed (x ∷ octets) more count few =
    picked_more (x == COMMAND) (x == ACL) (x == SCO) (x == EVENT) _ _ _ _ _ _ _ _ count (more_behind_two octets more count)
    (more_acl octets more count) (more_behind_two octets more count) (more_event octets more count) few

-- so octets that are missing lead no further than one packet
pub goes_on : (octets more : Octets) (missing : ℕ) → needed_of octets ≡ Some (length octets + missing) → length more ≤ missing → IsBegunPacket (octets ++ more)
goes_on octets more missing is few =
    let all : length (octets ++ more) ≤ length octets + missing = omega (arith, few, length-append octets more) in
    more_needed octets more (length (octets ++ more)) (subst (within_needed (length (octets ++ more))) (sym is) all)
