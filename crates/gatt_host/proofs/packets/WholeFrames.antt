-- A fragment that begins a frame and is a whole one gives it, and leaves nothing.
use Rattle.std.proofs.Common.{◌≡◌, ◌==◌, Bool, true, false, nat_le, [], ◌∷◌, ◌++◌, length, Option, Some, None, refl, subst, arith}
use Rattle.std.proofs.lemmas.Bool.Decides.{nat_tests}
use Rattle.std.specs.Prelude.{IsSome}
use Rattle.std.specs.Option.{option_and_then, option_map_or}
use Rattle.gatt_host.specs.Meaning.{once_heard, with_fragment}
use Rattle.gatt_host.specs.Packet.{fragment_left}
use Rattle.le_acl.specs.Frame.{is_enough, is_frame}
use Rattle.le_acl.specs.Fragment.{Fragment, Beginning, Continuation}
use Rattle.le_acl.specs.declared.frame.TheConstants.{MAX_FRAME}
use Rattle.le_acl.specs.Reassembler.{Assembly, assembled_of, no_assembly, with_more}
use Rattle.octet_io.proofs.Choices.{and_true_left}
use Rattle.octet_io.specs.Number.{Octets, from_two}

pub enough : (octets : Octets) → is_frame octets ≡ true → is_enough octets ≡ true
enough (low ∷ high ∷ channel_low ∷ channel_high ∷ payload) is =
    let states : (length payload == from_two low high) ≡ true =
    and_true_left (length payload == from_two low high) (nat_le (length (low ∷ high ∷ channel_low ∷ channel_high ∷ payload)) MAX_FRAME) is in
    grind (arith, nat_tests, states)
enough [] is = cc is
enough (a ∷ []) is = cc is
enough (a ∷ b ∷ []) is = cc is
enough (a ∷ b ∷ c ∷ []) is = cc is

pub gives_frame : (octets : Octets) → is_frame octets ≡ true → (assembled_of octets).frame ≡ Some octets
gives_frame octets is = rw (enough octets is, is) refl

pub leaves_nothing : (octets : Octets) → is_frame octets ≡ true → once_heard (assembled_of octets) ≡ no_assembly
leaves_nothing octets is = rw (enough octets is) refl

-- once a frame is heard nothing is left of it
made_whole : (octets : Octets) → IsSome (assembled_of octets).frame → once_heard (assembled_of octets) ≡ no_assembly
made_whole octets some =
    let by : (enough : Bool) → is_enough octets ≡ enough → is_enough octets ≡ true =
    λ enough is. elim enough as (λ enough. is_enough octets ≡ enough → is_enough octets ≡ true) [
      | true ↦ λ is. is
      | false ↦ λ short. cc (short, some)
    ] is in
    rw (by (is_enough octets) refl) refl

whole_left : (old : Assembly) (fragment : Fragment) → IsSome (with_fragment old fragment).frame → once_heard (with_fragment old fragment) ≡ no_assembly
whole_left old (Beginning octets) some = made_whole octets some
whole_left old (Continuation octets) some = by old.unfinished some
  where
    by : (unfinished : Option Octets) → IsSome (with_more unfinished octets).frame → once_heard (with_more unfinished octets) ≡ no_assembly
    by None some = refl
    by (Some earlier) some = made_whole (earlier ++ octets) some

pub nothing_left : (fragment : Option Fragment) (old joined : Assembly) → joined ≡ option_map_or (with_fragment old) fragment old
    → joined.frame ≡ option_and_then (λ fragment. (with_fragment old fragment).frame) fragment → IsSome joined.frame → fragment_left fragment old ≡ no_assembly
nothing_left None old joined after given some = cc (given, some)
nothing_left (Some fragment) old joined after given some = whole_left old fragment (subst (λ (joined : Assembly). IsSome joined.frame) after some)
