-- The L2CAP frames of one connection's ACL fragments (Core 5.0, Vol 3 Part A, 3.1 and 7.2.1).
use Rattle.std.specs.Prelude.{◌≡◌, ℕ, ◌<◌, ◌≤◌, ◌==◌, nat_le, Bool, true, false, ◌&&◌, not, if◌then◌else◌, List, [], ◌∷◌, ◌++◌, length, reverse, Option, Some, None}
use Rattle.std.specs.Option.{option_map}
use Rattle.octet_io.specs.Number.{Octets, from_two}
use Rattle.le_acl.specs.Fragment.{Fragment, Beginning, Continuation}
use Rattle.le_acl.specs.Packets.{Pdu, frame_octets, fragments_of}
use Rattle.le_acl.specs.declared.frame.TheConstants.{MAX_FRAME}
use Rattle.octet_io.specs.declared.pdu.TheConstants.{MAX_PDU}

-- The octets contain at least the payload that their header states.
abbrev pub is_enough : Octets → Bool
is_enough (low ∷ high ∷ channel_low ∷ channel_high ∷ payload) =
    nat_le (from_two low high) (length payload)
is_enough _ = false

-- The octets are exactly one frame, not longer than `MAX_FRAME` (this profile's own).
abbrev pub is_frame : Octets → Bool
is_frame (low ∷ high ∷ channel_low ∷ channel_high ∷ payload) =
    (length payload == from_two low high)
    && nat_le (length (low ∷ high ∷ channel_low ∷ channel_high ∷ payload)) MAX_FRAME
is_frame _ = false

-- The newest run: the fragments from the newest beginning on, newest first.
abbrev pub newest_run : List Fragment → Option (List Octets)
newest_run [] = None
newest_run (Beginning octets ∷ older) = Some (octets ∷ [])
newest_run (Continuation octets ∷ older) = option_map (λ run. octets ∷ run) (newest_run older)

-- The octets of a run, in order of arrival.
abbrev pub octets_of_run : List Octets → Octets
octets_of_run [] = []
octets_of_run (octets ∷ run) = octets_of_run run ++ octets

-- The run without its newest fragments is never enough.
abbrev pub is_shortest : List Octets → Bool
is_shortest [] = true
is_shortest (octets ∷ run) = not (is_enough (octets_of_run run)) && is_shortest run

-- The frame that the newest fragment of a run completes.
abbrev pub frame_in : List Octets → Option Octets
frame_in run = if is_enough (octets_of_run run) && (is_shortest run && is_frame (octets_of_run run))
    then Some (octets_of_run run) else None

abbrev pub of_run : Option (List Octets) → Option Octets
of_run None = None
of_run (Some run) = frame_in run

-- (P-WIRE-5)
unfoldable pub frame_at : List Fragment → Option Octets
frame_at fragments = of_run (newest_run fragments)

-- The fragments of a PDU make its frame, whatever came before.
abbrev pub FragmentsMakeTheirFrame : Type 0
FragmentsMakeTheirFrame =
    (size : ℕ) (pdu : Pdu) (older : List Fragment) → 0 < size → length pdu.1 ≤ MAX_PDU
    → frame_at (reverse (fragments_of size pdu) ++ older) ≡ Some (frame_octets pdu)
