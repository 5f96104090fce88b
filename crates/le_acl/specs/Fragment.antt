-- The fragments of frames, as data of ACL packets (Core 5.0, Vol 2 Part E, 5.4.2, and Vol 3 Part A,
-- 7.2.1).
use Rattle.std.specs.Prelude.{ℕ, ◌==◌, ◌||◌, if◌then◌else◌, Option, Some, None}
use Rattle.octet_io.specs.Number.{Octets}
use Rattle.le_acl.specs.declared.boundary.TheConstants.{CONTINUATION, FIRST, FIRST_NOT_FLUSHED}

pub data Fragment : Type 0 where
  Beginning : (octets : Octets) → Fragment
  Continuation : (octets : Octets) → Fragment

abbrev pub data_of : Fragment → Octets
data_of (Beginning octets) = octets
data_of (Continuation octets) = octets

-- The packet boundary flag of a fragment to the controller.
abbrev pub flag_of : Fragment → ℕ
flag_of (Beginning octets) = FIRST_NOT_FLUSHED
flag_of (Continuation octets) = CONTINUATION

-- The fragment from the controller, by its boundary and broadcast flags; `FIRST_NOT_FLUSHED` also
-- begins a frame, and other flags are ignored (this profile's own). (P-WIRE-5)
abbrev pub fragment_of : ℕ → ℕ → Octets → Option Fragment
fragment_of boundary broadcast octets =
    if broadcast == 0
    then if boundary == FIRST || boundary == FIRST_NOT_FLUSHED then Some (Beginning octets)
    else if boundary == CONTINUATION then Some (Continuation octets)
    else None
    else None
