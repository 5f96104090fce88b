-- State of a reassembler between two fragments.
use Rattle.std.specs.Prelude.{◌≡◌, nat_le, if◌then◌else◌, List, [], ◌∷◌, ◌++◌, length, Option, Some, None}
use Rattle.octet_io.specs.Number.{Octets}
use Rattle.le_acl.specs.declared.reassembler.State.{State}
use Rattle.le_acl.specs.declared.reassembler.State.TheVariants.{Idle, Unfinished, Whole}
use Rattle.le_acl.specs.Fragment.{Fragment, Beginning, Continuation}
use Rattle.le_acl.specs.Frame.{is_enough, is_frame, frame_at}
use Rattle.le_acl.specs.declared.frame.TheConstants.{MAX_FRAME}

-- The octets of an unfinished frame, and the frame that the newest fragment completed.
pub record Assembly : Type 0 where
  pub unfinished : Option Octets
  pub frame : Option Octets

abbrev pub no_assembly : Assembly
no_assembly = record { unfinished = None; frame = None }

-- The state after octets of a run, of which fewer were not enough.
abbrev pub assembled_of : Octets → Assembly
assembled_of octets =
    if is_enough octets
    then record { unfinished = None; frame = if is_frame octets then Some octets else None }
    else record {
      unfinished = if nat_le (length octets) MAX_FRAME then Some octets
          else None;
      frame = None;
    }

abbrev pub with_more : Option Octets → Octets → Assembly
with_more None octets = no_assembly
with_more (Some earlier) octets = assembled_of (earlier ++ octets)

abbrev pub with_continuation : Assembly → Octets → Assembly
with_continuation old octets = with_more old.unfinished octets

-- The state after fragments, newest first.
abbrev pub assembly_after : List Fragment → Assembly
assembly_after [] = no_assembly
assembly_after (Beginning octets ∷ older) = assembled_of octets
assembly_after (Continuation octets ∷ older) = with_continuation (assembly_after older) octets

-- The newest fragment yields the frame that it completes.
abbrev pub GivesFrames : Type 0
GivesFrames = (fragments : List Fragment) → (assembly_after fragments).frame ≡ frame_at fragments

-- The fields of a reassembler as one value.
abbrev pub assembly_of : State → Octets → Assembly
assembly_of Idle octets = no_assembly
assembly_of Unfinished octets = record { unfinished = Some octets; frame = None }
assembly_of Whole octets = record { unfinished = None; frame = Some octets }
