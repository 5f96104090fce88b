-- The fields of a deframer as one `Deframing` (code only).
use Rattle.std.specs.Prelude.{◌≡◌, ℕ, ◌<◌, Bool, true, false, [], Option, None, IsSome}
use Rattle.octet_io.specs.Number.{Octets}
use Rattle.le_h4.specs.Packet.{Packet, first_of}
use Rattle.le_h4.specs.Deframer.{Deframing}
use Rattle.le_h4.specs.Progress.{IsWithinFirst, packet_in}

-- A marked packet is all that was gathered.
abbrev pub unless_marked : Bool → Octets → Octets
unless_marked true gathered = []
unless_marked false gathered = gathered

abbrev pub marked_in : Bool → Octets → Option Packet
marked_in true gathered = packet_in (first_of gathered)
marked_in false gathered = None

abbrev pub deframing_of : ℕ → Octets → Bool → Deframing
deframing_of skipping gathered marked =
    record {
      skipping = skipping;
      gathered = unless_marked marked gathered;
      marked = marked_in marked gathered;
    }

-- The gathered octets are at most one packet, and none while octets are skipped.
pub record IsHeld (skipping : ℕ) (gathered : Octets) (marked : Bool) : Type 0 where
  pub fits : IsWithinFirst gathered
  pub passes : 0 < skipping → gathered ≡ []
  pub whole : marked ≡ true → IsSome (packet_in (first_of gathered))
  pub unfinished : marked ≡ false → packet_in (first_of gathered) ≡ None
