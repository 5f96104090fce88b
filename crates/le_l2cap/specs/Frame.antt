-- The basic information frame (Core 5.0, Vol 3 Part A, 3.1).
use Rattle.std.specs.Prelude.{ℕ, ◌^◌, ◌<◌, ◌==◌, if◌then◌else◌, ◌∷◌, ◌++◌, length, Result, Ok, Err}
use Rattle.octet_io.specs.Number.{Octets, two_octets, from_two}
use Rattle.le_l2cap.specs.declared.frame.Frame.{Frame}
use Rattle.le_l2cap.specs.declared.frame.Skip.{Skip}

-- A frame: its channel and its payload.
pub record BasicFrame : Type 0 where
  pub cid : ℕ
  pub payload : Octets

abbrev pub frame_contents : Frame → BasicFrame
frame_contents frame = record { cid = frame.cid; payload = frame.payload.now }

-- The octets of a frame: payload length, channel, payload.
abbrev pub frame_spelled : BasicFrame → Octets
frame_spelled frame = two_octets (length frame.payload) ++ two_octets frame.cid ++ frame.payload

-- Both fields of the header have 16 bits.
pub record HasLengthAndChannel (frame : BasicFrame) : Type 0 where
  pub length : length frame.payload < 2 ^ 16
  pub channel : frame.cid < 2 ^ 16

-- The frame in octets, whose payload must have the length that the header states.
abbrev pub frame_of : Octets → Result BasicFrame Skip
frame_of (length_low ∷ length_high ∷ cid_low ∷ cid_high ∷ payload) =
    if length payload == from_two length_low length_high
    then Ok (record { cid = from_two cid_low cid_high; payload = payload })
    else Err (record {})
frame_of _ = Err (record {})
