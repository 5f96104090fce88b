-- State of a capture, and what it records.
use Rattle.std.specs.Prelude.{◌≡◌, ℕ, Bool, true, false, List, ◌++◌, Option, Some, None}
use Rattle.std.specs.Io.KnownBytes.{Appends}
use Rattle.std.specs.List.{All}
use Rattle.octet_io.specs.Number.{Octets}
use Rattle.octet_io.specs.Stream.{WritesFront}
use Rattle.btsnoop.specs.Packet.{IsPacket, IsUnfinished, IsLostPacket, joined_packets}
use Rattle.btsnoop.specs.Record.{file_header, records_of}
use Rattle.btsnoop.specs.declared.record.Direction.{Direction}
use Rattle.btsnoop.specs.declared.capture.Capture.{Capture}
use Rattle.btsnoop.specs.declared.capture.CaptureFault.{CaptureFault}
use Rattle.btsnoop.specs.declared.capture.CaptureFault.TheVariants.{Write, Packet}

-- The fields of a capture (code only).
abbrev pub sink_of : {C : Type 0} → Capture C → C
sink_of capture = capture.sink

abbrev pub capture_fault : {C : Type 0} → Capture C → Option CaptureFault
capture_fault capture = capture.fault

abbrev pub sent_by_capture : {C : Type 0} → Capture C → Octets
sent_by_capture capture = capture.sent

abbrev pub received_of : {C : Type 0} → Capture C → Octets
received_of capture = capture.received

-- The file header was written, or a prefix of it.
abbrev pub Begins : Option CaptureFault → Option Octets → Option Octets → Type 0
Begins None held holds = Appends held holds file_header
Begins (Some Write) held holds = WritesFront file_header held holds
Begins (Some Packet) held holds = ⊥

-- The octets so far are whole packets, all recorded, and an unfinished one.
pub record CapturesAll (direction : Direction) (time : ℕ) (begun octets begins : Octets)
    (held holds : Option Octets) : Type 0 where
  pub packets : List Octets
  pub whole : All IsPacket packets
  pub parts : begun ++ octets ≡ joined_packets packets ++ begins
  pub unfinished : IsUnfinished begins
  pub recorded : Appends held holds (records_of direction time packets)

-- The octets so far begin with packets, of whose records a prefix was written.
pub record CapturesFront (direction : Direction) (time : ℕ) (begun octets : Octets)
    (held holds : Option Octets) : Type 0 where
  pub packets : List Octets
  pub whole : All IsPacket packets
  pub left : Octets
  pub parts : begun ++ octets ≡ joined_packets packets ++ left
  pub recorded : WritesFront (records_of direction time packets) held holds

-- The octets so far begin with packets, all recorded, and then no packet begins.
pub record CapturesUpTo (direction : Direction) (time : ℕ) (begun octets : Octets)
    (held holds : Option Octets) : Type 0 where
  pub packets : List Octets
  pub whole : All IsPacket packets
  pub lost : Octets
  pub is_lost : IsLostPacket lost
  pub left : Octets
  pub parts : begun ++ octets ≡ joined_packets packets ++ (lost ++ left)
  pub recorded : Appends held holds (records_of direction time packets)

-- The outcome of capturing octets.
abbrev pub Captures : Direction → ℕ → Octets → Octets → Option CaptureFault → Octets → Option Octets
    → Option Octets → Type 0
Captures direction time begun octets None begins held holds =
    CapturesAll direction time begun octets begins held holds
Captures direction time begun octets (Some Write) begins held holds =
    CapturesFront direction time begun octets held holds
Captures direction time begun octets (Some Packet) begins held holds =
    CapturesUpTo direction time begun octets held holds

-- The fault that remains for the next stream.
abbrev pub fault_of_next : Option CaptureFault → Option CaptureFault
fault_of_next None = None
fault_of_next (Some Write) = Some Write
fault_of_next (Some Packet) = None

abbrev pub is_write_failure : Option CaptureFault → Bool
is_write_failure (Some Write) = true
is_write_failure (Some Packet) = false
is_write_failure None = false
