-- The btsnoop format; its numbers have their highest octet first.
use Rattle.std.specs.Prelude.{◌≡◌, ℕ, ◌+◌, ◌*◌, ◌%◌, ◌^◌, ◌==◌, if◌then◌else◌, List, [], ◌∷◌, ◌++◌, length}
use Rattle.std.specs.Int.{w32, w64, to_be_bytes}
use Rattle.std.specs.List.{flat_map}
use Rattle.octet_io.specs.Number.{Octets}
use Rattle.le_h4.specs.declared.indicator.TheConstants.{COMMAND, EVENT}
use Rattle.btsnoop.specs.declared.record.Direction.{Direction}
use Rattle.btsnoop.specs.declared.record.Direction.TheVariants.{Sent, Received}

abbrev pub identification : Octets
identification = 0x62 ∷ 0x74 ∷ 0x73 ∷ 0x6E ∷ 0x6F ∷ 0x6F ∷ 0x70 ∷ 0x00 ∷ []

-- The file header: `btsnoop` and a zero, version 1, and data link 1002 (H4).
unfoldable pub file_header : Octets
file_header = identification ++ to_be_bytes w32 1 ++ to_be_bytes w32 1002

-- Bit 0 is set if the packet comes from the controller.
abbrev pub direction_flag : Direction → ℕ
direction_flag Sent = 0
direction_flag Received = 1

-- Bit 1 is set for a command or an event.
abbrev pub kind_flag : Octets → ℕ
kind_flag (indicator ∷ octets) = if indicator == COMMAND then 2 else if indicator == EVENT then 2
    else 0
kind_flag [] = 0

abbrev pub flags_of : Direction → Octets → ℕ
flags_of direction packet = direction_flag direction + kind_flag packet

-- Microseconds from the year 0 to 1970 for btsnoop readers: 719,540 days, twelve more than
-- Gregorian, as Symbian has a leap year every fourth year before 1600.
abbrev pub epoch : ℕ
epoch = 719540 * 86400 * 1000000

-- A record's time, from microseconds since 1970.
abbrev pub timestamp : ℕ → ℕ
timestamp time = (time + epoch) % 2 ^ 64

-- A record's header: length of the packet, length included (the same), flags, packets dropped (0:
-- not counted), and time.
unfoldable pub header_of : Direction → ℕ → Octets → Octets
header_of direction time packet =
    to_be_bytes w32 (length packet) ++ to_be_bytes w32 (length packet)
    ++ to_be_bytes w32 (flags_of direction packet)
    ++ to_be_bytes w32 0 ++ to_be_bytes w64 (timestamp time)

-- The record of a packet, which begins at its indicator.
abbrev pub record_of : Direction → ℕ → Octets → Octets
record_of direction time packet = header_of direction time packet ++ packet

abbrev pub records_of : Direction → ℕ → List Octets → Octets
records_of direction time packets = flat_map (record_of direction time) packets

-- An example: HCI_Reset at 22:13:20 on 14 November 2023, and its Command Complete event a
-- microsecond later.
abbrev pub reset_command : Octets
reset_command = 0x01 ∷ 0x03 ∷ 0x0C ∷ 0x00 ∷ []

abbrev pub reset_complete : Octets
reset_complete = 0x04 ∷ 0x0E ∷ 0x04 ∷ 0x01 ∷ 0x03 ∷ 0x0C ∷ 0x00 ∷ []

abbrev pub worked_example : Octets
worked_example =
    0x62 ∷ 0x74 ∷ 0x73 ∷ 0x6E ∷ 0x6F ∷ 0x6F ∷ 0x70 ∷ 0x00
    ∷ 0x00 ∷ 0x00 ∷ 0x00 ∷ 0x01 ∷ 0x00 ∷ 0x00 ∷ 0x03 ∷ 0xEA
    ∷ 0x00 ∷ 0x00 ∷ 0x00 ∷ 0x04 ∷ 0x00 ∷ 0x00 ∷ 0x00 ∷ 0x04 ∷ 0x00 ∷ 0x00 ∷ 0x00 ∷ 0x02 ∷ 0x00
    ∷ 0x00 ∷ 0x00 ∷ 0x00
    ∷ 0x00 ∷ 0xE2 ∷ 0xE7 ∷ 0xD7 ∷ 0x27 ∷ 0x4D ∷ 0xC0 ∷ 0x00
    ∷ 0x01 ∷ 0x03 ∷ 0x0C ∷ 0x00
    ∷ 0x00 ∷ 0x00 ∷ 0x00 ∷ 0x07 ∷ 0x00 ∷ 0x00 ∷ 0x00 ∷ 0x07 ∷ 0x00 ∷ 0x00 ∷ 0x00 ∷ 0x03 ∷ 0x00
    ∷ 0x00 ∷ 0x00 ∷ 0x00
    ∷ 0x00 ∷ 0xE2 ∷ 0xE7 ∷ 0xD7 ∷ 0x27 ∷ 0x4D ∷ 0xC0 ∷ 0x01
    ∷ 0x04 ∷ 0x0E ∷ 0x04 ∷ 0x01 ∷ 0x03 ∷ 0x0C ∷ 0x00 ∷ []

abbrev pub SpellsTheExample : Type 0
SpellsTheExample =
    file_header ++ record_of Sent 1700000000000000 reset_command
    ++ record_of Received 1700000000000001 reset_complete ≡ worked_example
