-- The buffers that a controller reports (Core 5.0, Vol 2 Part E, 7.4.5 and 7.8.2).
use Rattle.std.specs.Prelude.{◌==◌, ◌&&◌, nat_le, nat_lt, if◌then◌else◌, ◌∷◌, Option, Some, None, Result, Ok, Err}
use Rattle.std.specs.Result.{result_map_both}
use Rattle.le_hci.specs.declared.buffers.Buffers.{Buffers}
use Rattle.le_hci.specs.declared.buffers.TheConstants.{LEAST_LENGTH}
use Rattle.le_hci.specs.declared.init.InitFault.{InitFault}
use Rattle.le_hci.specs.declared.init.InitFault.TheVariants.{BadBuffers, Short}
use Rattle.octet_io.specs.Number.{Octets, from_two}

-- A peripheral needs at least one packet of the minimum length.
abbrev pub usable_of : Buffers → Result Buffers InitFault
usable_of buffers =
    if nat_le LEAST_LENGTH buffers.length && nat_lt 0 buffers.packets then Ok buffers
    else Err BadBuffers

-- LE Read Buffer Size returns length 0 if the buffers are shared.
abbrev pub le_buffers_of : Octets → Result (Option Buffers) InitFault
le_buffers_of (length_low ∷ length_high ∷ packets ∷ _) =
    if from_two length_low length_high == 0 then Ok None
    else result_map_both Some (λ fault. fault)
    (usable_of (record { length = from_two length_low length_high; packets = packets }))
le_buffers_of _ = Err Short

-- Read Buffer Size returns the lengths for ACL and SCO, then the numbers of packets.
abbrev pub shared_buffers_of : Octets → Result Buffers InitFault
shared_buffers_of
    (length_low ∷ length_high ∷ sco_length ∷ packets_low ∷ packets_high ∷ sco_low ∷ sco_high ∷ _) =
    usable_of
    (record {
      length = from_two length_low length_high;
      packets = from_two packets_low packets_high;
    })
shared_buffers_of _ = Err Short
