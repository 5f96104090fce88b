-- The capture of the packets of a controller (this profile's own).
use Rattle.std.specs.Prelude.{Bool, true, false, codes, Option}
use Rattle.std.specs.Option.{option_and_then}
use Rattle.octet_io.specs.Number.{Octets}
use Rattle.btsnoop.specs.Capture.{capture_fault}
use Rattle.btsnoop.specs.declared.capture.CaptureFault.{CaptureFault}
use Rattle.btsnoop.specs.declared.capture.CaptureFault.TheVariants.{Packet, Write}
use Rattle.device_io.specs.declared.recording.Recording.{Recording}

-- The fault for which no more packets are recorded.
abbrev pub fault_of : Recording → Option CaptureFault
fault_of recording = option_and_then capture_fault recording.capture

-- The words of the log about a fault. A capture that has reached its limit is full.
abbrev pub words_of : CaptureFault → Bool → Octets
words_of Packet full = codes "capture: no packet of at most 1029 octets begins so"
words_of Write true = codes "capture: full: no more packets are recorded"
words_of Write false = codes "capture: not written any more"
