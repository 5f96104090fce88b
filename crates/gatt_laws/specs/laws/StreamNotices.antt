-- The notices of octets are those of the packets into which they divide.
use Rattle.std.specs.Prelude.{◌≡◌, List, map, ◌++◌, None}
use Rattle.gatt_laws.specs.machine.Event.{Event}
use Rattle.gatt_laws.specs.machine.Input.{AnOctet, APacket, Run}
use Rattle.gatt_laws.specs.machine.Notice.{noticed, of_items, received_of_event}
use Rattle.gatt_laws.specs.machine.State.{State}
use Rattle.le_h4.specs.Division.{division}
use Rattle.le_h4.specs.Packet.{NoneYet, first_of}
use Rattle.octet_io.specs.Number.{Octets}

-- Unfinished octets come first; the cuts do not matter.
abbrev pub IsOfTheDivision : {A : Type 0} → (State → Event → List A) → Type 0
IsOfTheDivision of_event = (old : Run) (octets : Octets) → old.intake.fault ≡ None
    → first_of old.intake.unfinished ≡ NoneYet
    → of_items of_event old (map AnOctet octets)
    ≡ of_items of_event old (map APacket (division (old.intake.unfinished ++ octets)).packets)

abbrev pub TellsOfTheDivision : Type 0
TellsOfTheDivision = IsOfTheDivision noticed

-- A listener receives the same values.
abbrev pub ReceivesOfTheDivision : Type 0
ReceivesOfTheDivision = IsOfTheDivision received_of_event
