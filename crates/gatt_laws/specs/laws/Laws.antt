-- Laws of every run, for any input.
use Rattle.std.specs.Prelude.{◌≡◌, List, [], ◌∷◌, ◌++◌, map, None}
use Rattle.gatt_laws.specs.machine.Input.{Item, AnOctet, Run, after_item, after_items, after_packet, run, stopped, unless_stopped, with_unfinished}
use Rattle.gatt_laws.specs.machine.Packets.{Desync}
use Rattle.gatt_laws.specs.machine.Start.{Start}
use Rattle.le_h4.specs.Division.{Division, End, Unfinished, Lost, before, division}
use Rattle.le_h4.specs.Packet.{Packet, NoneYet, first_of}
use Rattle.octet_io.specs.Number.{Octets}

abbrev pub ContinuesItsRun : Type 0
ContinuesItsRun = (start : Start) (input : List Item) (item : Item) →
    run start (input ++ item ∷ []) ≡ after_item (run start input) item

-- Packets that were sent stay sent, and later ones follow them.
abbrev pub ExtendsWhatIsSent : Run → Run → Type 0
ExtendsWhatIsSent old new = (later : List Octets) × (new.sent ≡ old.sent ++ later)

abbrev pub KeepsWhatIsSent : Type 0
KeepsWhatIsSent =
    (start : Start) (input more : List Item)
    → ExtendsWhatIsSent (run start input) (run start (input ++ more))

-- Packets in their order, up to the first that stops the host, then the end of their division.
abbrev pub after_packets : Run → List Packet → End → Run
after_packets run [] Unfinished = run
after_packets run [] (Lost indicator) = stopped run (Desync indicator)
after_packets run (packet ∷ packets) end =
    let new = after_packet run packet in
    unless_stopped new.intake.fault new (after_packets new packets end)

abbrev pub after_division : Run → Division → Run
after_division run division = after_packets run division.packets division.end

abbrev pub with_nothing_unfinished : Run → Run
with_nothing_unfinished run = with_unfinished run []

-- Octets mean what the packets mean into which they divide, after the octets that were unfinished;
-- cuts do not matter.
abbrev pub TakesTheDivision : Type 0
TakesTheDivision =
    (old : Run) (octets : Octets) → old.intake.fault ≡ None → first_of old.intake.unfinished
    ≡ NoneYet →
    with_nothing_unfinished (after_items old (map AnOctet octets))
    ≡ with_nothing_unfinished (after_division old (division (old.intake.unfinished ++ octets)))

-- Less than a packet is unfinished.
abbrev pub LeavesLessThanAPacket : Type 0
LeavesLessThanAPacket =
    (start : Start) (input : List Item) → first_of (run start input).intake.unfinished ≡ NoneYet

-- Octets that follow divide together with the unfinished ones, after the packets before.
abbrev pub DividesOn : Octets → Type 0
DividesOn octets = (old : Run) → old.intake.fault ≡ None → first_of old.intake.unfinished ≡ NoneYet
    →
    let new = after_items old (map AnOctet octets) in
    new.intake.fault ≡ None → (rest : Octets) →
    division (old.intake.unfinished ++ (octets ++ rest))
    ≡ before (division (old.intake.unfinished ++ octets)).packets
    (division (new.intake.unfinished ++ rest))
