-- A controller is initialised, and a connection comes: each octet of it.
use Rattle.std.specs.Prelude.{◌≡◌, refl, [], ◌∷◌, ◌++◌, replicate, Some}
use Rattle.gatt_laws.proofs.examples.Runs.{host, stream, initialised, connected, enable, sent_to}
use Rattle.gatt_laws.proofs.examples.Tables.{door, phone}
use Rattle.gatt_laws.specs.machine.Controller.{commands_due}
use Rattle.gatt_laws.specs.machine.Input.{run, after_item}
use Rattle.gatt_laws.specs.machine.Packets.{packet_event, Desync}
use Rattle.gatt_laws.specs.machine.State.{step, change_of, out}
use Rattle.gatt_laws.specs.machine.Effect.{live_effect}
use Rattle.octet_io.specs.Number.{Octets}
use Rattle.gatt_laws.specs.machine.Heard.{after_hearing}

-- nothing is received yet, and Reset is sent
opening : (run (host door 2) []).sent ≡ (0x01 ∷ 0x03 ∷ 0x0C ∷ 0x00 ∷ []) ∷ []
unfolding run commands_due
opening = refl

initialisation : (run (host door 2) (stream (initialised 4))).sent ≡
    (0x01 ∷ 0x03 ∷ 0x0C ∷ 0x00 ∷ [])
    ∷ (0x01 ∷ 0x01 ∷ 0x0C ∷ 0x08 ∷ 0xFF ∷ 0xFF ∷ 0xFF ∷ 0xFF ∷ 0xFF ∷ 0x9F ∷ 0x00 ∷ 0x20 ∷ [])
    ∷ (0x01 ∷ 0x01 ∷ 0x20 ∷ 0x08 ∷ 0x1F ∷ replicate 7 0x00)
    ∷ (0x01 ∷ 0x02 ∷ 0x20 ∷ 0x00 ∷ [])
    ∷ (0x01 ∷ 0x06 ∷ 0x20 ∷ 0x0F ∷ 0xA0 ∷ 0x00 ∷ 0xA0 ∷ 0x00 ∷ 0x00 ∷ 0x00 ∷ 0x00 ∷ replicate 6 0x00 ++ 0x07 ∷ 0x00 ∷ [])
    ∷ (0x01 ∷ 0x08 ∷ 0x20 ∷ 0x20 ∷ 0x03 ∷ 0x02 ∷ 0x01 ∷ 0x06 ∷ replicate 28 0x00)
    ∷ (0x01 ∷ 0x0A ∷ 0x20 ∷ 0x01 ∷ 0x01 ∷ [])
    ∷ []
unfolding run after_item packet_event step change_of commands_due out
initialisation = refl

-- a connection comes, and advertising is enabled for the second slot
connection : sent_to door 2 4 phone [] ≡ enable ∷ []
unfolding run after_item packet_event step change_of live_effect after_hearing commands_due out
connection = refl

-- an octet that begins no packet stops the host for good
desync : (run (host door 2) (stream (initialised 4 ++ 0x07 ∷ connected phone))).intake.fault ≡ Some (Desync 0x07)
unfolding run after_item packet_event step change_of live_effect after_hearing commands_due out
desync = refl

-- a command waits until the controller takes one: here none with its first answer, and one with an answer to no command
no_credit : Octets
no_credit = 0x04 ∷ 0x0E ∷ 0x04 ∷ 0x00 ∷ 0x03 ∷ 0x0C ∷ 0x00 ∷ []

credit : Octets
credit = 0x04 ∷ 0x0E ∷ 0x03 ∷ 0x01 ∷ 0x00 ∷ 0x00 ∷ []

set_event_mask : Octets
set_event_mask = 0x01 ∷ 0x01 ∷ 0x0C ∷ 0x08 ∷ 0xFF ∷ 0xFF ∷ 0xFF ∷ 0xFF ∷ 0xFF ∷ 0x9F ∷ 0x00 ∷ 0x20 ∷ []

waits : (run (host door 2) (stream no_credit)).sent ≡ (0x01 ∷ 0x03 ∷ 0x0C ∷ 0x00 ∷ []) ∷ []
unfolding run after_item packet_event step change_of commands_due out no_credit
waits = refl

is_sent_once : (run (host door 2) (stream (no_credit ++ credit ++ connected phone ++ credit))).sent ≡ (0x01 ∷ 0x03 ∷ 0x0C ∷ 0x00 ∷ []) ∷ set_event_mask ∷ []
unfolding run after_item packet_event step change_of live_effect after_hearing commands_due out no_credit credit set_event_mask
is_sent_once = refl
