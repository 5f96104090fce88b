-- Two runs in which a phone sees the same while another connection comes and asks at other times: the same is given to it.
use Rattle.std.proofs.Common.{◌∙◌, sym}
use Rattle.std.specs.Prelude.{◌≡◌, ℕ, refl, false, List, [], ◌∷◌, ◌++◌, Some}
use Rattle.att_pdu.specs.Form.{form_of}
use Rattle.att_reads.specs.Answer.{value_answer}
use Rattle.att_writes.specs.Applied.{after_entries}
use Rattle.gatt_laws.proofs.isolation.SameRun.{same_view_same_packets}
use Rattle.gatt_laws.proofs.examples.Runs.{host, stream, initialised, command_complete, frame, told, update}
use Rattle.gatt_laws.proofs.examples.Tables.{door, phone, tablet}
use Rattle.gatt_laws.specs.machine.Controller.{commands_due}
use Rattle.gatt_laws.specs.machine.Event.{Connected, Asks}
use Rattle.gatt_laws.specs.machine.Heard.{after_hearing}
use Rattle.gatt_laws.specs.machine.Input.{Item, run, after_item}
use Rattle.gatt_laws.specs.machine.Packets.{packet_event}
use Rattle.gatt_laws.specs.laws.Runs.{events_of}
use Rattle.gatt_laws.specs.laws.SameView.{IsAlwaysIndicated, AreServedAlike}
use Rattle.gatt_laws.specs.laws.Given.{packets_to}
use Rattle.gatt_laws.specs.machine.State.{step, change_of}
use Rattle.gatt_laws.specs.machine.Effect.{live_effect}
use Rattle.gatt_laws.specs.laws.View.{View, Happens, Updates, Writes, shown, view}
use Rattle.le_acl.specs.Frame.{frame_at}
use Rattle.le_acl.specs.Packets.{pieces}
use Rattle.le_hci.specs.declared.peer.Peer.{Peer}
use Rattle.octet_io.specs.Number.{Octets}

-- a connection of this handle comes, and sends a PDU
abbrev pub comes : ℕ → Peer → Octets
comes handle peer =
    0x04 ∷ 0x3E ∷ 0x13 ∷ 0x01 ∷ 0x00 ∷ handle ∷ 0x00 ∷ 0x01 ∷ peer.kind ∷ peer.address
    ++ 0x18 ∷ 0x00 ∷ 0x00 ∷ 0x00 ∷ 0x48 ∷ 0x00 ∷ 0x00 ∷ []

abbrev pub sends : ℕ → Octets → Octets
sends handle pdu = 0x02 ∷ handle ∷ 0x20 ∷ frame pdu

-- it asks for notifications, or reads, or writes a value without an answer
subscribes : Octets
subscribes = 0x12 ∷ 0x07 ∷ 0x00 ∷ 0x01 ∷ 0x00 ∷ []

reads : Octets
reads = 0x0A ∷ 0x03 ∷ 0x00 ∷ []

writes : Octets
writes = 0x52 ∷ 0x15 ∷ 0x00 ∷ 0x61 ∷ []

-- the phone comes first, or the tablet
phone_first : List Item
phone_first =
    stream (initialised 4 ++ comes 0x40 phone ++ command_complete 0x200A ++ sends 0x40 subscribes ++ comes 0x41 tablet ++ sends 0x41 reads ++ sends 0x41 writes)
    ++ update 6 (0x01 ∷ [])

tablet_first : List Item
tablet_first =
    stream (initialised 4 ++ comes 0x41 tablet ++ command_complete 0x200A ++ sends 0x41 reads ++ comes 0x40 phone ++ sends 0x40 subscribes ++ sends 0x41 writes)
    ++ update 6 (0x01 ∷ [])

-- what the phone sees
seen_by_the_phone : View
seen_by_the_phone = record {
  buffers = Some (record { length = 27; packets = 4 });
  items =
      Happens (Connected 0x40 phone)
      ∷ Happens (Asks subscribes)
      ∷ Writes (record { values = (21, 0x61 ∷ []) ∷ []; bits = []; ceases = false })
      ∷ Updates 6 (0x01 ∷ [])
      ∷ [];
}

first_view : view 0 (host door 2) phone_first ≡ seen_by_the_phone
unfolding run events_of shown after_item packet_event step change_of live_effect after_hearing commands_due frame_at form_of pieces after_entries value_answer
    subscribes reads writes phone_first tablet_first seen_by_the_phone
first_view = refl

second_view : view 1 (host door 2) tablet_first ≡ seen_by_the_phone
unfolding run events_of shown after_item packet_event step change_of live_effect after_hearing commands_due frame_at form_of pieces after_entries value_answer
    subscribes reads writes phone_first tablet_first seen_by_the_phone
second_view = refl

-- nothing waits for it
first_released : IsAlwaysIndicated 0 (host door 2) phone_first
unfolding run events_of after_item packet_event step change_of live_effect after_hearing commands_due frame_at form_of pieces after_entries value_answer
    subscribes reads writes phone_first tablet_first
first_released = (
  λ free. refl,
  (
    λ free. refl,
    (
      λ free. refl,
      (
        λ free. refl,
        (
          λ free. refl,
          (λ free. refl, (λ free. refl, (λ free. refl, (λ free. refl, (λ free. refl, (λ free. refl, (λ free. refl, (λ free. refl, (λ free. refl, tt))))))))),
        ),
      ),
    ),
  ),
)

second_released : IsAlwaysIndicated 1 (host door 2) tablet_first
unfolding run events_of after_item packet_event step change_of live_effect after_hearing commands_due frame_at form_of pieces after_entries value_answer
    subscribes reads writes phone_first tablet_first
second_released = (
  λ free. refl,
  (
    λ free. refl,
    (
      λ free. refl,
      (
        λ free. refl,
        (
          λ free. refl,
          (λ free. refl, (λ free. refl, (λ free. refl, (λ free. refl, (λ free. refl, (λ free. refl, (λ free. refl, (λ free. refl, (λ free. refl, tt))))))))),
        ),
      ),
    ),
  ),
)

-- so it is served alike, and this is what it is given
served_alike : AreServedAlike (host door 2) 0 1 phone_first tablet_first
served_alike = same_view_same_packets (host door 2) 0 1 phone_first tablet_first (first_view ∙ sym second_view) first_released second_released

is_given : packets_to 1 (host door 2) tablet_first ≡ told (0x13 ∷ []) ∷ told (0x1B ∷ 0x06 ∷ 0x00 ∷ 0x01 ∷ []) ∷ []
unfolding run events_of after_item packet_event step change_of live_effect after_hearing commands_due frame_at form_of pieces after_entries value_answer
    subscribes reads writes phone_first tablet_first
is_given = refl
